-- Days by rank as falling words (01, "Choosing the days": "Highest").
use Rattle.std.specs.Prelude.{ℕ, ◌+◌, ◌-◌, ◌*◌, max, min, Bool, List, [], ◌∷◌, ◌++◌, take, replicate, ltb}
use Rattle.method.specs.declared.Request.{Request}
use Rattle.engine_ranking.specs.declared.Ranking.{Ranking}
use Rattle.method.specs.Table.{Day}
use Rattle.method.specs.Eligible.{event_sum, insert_by, sort_by}

-- 45 for D-1 down to 1 for D-45
abbrev pub nearness : Request → ℕ → ℕ
nearness r d = d + 46 - r.event

unfoldable pub word : Request → ℕ × Day → ℕ
word r p = 64 * event_sum r p.1 + nearness r p.0

abbrev pub above : ℕ → ℕ → Bool
above a b = ltb b a

abbrev pub insert_down : ℕ → List ℕ → List ℕ
insert_down = insert_by above

abbrev pub sort_down : List ℕ → List ℕ
sort_down = sort_by above

-- the first `n` of a list that ends in as many noughts as it needs
abbrev pub padded : ℕ → List ℕ → List ℕ
padded n l = take n (l ++ replicate n 0)

-- a word put into a row, the least lost: each place keeps the greater of its own and the one in the hand, and hands on the other
unfoldable pub pushed : ℕ → List ℕ → List ℕ
pushed w [] = []
pushed w (x ∷ row) = max w x ∷ pushed (min w x) row

-- words put into a row, one after the other
unfoldable pub insert_all : List ℕ → List ℕ → List ℕ
insert_all [] row = row
insert_all (x ∷ xs) row = insert_all xs (pushed x row)

-- as many words as a ranking can count
abbrev pub most_words : ℕ
most_words = 4294967295

-- a ranking of no words
abbrev pub no_words : Ranking
no_words = record { words = replicate 10 0; count = 0 }
