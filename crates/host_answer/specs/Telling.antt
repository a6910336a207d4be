-- What a caller written in C is told of an answer.
use Rattle.std.specs.Prelude.{ℕ, List, [], ◌∷◌, map, take, ℤ, Option, Some, Result, Ok, Err}
use Rattle.method.specs.declared.Refusal.{Refusal}
use Rattle.method.specs.Verdict.{number}
use Rattle.engine_answer.specs.declared.Chosen.{Chosen}
use Rattle.engine_answer.specs.declared.Answer.{Answer}
use Rattle.host_answer.specs.Names.{told, by_name, refusal_row, row_from}

-- "it gets 0 or the refusal number"
abbrev pub number_of : Result Answer Refusal → ℕ
number_of (Ok a) = 0
number_of (Err w) = number w

-- the chosen day of a rank, counted from 0; nothing past the last one chosen
unfoldable pub day_of_rank : Chosen → ℕ → Option ℤ
day_of_rank chosen rank = by_name (map told (take chosen.count chosen.days)) rank

-- from HP_COUNT on, which is 3: N, HP_DAY_1 to HP_DAY_5, the reach, the denominator, and the adjustment's numerator, which is 11
unfoldable pub answer_row : Answer → List (Option ℤ)
answer_row a =
    let day = day_of_rank a.chosen in
    row_from 3
    (told a.chosen.count ∷ day 0 ∷ day 1 ∷ day 2 ∷ day 3 ∷ day 4 ∷ told a.chosen.reach ∷ told a.denominator ∷ Some a.adjustment ∷ [])

abbrev pub row_of : Result Answer Refusal → List (Option ℤ)
row_of (Ok a) = answer_row a
row_of (Err w) = refusal_row w

-- what an answer tells by name
unfoldable pub told_by : Result Answer Refusal → ℕ → Option ℤ
told_by a name = by_name (row_of a) name
