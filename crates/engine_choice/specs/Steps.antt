-- What the choice of days gives (`choice_of`), and what its private functions give on the way, for any rules.
use Rattle.std.specs.Prelude.{ℕ, ◌+◌, ◌-◌, ◌%◌, min, cond, List, map, length, get_or, take, drop, ltb, eqb, Result, Ok, Err}
use Rattle.method.specs.declared.Request.{Request}
use Rattle.method.specs.declared.Refusal.{Refusal}
use Rattle.method.specs.declared.Refusal.TheVariants.{MarginTooShort, TooFew}
use Rattle.method.specs.Table.{History}
use Rattle.method.specs.Method.{days_of, Method, whole_reach, window, chosen, reach, is_short}
use Rattle.engine_ranking.specs.Steps.{insert_all}
use Rattle.engine_rules.specs.declared.Rules.{Rules as Numbers}
use Rattle.engine_look_back.specs.declared.Found.{Found}
use Rattle.engine_ranking.specs.declared.Ranking.{Ranking}
use Rattle.engine_answer.specs.declared.Chosen.{Chosen}
use Rattle.engine_answer.specs.Answer.{in_five}

unfoldable pub choice_of : {A O : Type 0} → Method A O → History A → Result Chosen Refusal
choice_of m h =
    cond (is_short m h) (Err (MarginTooShort (whole_reach m)))
    (cond (eqb (m.taken (length (window m h))) 0) (Err (TooFew (length (window m h)) (reach m h)))
    (Ok (record { days = in_five (days_of (chosen m h)); count = length (chosen m h); reach = reach m h })))

-- The choice

-- the day of a word
abbrev pub word_day : ℕ → ℕ → ℕ
word_day event w = event - (46 - w % 64)

-- so many of the days of a row of words, after those passed over
abbrev pub days_in : ℕ → List ℕ → ℕ → ℕ → List ℕ
days_in event row passed count = map (word_day event) (take count (drop passed row))

-- the choice from the row of a window of so many days
unfoldable pub picked : ℕ → Numbers → List ℕ → ℕ → ℕ → Result Chosen Refusal
picked event numbers row size reach =
    let count = get_or numbers.taken size 0 in
    cond (eqb count 0) (Err (TooFew size reach))
    (Ok (record { days = in_five (days_in event row (get_or numbers.passed size 0) count); count = count; reach = reach }))

-- how many spare days fill a shortage
abbrev pub fillers : Numbers → Found → ℕ
fillers numbers found = min (numbers.fill - found.eligible.count) found.spare.count

-- the eligible days found, with the spare days that fill a shortage
abbrev pub filled_of : Numbers → Found → Ranking
filled_of numbers found =
    record {
      words = insert_all (take (fillers numbers found) found.spare.words) found.eligible.words;
      count = found.eligible.count + fillers numbers found;
    }

-- the choice where the eligible days do not fill the window
unfoldable pub among_few : Request → Numbers → Found → ℕ → ℕ → Result Chosen Refusal
among_few r numbers found before reach =
    cond (ltb before reach) (Err (MarginTooShort reach))
    (picked r.event numbers (filled_of numbers found).words (filled_of numbers found).count reach)
