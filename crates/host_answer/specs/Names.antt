-- What a caller written in C asks by name, one number a call: the names of include/honeyplank.h are places in a row.
use Rattle.std.specs.Prelude.{ℕ, ◌-◌, Bool, cond, List, [], ◌∷◌, ◌++◌, map, get_or, replicate, ℤ, pos, Option, Some, None}
use Rattle.method.specs.declared.Refusal.{Refusal}
use Rattle.method.specs.Verdict.{number, carries}

-- a number that is told
abbrev pub told : ℕ → Option ℤ
told x = Some (pos x)

-- what is told where a test holds
abbrev pub told_if : Bool → Option ℤ → Option ℤ
told_if test x = cond test x None

-- the number of a name, its place in the row; nothing past the last
unfoldable pub by_name : List (Option ℤ) → ℕ → Option ℤ
by_name row name = get_or row name None

-- of a refusal: HP_RESULT is its number, and HP_CARRIED and HP_CARRIED_SECOND are the numbers that it carries
unfoldable pub refusal_row : Refusal → List (Option ℤ)
refusal_row w = told (number w) ∷ map told (carries w)

-- of what is not refused: HP_RESULT is 0, and the numbers stand from the name `first` on
unfoldable pub row_from : ℕ → List (Option ℤ) → List (Option ℤ)
row_from first numbers = told 0 ∷ (replicate (first - 1) None ++ numbers)

-- the first refusal of which the test holds, else the row
unfoldable pub row_after : List (Bool × Refusal) → List (Option ℤ) → List (Option ℤ)
row_after [] row = row
row_after (t ∷ ts) row = let later = row_after ts row in cond t.0 (refusal_row t.1) later
