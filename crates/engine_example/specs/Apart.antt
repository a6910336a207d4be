-- Two days that stand apart in lent readings: the event day's first, and after a gap those of the day before.
use Rattle.std.specs.Prelude.{ℕ, ◌+◌, ◌-◌, Bool, cond, not, ◌&&◌, List, [], ◌∷◌, ◌++◌, length, take, drop, leb, eqb}
use Rattle.method.specs.Table.{Table, size}

-- there is a day before, and the readings reach to the end of it
unfoldable pub is_apart : ℕ → ℕ → List ℕ → Bool
is_apart event gap readings = not (eqb event 0) && leb (size event + gap + size (event - 1)) (length readings)

-- the two as a table, in the right order; one of no days where they are not there
unfoldable pub apart : ℕ → ℕ → ℕ → ℕ → List ℕ → Table
apart event before today gap readings =
    record {
      first = event - 1;
      marks = cond (is_apart event gap readings) (before ∷ today ∷ []) [];
      readings = take (size (event - 1)) (drop (size event + gap) readings) ++ take (size event) readings;
    }
