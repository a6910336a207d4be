-- Refusals tested one after the other.
use Rattle.std.specs.Prelude.{Bool, cond, List, [], ◌∷◌, Result, Ok, Err}
use Rattle.method.specs.declared.Refusal.{Refusal}

-- the first of which the test holds
unfoldable pub tested : List (Bool × Refusal) → Result (Unit {0}) Refusal
tested [] = Ok tt
tested (t ∷ ts) = let later = tested ts in cond t.0 (Err t.1) later
