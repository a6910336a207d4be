-- An answer means that no refusal before it applies.
use mathlib.Core.Path.{◌≡◌, refl}
use mathlib.Core.Bool.{Bool}
use mathlib.Core.List.{List}
use Rattle.method.specs.declared.Refusal.{Refusal}
use Rattle.method.specs.Verdict.{Answer, Reply, answered, first_of}
use Rattle.method.proofs.Replies.{never_both}
use Rattle.std.specs.Prelude.{Result, Ok, Err}
use Rattle.engine_refusals.specs.Steps.{tested}
use Rattle.engine_refusals.proofs.FirstRefusal.{first_failed, first_passed}

-- what is answered passed the tests before it, and is the answer of what comes after them
pub answered_past : (ts : List (Bool × Refusal)) (reply : Reply) {a : Answer} → first_of ts reply ≡ answered a
    → (tested ts ≡ Ok tt) × (reply ≡ answered a)
answered_past ts reply {a} e = go (tested ts) refl
  where
    go : (x : Result (Unit {0}) Refusal) → tested ts ≡ x → (tested ts ≡ Ok tt) × (reply ≡ answered a)
    go (Err w) p = absurd (never_both (first_failed ts w reply p) e)
    go (Ok tt) p = (p, rw (first_passed ts reply p) at e)
