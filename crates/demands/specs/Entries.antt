-- The demands at the entries for C.
use Rattle.std.specs.Prelude.{ℕ, ◌≡◌, List, ℤ, pos, Result}
use Rattle.method.specs.declared.Refusal.{Refusal}
use Rattle.engine_answer.specs.declared.Answer.{Answer}
use Rattle.host_answer.specs.Telling.{told_by}
use Rattle.host_entries.specs.Host.{or_nothing}
use Rattle.demands.specs.Calls.{Call, result}
use Rattle.demands.specs.Demands.{Demands}

-- "it gets 0 or the refusal number": the number of an answer that meets the demands, with the output as C has it after the call
pub record EntryDemands (c : Call) (r : ℕ) (out after : List ℕ) : Type 0 where
  pub answer : Result Answer Refusal
  pub meets : Demands c answer out after
  pub number : r ≡ result answer

-- what C is told by a name is what that answer tells, HP_NOTHING where it tells nothing, whatever output was lent, unless it was too short (7); and C is never told that the result, the
-- name 0, is 7
pub record Tells (c : Call) (name : ℕ) (told : ℤ) : Type 0 where
  pub same : (a : Result Answer Refusal) (out after : List ℕ) → Demands c a out after → (result a ≡ 7 → ⊥) → told ≡ or_nothing (told_by a name)
  pub never_seven : name ≡ 0 → told ≡ pos 7 → ⊥
