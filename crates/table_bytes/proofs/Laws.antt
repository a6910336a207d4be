-- Laws beside the contract: there is one result, a refusal keeps the bytes, and what refusal 7 means for a buffer of bytes.
use Prim.Native.Nat.{ℕ, ◌*◌, ◌/◌, ◌≤◌, ◌<◌}
use mathlib.Core.Path.{◌≡◌, refl}
use mathlib.Core.List.{List}
use mathlib.Core.Logic.{⊎_elim}
use native.Mathlib.Omega.{arith}
use borrow.Author.Tests.{lt-ltb, le-ltb}
use lib.Dec.{ltb}
use Rattle.std.specs.Prelude.{Result, Err}
use Rattle.base_lists.proofs.Bools.{lt-or-le}
use Rattle.base_lists.proofs.Unique.{unique}
use Rattle.method.specs.declared.Refusal.{Refusal}
use Rattle.method.specs.Verdict.{Reply, refused}
use Rattle.engine_answer.specs.declared.Answer.{Answer}
use Rattle.engine_answer.specs.Answer.{answer_of}
use Rattle.table_bytes.specs.Output.{bytes_written, AnswersInBytes}

-- no two differing results meet the contract
pub answers_in_bytes_unique : {reply : Reply} {r r' : Result Answer Refusal} {out after after' : List ℕ} → AnswersInBytes reply r out after → AnswersInBytes reply r' out after'
    → (r ≡ r') × (after ≡ after')
answers_in_bytes_unique p q = (unique p.answer q.answer, unique p.output q.output)

-- a refusal keeps the bytes
pub refuses : (reply : Reply) (w : Refusal) (r : Result Answer Refusal) (out : List ℕ) → reply ≡ refused w → r ≡ Err w → AnswersInBytes reply r out out
unfolding answer_of bytes_written
refuses reply w r out e f = rw (e, f) (record { answer = refl; output = refl })

-- "Refusal 7 there means below 4(e-s) bytes."
pub below_four : (room k : ℕ) → ltb (room / 4) k ≡ ltb room (4 * k)
below_four room k = ⊎_elim below enough (lt-or-le room (4 * k))
  where
    below : room < 4 * k → ltb (room / 4) k ≡ ltb room (4 * k)
    below h = let o : room / 4 < k = omega arith in rw (lt-ltb (room / 4) k o, lt-ltb room (4 * k) h)

    enough : 4 * k ≤ room → ltb (room / 4) k ≡ ltb room (4 * k)
    enough h = let o : k ≤ room / 4 = omega arith in rw (le-ltb (room / 4) k o, le-ltb room (4 * k) h)
