-- No two answers and outputs are those of one reply; what a refusal gives back.
use Prim.Native.Nat.{ℕ}
use mathlib.Core.Path.{◌≡◌, refl}
use mathlib.Core.List.{List}
use Rattle.std.specs.Prelude.{Result, Err}
use Rattle.base_lists.proofs.Unique.{unique}
use Rattle.method.specs.declared.Refusal.{Refusal}
use Rattle.method.specs.Verdict.{Reply, refused, written}
use Rattle.engine_answer.specs.declared.Answer.{Answer}
use Rattle.engine_answer.specs.Answer.{answer_of, Answers}

pub answers_unique : {reply : Reply} {r r' : Result Answer Refusal} {out after after' : List ℕ} → Answers reply r out after → Answers reply r' out after'
    → (r ≡ r') × (after ≡ after')
answers_unique p q = (unique p.answer q.answer, unique p.output q.output)

pub refuses : (reply : Reply) (w : Refusal) (r : Result Answer Refusal) (out : List ℕ) → reply ≡ refused w → r ≡ Err w → Answers reply r out out
unfolding answer_of written
refuses reply w r out e f = rw (e, f) (record { answer = refl; output = refl })
