-- One law for each way out of an entry.
use Prim.Native.Nat.{ℕ}
use mathlib.Core.Path.{◌≡◌, ap, ◌∙◌}
use mathlib.Core.List.{List}
use lib.IntN.{ℤ}
use Rattle.method.specs.Verdict.{Reply}
use Rattle.engine_answer.specs.declared.Answer.{Answer}
use Rattle.engine_answer.specs.Answer.{answer_of, Answers}
use Rattle.table_bytes.specs.Output.{AnswersInBytes}
use Rattle.host_answer.specs.Telling.{number_of, told_by}
use Rattle.std.specs.Prelude.{Result}
use Rattle.method.specs.declared.Refusal.{Refusal}
use Rattle.file_record.specs.Writer.{Lent, Writes}
use Rattle.listing_whole.specs.Lists.{Lists}
use Rattle.host_numbers.specs.Numbers.{length_told}
use Rattle.host_entries.specs.Host.{or_nothing, TableCall, FileCall, WriteCall, ListingCall}

module _ {reply : Reply} {answer : Result Answer Refusal} {r : ℕ} {out out' : List ℕ} (n : r ≡ number_of answer) where
  pub file_call : AnswersInBytes reply answer out out' → FileCall reply r out out'
  file_call q = record { result = n ∙ ap number_of q.answer; output = q.output }

  pub table_call : Answers reply answer out out' → TableCall reply r out out'
  table_call q = record { result = n ∙ ap number_of q.answer; output = q.output }

-- what the answer of a call tells
module _ {reply : Reply} {answer : Result Answer Refusal} {out out' : List ℕ} (name : ℕ) {x : ℤ} (t : x ≡ or_nothing (told_by answer name)) where
  pub file_told : AnswersInBytes reply answer out out' → x ≡ or_nothing (told_by (answer_of reply) name)
  file_told q = t ∙ ap (λ (a : Result Answer Refusal). or_nothing (told_by a name)) q.answer

  pub table_told : Answers reply answer out out' → x ≡ or_nothing (told_by (answer_of reply) name)
  table_told q = t ∙ ap (λ (a : Result Answer Refusal). or_nothing (told_by a name)) q.answer

-- what is told of a file that was to be written
pub write_call : {w : Lent} {out out' : List ℕ} {r : Result ℕ Refusal} {x : ℤ} → x ≡ length_told r → Writes w out r out' → WriteCall w x out out'
write_call t q = record { result = t ∙ ap length_told q.result; output = q.output }

-- what is told of a listing
pub listing_call : {file out out' : List ℕ} {listed : Result ℕ Refusal} {x : ℤ} → x ≡ length_told listed → Lists file out listed out'
    → ListingCall file x out out'
listing_call t q = record { result = t ∙ ap length_told q.result; output = q.output }
