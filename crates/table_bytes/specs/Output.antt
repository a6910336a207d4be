-- 01, "Record file, listing, host entry": "a byte buffer for 4-byte little-endian numerators".
use Rattle.std.specs.Prelude.{ℕ, ◌*◌, ◌≡◌, List, ◌++◌, length, drop, Result}
use Rattle.method.specs.declared.Refusal.{Refusal}
use Rattle.method.specs.Verdict.{Reply, refused, answered}
use Rattle.engine_answer.specs.declared.Answer.{Answer}
use Rattle.engine_answer.specs.Answer.{answer_of}
use Rattle.base_bytes.specs.Bytes.{reading_bytes}

-- "Refused, every lent buffer keeps its bytes. Answered, the first e-s outputs are written and the rest kept": here each output is four bytes,
-- little-endian, as a file's readings are
unfoldable pub bytes_written : Reply → List ℕ → List ℕ
bytes_written (refused w) out = out
bytes_written (answered a) out = reading_bytes a.numerators ++ drop (4 * length a.numerators) out

-- the answer and the output of a reply
pub record AnswersInBytes (reply : Reply) (result : Result Answer Refusal) (before after : List ℕ) : Type 0 where
  pub answer : result ≡ answer_of reply
  pub output : after ≡ bytes_written reply before
