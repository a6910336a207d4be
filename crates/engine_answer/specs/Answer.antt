-- What a call gives back for its reply.
use Rattle.std.specs.Prelude.{ℕ, ◌≡◌, List, ◌++◌, length, take, replicate, Result, Ok, Err}
use Rattle.method.specs.declared.Refusal.{Refusal}
use Rattle.method.specs.Verdict.{Reply, refused, answered, written}
use Rattle.engine_answer.specs.declared.Answer.{Answer}

-- chosen days in five places, with noughts after the last
abbrev pub in_five : List ℕ → List ℕ
in_five days = take 5 (days ++ replicate 5 0)

unfoldable pub answer_of : Reply → Result Answer Refusal
answer_of (refused w) = Err w
answer_of (answered a) =
    Ok
    (record {
      chosen = record { days = in_five a.days; count = length a.days; reach = a.reach };
      denominator = a.denominator;
      adjustment = a.adjusted;
    })

-- the answer and the output of a reply
pub record Answers (reply : Reply) (result : Result Answer Refusal) (before after : List ℕ) : Type 0 where
  pub answer : result ≡ answer_of reply
  pub output : after ≡ written reply before
