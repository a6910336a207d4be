-- `host_overlap::tell_numbers` meets its contract: a name that is none of an overlap's.
use native.Mathlib.Omega.{arith}
use Rattle.host_answer.proofs.Telling.{no_name}
use Rattle.host_overlap.specs.Overlap.{numbers_of}
use Rattle.host_overlap.proofs.tell_numbers.Goals as goal

pub returns-in_default : goal.returns-in_default
unfolding numbers_of
returns-in_default c = no_name 41 _ c.args.name (omega arith) (omega arith) (λ k. omega arith)
