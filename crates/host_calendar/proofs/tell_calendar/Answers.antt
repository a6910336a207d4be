-- `host_calendar::tell_calendar` meets its contract: a name that is none of a day's.
use native.Mathlib.Omega.{arith}
use Rattle.host_answer.proofs.Telling.{no_name}
use Rattle.host_calendar.specs.Calendar.{calendar_row}
use Rattle.host_calendar.proofs.tell_calendar.Goals as goal

pub returns-in_default : goal.returns-in_default
unfolding calendar_row
returns-in_default c = no_name 45 _ c.args.name (omega arith) (omega arith) (λ k. omega arith)
