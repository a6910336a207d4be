-- `calendar_groups::is_repeated` meets its contract. The invariant: a first day that comes again in the list does so in what is left of it.
use Rattle.std.proofs.Common.{◌≡◌, length}
use Rattle.calendar_groups.specs.Holidays.{first_days, repeated}
use Rattle.calendar_groups.proofs.is_repeated.Given as goal

abbrev pub invariant-loop-rest : goal.invariant-loop-rest
invariant-loop-rest l = repeated (first_days l.rest) ≡ repeated (first_days l.moves)

abbrev pub decreases-loop-rest : goal.decreases-loop-rest
decreases-loop-rest l = length l.rest
