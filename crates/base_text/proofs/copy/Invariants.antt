-- `base_text::copy` meets its contract.
use Rattle.std.proofs.Common.{get_or}
use Rattle.base_lists.proofs.Places.{Storing}
use Rattle.base_text.proofs.copy.Given as goal

abbrev pub invariant-loop-i : goal.invariant-loop-i
invariant-loop-i l = Storing (λ k. get_or l.bytes k 0) l.initial.part l.part l.i
