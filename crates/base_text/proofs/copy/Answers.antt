-- `base_text::copy` meets its contract: after each byte more of them stand in the part, and at the end all.
use Rattle.std.proofs.Common.{refl, arith}
use Rattle.base_lists.proofs.Places.{storing_begin, storing_next}
use Rattle.base_text.proofs.Copying.{copied}
use Rattle.base_text.proofs.copy.Goals as goal

pub loop-i-init : goal.loop-i-init
loop-i-init c = storing_begin _ _

pub loop-i-preserved : goal.loop-i-preserved
loop-i-preserved c = storing_next c.loop-i.invariant (omega arith) refl

pub returns : goal.returns
returns c = copied c.requires c.loop-i.invariant (omega (arith, c.loop-i-test.false))
