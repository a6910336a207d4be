-- `day_marks::is_out` meets its contract: the law of its mask.
use Rattle.day_marks.proofs.Marks.{outage_mask}
use Rattle.day_marks.proofs.is_out.Goals as goal

pub returns : goal.returns
returns c = outage_mask c.args.mark
