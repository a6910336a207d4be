use Rattle.day_readings.proofs.Joining.{joins}
use Rattle.day_readings.proofs.joined.Goals as goal

pub loop-reading-preserved : goal.loop-reading-preserved
loop-reading-preserved c =
    let l = c.loop-reading in
    let a = c.args in
    joins a.block.now a.more l.reading-index l.bits l.invariant
