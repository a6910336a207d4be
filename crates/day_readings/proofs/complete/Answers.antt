use Rattle.std.proofs.Common.{sym, ◌∙◌, arith, rules}
use Rattle.base_lists.proofs.All.{all_step, all_end}
use Rattle.method.specs.Table.{present}
use Rattle.day_readings.proofs.Joining.{joined_present}
use Rattle.day_readings.proofs.complete.Goals as goal

pub returns-then-joined-lt-MISSING : goal.returns-then-joined-lt-MISSING
returns-then-joined-lt-MISSING c =
    sym (joined_present c.args.day.now (λ i. omega (arith, c.type_inv.day i)) c.joined.result c.joined.ensures c.if-joined-lt-MISSING.true)

pub loop-reading-preserved : goal.loop-reading-preserved
loop-reading-preserved c =
    let l = c.loop-reading in
    all_step present l.all_present c.args.day.now l.reading-index 0 (search rules) ∙ l.invariant

pub returns : goal.returns
returns c =
    let l = c.loop-reading in
    sym (all_end present l.all_present c.args.day.now l.reading-index (search rules)) ∙ l.invariant
