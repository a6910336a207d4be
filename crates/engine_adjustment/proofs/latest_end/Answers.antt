use Rattle.std.proofs.Common.{◌∙◌, rules}
use Rattle.engine_adjustment.proofs.Windows.{whole_run, latest_found, latest_lacks, latest_skips}
use Rattle.engine_adjustment.proofs.latest_end.Goals as goal

pub returns-then-run-eq12 : goal.returns-then-run-eq12
returns-then-run-eq12 c =
    let l = c.loop-end in
    latest_found _ l.end _ l.invariant (whole_run _ l.end _ (search rules) c.present_before-run.ensures c.if-run-eq12.true)

pub loop-end-preserved : goal.loop-end-preserved
loop-end-preserved c =
    let l = c.loop-end in
    latest_skips _ l.end _ (search rules) c.present_before-run.ensures c.if-run-eq12.false ∙ l.invariant

pub returns : goal.returns
returns c = latest_lacks _ _ _ c.loop-end.invariant c.loop-end-test.false
