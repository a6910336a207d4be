use mathlib.Core.Path.{sym, ap, ◌∙◌}
use mathlib.Core.List.{List}
use Prim.Native.Nat.{ℕ}
use native.Mathlib.Omega.{arith}
use Rattle.file_writable.proofs.Tests.{each_fits, each_left, one_fits, one_does_not, none_left}
use Rattle.file_writable.proofs.all_fit.Goals as goal

pub loop-day-init : goal.loop-day-init
loop-day-init c = ap (λ (each : List (List ℕ)). each_left each 0) c.as_chunks.ensures.front ∙ each_fits c.args.events.now

pub loop-day-preserved : goal.loop-day-preserved
loop-day-preserved c =
    let l = c.loop-day in
    one_fits _ l.day-index l.invariant (omega arith) (sym c.event_fits.ensures ∙ c.if-not-event_fits.false)

pub returns-then-not-event_fits : goal.returns-then-not-event_fits
returns-then-not-event_fits c =
    let l = c.loop-day in
    one_does_not _ l.day-index l.invariant (omega arith) (sym c.event_fits.ensures ∙ c.if-not-event_fits.true)

pub returns : goal.returns
returns c = let l = c.loop-day in none_left _ l.day-index l.invariant (omega arith)
