use mathlib.Core.Path.{refl}
use native.Mathlib.Omega.{arith}
use native.Mathlib.Nat.{sub-zero}
use Rattle.listing_lines.proofs.Writing.{writing_begin, same_length as still_as_long}
use Rattle.listing_whole.proofs.Whole.{events_next, events_end}
use Rattle.listing_whole.proofs.put_events.Goals as goal

pub loop-place-init : goal.loop-place-init
loop-place-init c = record { so_far = rw sub-zero (writing_begin _ (omega arith)); most = omega arith; size = refl }

pub loop-place-preserved : goal.loop-place-preserved
loop-place-preserved c =
    let l = c.loop-place in
    let a = c.args.loaded.now in
    let next = events_next a.file.now a.shape.events l.place l.invariant.so_far (omega arith) (omega arith) c.put_event-next.ensures in
    record { so_far = next; most = omega (arith, c.put_event-next.ensures.most); size = still_as_long next.so_far }

pub returns : goal.returns
returns c =
    let l = c.loop-place in
    let a = c.args.loaded.now in
    (events_end a.file.now a.shape.events l.place l.invariant.so_far (omega arith), omega arith)
