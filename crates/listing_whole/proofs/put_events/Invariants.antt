-- `listing_whole::put_events` meets its contract. The loop's invariant: all but the texts of the events from `place` on is written.
use Prim.Native.Nat.{◌+◌, ◌*◌, ◌-◌, ◌≤◌}
use mathlib.Core.Path.{◌≡◌}
use lib.ListN.{length}
use Rattle.listing_lines.specs.WriteSteps.{event_texts}
use Rattle.listing_lines.proofs.Writing.{Writing}
use Rattle.listing_event.specs.Room.{lines_room}
use Rattle.listing_whole.proofs.put_events.Given as goal

abbrev pub invariant-loop-place : goal.invariant-loop-place
invariant-loop-place l = record {
  so_far : Writing l.initial.out l.at (event_texts l.loaded.file.now l.loaded.shape.events 0) l.next l.out
      (event_texts l.loaded.file.now (l.loaded.shape.events - l.place) l.place);
  most : l.next ≤ l.at + lines_room * l.place;
  size : length l.out ≡ length l.initial.out;
}
