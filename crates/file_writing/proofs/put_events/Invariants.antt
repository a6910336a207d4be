-- `file_writing::put_events` meets its contract. The loop's invariant: the events written and those left to write are the whole (`Filling`).
use Prim.Native.Nat.{◌*◌, ◌/◌, ◌≤◌}
use mathlib.Core.Path.{◌≡◌}
use mathlib.Core.Bool.{true}
use lib.ListN.{length, drop}
use Rattle.base_lists.specs.Lists.{all}
use Rattle.base_bytes.proofs.Filling.{Filling}
use Rattle.file_record.specs.Layout.{ev_records, fits_event}
use Rattle.file_record.specs.Reader.{ev_length}
use Rattle.file_record.specs.Writer.{events_of}
use Rattle.file_writing.proofs.Records.{events_left}
use Rattle.file_writing.proofs.put_events.Given as goal

abbrev pub invariant-loop-i : goal.invariant-loop-i
invariant-loop-i l = (l.i ≤ length l.events / 5) × (all fits_event (events_of (drop (5 * l.i) l.events)) ≡ true) × Filling l.initial.out (ev_records (events_of l.events)) l.out (events_left l.events l.i) (ev_length * l.i)
