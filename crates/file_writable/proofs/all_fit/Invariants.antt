-- `file_writable::all_fit` meets its contract. The loop's invariant: those that are left fit where all do.
use mathlib.Core.Path.{◌≡◌}
use Rattle.base_lists.specs.Lists.{all}
use Rattle.file_record.specs.Layout.{fits_event}
use Rattle.file_record.specs.Writer.{events_of}
use Rattle.file_writable.proofs.Tests.{each_left}
use Rattle.file_writable.proofs.all_fit.Given as goal

abbrev pub invariant-loop-day : goal.invariant-loop-day
invariant-loop-day l = each_left l.each l.day-index ≡ all fits_event (events_of l.events)
