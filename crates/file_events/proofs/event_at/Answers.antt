-- `file_events::event_at` meets its contract: a refusal of the file goes through, and else the file has the shape that was read.
use mathlib.Core.Path.{sym, ◌∙◌}
use Rattle.file_record.proofs.Events.{within_is}
use Rattle.file_events.proofs.event_at.Goals as goal

pub returns : goal.returns
returns c =
    let a = c.args in
    c.event_within.ensures ∙ within_is a.file.now a.place (sym c.read_file.ensures ∙ c.in_ok-shape.was)
