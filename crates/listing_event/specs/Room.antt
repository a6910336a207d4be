-- How long the lines of an event get at most.
use Rattle.std.specs.Prelude.{ℕ, ◌+◌}
use Rattle.listing_event_line.specs.Room.{event_room}
use Rattle.listing_quarter_lines.specs.Room.{quarters_room}

abbrev pub lines_room : ℕ
lines_room = event_room + quarters_room
