-- How long the line of an event gets at most.
use Rattle.std.specs.Prelude.{ℕ}

abbrev pub event_room : ℕ
event_room = 162

abbrev pub refusal_room : ℕ
refusal_room = 100
