-- The room that the first line is given: it gets no longer.
use Rattle.std.specs.Prelude.{ℕ}

abbrev pub opening_room : ℕ
opening_room = 74
