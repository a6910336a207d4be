-- How long the line of a quarter gets at most, and those of a day's quarters.
use Rattle.std.specs.Prelude.{ℕ, ◌*◌}
use Rattle.method.specs.Table.{most_quarters}

abbrev pub line_room : ℕ
line_room = 33

abbrev pub quarters_room : ℕ
quarters_room = line_room * most_quarters
