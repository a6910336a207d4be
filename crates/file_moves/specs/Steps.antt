-- What an MV says, and what loading a file's list of moves into a lent buffer says, for a shape that is known.
use Rattle.std.specs.Prelude.{ℕ, ◌*◌, Bool, ◌&&◌, List, leb}
use Rattle.file_record.specs.declared.Shape.{Shape}
use Rattle.file_record.specs.declared.Move.{Move}
use Rattle.file_record.specs.Reader.{shape_base, number_at}

-- so many bytes reach to the end of the moves, and a buffer of so many numbers has room for them
unfoldable pub list_fits : Shape → ℕ → ℕ → Bool
list_fits shape size room = leb (shape_base shape) size && leb (2 * shape.moves) room

-- "MV records (6 bytes: mark, two days)"
abbrev pub move_of : List ℕ → Move
move_of left = record { old = number_at 2 2 left; new = number_at 2 4 left }
