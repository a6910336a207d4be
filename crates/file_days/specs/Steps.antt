-- Whether a file of a known shape holds a day.
use Rattle.std.specs.Prelude.{ℕ, ◌+◌, Bool, ◌&&◌, leb, ltb}
use Rattle.file_record.specs.declared.Shape.{Shape}

abbrev pub holds_day : Shape → ℕ → Bool
holds_day shape d = leb shape.first d && ltb d (shape.first + shape.days)
