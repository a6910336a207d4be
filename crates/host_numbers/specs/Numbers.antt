-- A result as one number, which a caller written in C gets by include/honeyplank.h: the place of a day's part or a number of a day of a file, and the
-- length of a file that was to be written or of a listing.
use Rattle.std.specs.Prelude.{ℕ, ℤ, pos, neg_ℤ, Option, option_map, Result, Ok, Err}
use Rattle.method.specs.declared.Refusal.{Refusal}
use Rattle.method.specs.Verdict.{number}

-- a number, where there is one
abbrev pub number_told : Option ℕ → Option ℤ
number_told found = option_map pos found

-- a length; else minus the number of the refusal, which is -HP_NO_ROOM, -7, for a listing that does not fit
abbrev pub length_told : Result ℕ Refusal → ℤ
length_told (Ok size) = pos size
length_told (Err why) = neg_ℤ (pos (number why))
