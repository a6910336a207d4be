-- The part of a day: its readings, and that they are a part of the lent readings themselves.
use Rattle.std.specs.Prelude.{ℕ, ◌+◌, ◌-◌, ◌*◌, ◌≡◌, Bool, cond, ◌&&◌, List, length, eqb, Option, Some, None}
use Rattle.method.specs.Table.{Table, is_extract, held, history, offset, day_part}

-- the table is one that refusal 1 lets pass, and it holds the day
unfoldable pub has_day : Table → ℕ → Bool
has_day t day = is_extract t && held (history t) day

-- where the part starts in the readings; 0 where it is empty
unfoldable pub part_start : Table → ℕ → ℕ
part_start t day = cond (has_day t day) (offset t.first (day - t.first)) 0

-- `part` at the place `at` is the part of a day of readings that stand at `whole`; a place is a block and a byte of it
pub record DayPart (t : Table) (day : ℕ) (whole : ℕ × ℕ) (part : List ℕ) (at : ℕ × ℕ) : Type 0 where
  pub list : part ≡ day_part t day
  pub block : at.0 ≡ whole.0
  pub byte : at.1 ≡ whole.1 + 4 * part_start t day

-- where the part stands among the readings; an empty part stands nowhere
unfoldable pub part_place : Table → ℕ → Option ℕ
part_place t day = cond (eqb (length (day_part t day)) 0) None (Some (part_start t day))
