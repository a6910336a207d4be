-- What the function over rooms ensures.
use Rattle.std.specs.Prelude.{ℕ, ◌+◌, ◌*◌, ◌≡◌, cond, List, length, leb}
use Rattle.engine_rooms.specs.Rooms.{readings_at}

-- where the `size` readings at a place start; 0 where there are none
unfoldable pub readings_start : ℕ → List ℕ → ℕ → ℕ
readings_start size readings at = cond (leb (at + size) (length readings)) at 0

-- `part` at the place `stands` is the part that starts at `at` of readings that stand at `whole`; a place is a block and a byte of it
pub record ReadingsAt (size : ℕ) (readings : List ℕ) (at : ℕ) (whole : ℕ × ℕ) (part : List ℕ) (stands : ℕ × ℕ) : Type 0 where
  pub list : part ≡ readings_at size readings at
  pub block : stands.0 ≡ whole.0
  pub byte : stands.1 ≡ whole.1 + 4 * readings_start size readings at
