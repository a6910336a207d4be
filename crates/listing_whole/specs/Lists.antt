-- The whole listing of a file in one lent buffer.
use Rattle.std.specs.Prelude.{ℕ, ◌+◌, ◌*◌, ◌≡◌, cond, List, length, leb, Result, Ok, Err}
use Rattle.method.specs.declared.Refusal.{Refusal}
use Rattle.method.specs.declared.Refusal.TheVariants.{NoRoom}
use Rattle.base_bytes.specs.PutFirst.{put_first}
use Rattle.listing_lines.specs.Listing.{listing}
use Rattle.listing_first_line.specs.Room.{opening_room}
use Rattle.listing_event.specs.Room.{lines_room}

-- the room that any listing fits: a first line, and the lines of "up to 64" events
abbrev pub most_listing : ℕ
most_listing = opening_room + 64 * lines_room

-- of a buffer of so many bytes: the listing's length where it fits
abbrev pub listed_in : List ℕ → ℕ → Result ℕ Refusal
listed_in file size = cond (leb (length (listing file)) size) (Ok (length (listing file))) (Err NoRoom)

-- the listing stands first in the buffer where it fits, and the rest is kept; where it does not fit nothing changes
pub record Lists (file out : List ℕ) (r : Result ℕ Refusal) (out' : List ℕ) : Type 0 where
  pub result : r ≡ listed_in file (length out)
  pub output : out' ≡ put_first (listing file) out
