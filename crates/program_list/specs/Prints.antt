-- What the program prints of what it read.
use Rattle.std.specs.Prelude.{ℕ, ◌≤◌, ◌<◌, ◌≡◌, List, [], ◌++◌, length, take}
use Rattle.listing_lines.specs.Listing.{listing}

-- the first `r` bytes of the text are the listing of every input of which the first `count` bytes were read: nothing follows these, unless they
-- fill the buffer
pub record Prints (bytes : List ℕ) (count r : ℕ) (text : List ℕ) : Type 0 where
  pub within : r ≤ length text
  pub listed : (more : List ℕ) → (count < length bytes → more ≡ []) → take r text ≡ listing (take count bytes ++ more)
