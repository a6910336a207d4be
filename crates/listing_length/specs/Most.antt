-- How long a listing gets at most. `proofs/Most` proves it.
use Rattle.std.specs.Prelude.{ℕ, ◌≤◌, ◌≡◌, List, length}
use Rattle.file_record.specs.Layout.{Below}
use Rattle.listing_lines.specs.Listing.{listing}
use Rattle.listing_whole.specs.Lists.{most_listing}

pub record Most : Type 0 where
  -- a file is bytes
  pub listings : (file : List ℕ) → Below 256 file → length (listing file) ≤ most_listing
  pub number : most_listing ≡ 213194
