-- What writing a text into a lent buffer comes to, and the texts that a listing is written from.
use Rattle.std.specs.Prelude.{ℕ, ◌+◌, ◌≤◌, zero, suc, ◌≡◌, cond, List, [], ◌++◌, length, leb, Result, Ok, Err}
use Rattle.base_text.specs.TextSteps.{put}
use Rattle.method.specs.declared.Refusal.{Refusal}
use Rattle.file_record.specs.declared.Shape.{Shape}
use Rattle.file_record.specs.Reader.{list_in, table_in, request_at}
use Rattle.listing_lines.specs.Lines.{Line}
use Rattle.listing_lines.specs.Listing.{event_text, header_line, refused_line, offset_of}

unfoldable pub opening_line : Result Shape Refusal → Line
opening_line (Ok shape) = header_line shape
opening_line (Err refusal) = refused_line (offset_of refusal)

-- how many events are listed
abbrev pub events_of : Result Shape Refusal → ℕ
events_of (Ok shape) = shape.events
events_of (Err refusal) = 0

-- the texts of so many events of a file, from a place on
unfoldable pub event_texts : List ℕ → ℕ → ℕ → List ℕ
event_texts file zero place = []
event_texts file (suc count) place = event_text (list_in file) (table_in file) (request_at file place) ++ event_texts file count (suc place)

-- the buffer `d'` is `d` with the text `t`, which fits whole, from place `at` up to `r`
pub record Writes (d : List ℕ) (at : ℕ) (t : List ℕ) (r : ℕ) (d' : List ℕ) : Type 0 where
  pub fits : at + length t ≤ length d
  pub next : r ≡ at + length t
  pub holds : d' ≡ put d at t

-- `t` is put at place `at` whole and `r` is the place after it, where there are `size` bytes from there on; fewer change nothing and give `at`
pub record PutsWithin (size : ℕ) (d : List ℕ) (at : ℕ) (t : List ℕ) (r : ℕ) (d' : List ℕ) : Type 0 where
  pub next : r ≡ cond (leb (at + size) (length d)) (at + length t) at
  pub holds : d' ≡ cond (leb (at + size) (length d)) (put d at t) d
  pub most : r ≤ at + size
