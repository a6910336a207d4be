-- The whole listing: its first line and then the text of each event in order, each from its own place of the file.
use Prim.Native.Nat.{ℕ, zero, suc, ◌<◌}
use mathlib.Core.Path.{◌≡◌, refl, ap, ◌∙◌}
use mathlib.Core.List.{List, [], ◌∷◌, ◌++◌, append_assoc}
use native.Mathlib.Omega.{arith}
use lib.ListN.{length, take}
use Rattle.std.specs.Prelude.{Result, Ok, Err}
use Rattle.method.specs.declared.Refusal.{Refusal}
use Rattle.file_record.specs.declared.Shape.{Shape}
use Rattle.file_record.specs.Reader.{read_file, list_in, table_in, request_at}
use Rattle.listing_lines.specs.Lines.{Line, line_text, lines_text}
use Rattle.listing_lines.specs.Listing.{replied_lines, event_text, lines_from, listing_lines, listing, longest}
use Rattle.listing_lines.specs.WriteSteps.{opening_line, events_of, event_texts}
use Rattle.listing_lines.proofs.Longest.{read_cut, file_most}

lines_both : (a c : List Line) → lines_text (a ++ c) ≡ lines_text a ++ lines_text c
unfolding lines_text
lines_both [] c = refl
lines_both (l ∷ a) c = rw (lines_both a c, append_assoc)

events_are : (file : List ℕ) (count place : ℕ) → lines_text (lines_from file count place) ≡ event_texts file count place
unfolding lines_text lines_from event_texts event_text
events_are file zero place = refl
events_are file (suc count) place =
    lines_both (replied_lines (list_in file) (table_in file) (request_at file place)) (lines_from file count (suc place))
    ∙ ap (λ (t : List ℕ). lines_text (replied_lines (list_in file) (table_in file) (request_at file place)) ++ t) (events_are file count (suc place))

printed : (read : Result Shape Refusal) (file : List ℕ)
    → lines_text (listing_lines read file) ≡ line_text (opening_line read) ++ event_texts file (events_of read) 0
unfolding lines_text listing_lines opening_line event_texts
printed (Ok shape) file = ap (λ (t : List ℕ). line_text (opening_line (Ok shape)) ++ t) (events_are file shape.events 0)
printed (Err refusal) file = refl

-- what is printed: the opening's text, and then the texts of the events at places 0, 1, ..
pub listing_is : (file : List ℕ) → listing file ≡ line_text (opening_line (read_file file)) ++ event_texts file (events_of (read_file file)) 0
unfolding listing
listing_is file = printed (read_file file) file

-- ---- a file longer than any that is as laid down prints what its first bytes print
pub listing_cut : (n : ℕ) (file : List ℕ) → longest < n → longest < length file → listing (take n file) ≡ listing file
unfolding listing listing_lines
listing_cut n file m h = rw (read_cut n file m h) (go (read_file file) refl)
  where
    go : (read : Result Shape Refusal) → read_file file ≡ read → lines_text (listing_lines read (take n file)) ≡ lines_text (listing_lines read file)
    go (Ok shape) e = absurd (omega (arith, file_most file shape e))
    go (Err refusal) e = refl
