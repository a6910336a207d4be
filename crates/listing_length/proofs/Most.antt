-- No file has a listing of more than 213,194 bytes.
use Prim.Native.Nat.{ℕ, zero, suc, ◌*◌, ◌^◌, ◌≤◌, ◌<◌}
use mathlib.Core.Path.{◌≡◌, refl}
use mathlib.Core.Bool.{true, false}
use mathlib.Core.List.{List, [], ◌∷◌, ◌++◌}
use mathlib.Core.Logic.{⊎_elim}
use native.Mathlib.Omega.{arith}
use lib.ListN.{length, drop, length-append}
use borrow.Author.Tests.{le-leb}
use Rattle.base_lists.specs.Lists.{all}
use Rattle.method.specs.Verdict.{verdict}
use Rattle.method.specs.Table.{most_quarters}
use Rattle.method.proofs.Tables.{offset_most}
use Rattle.file_record.proofs.Starts.{day_start_most, base_most}
use Rattle.engine_numerators.proofs.Windows.{small}
use Rattle.table_baseline.proofs.Laws.{sound, never_above}
use Rattle.file_record.specs.Layout.{Below, Fits}
use Rattle.file_record.specs.Laws.{StopsAt}
use Rattle.file_record.specs.declared.Shape.{Shape}
use Rattle.std.specs.Prelude.{Result, Ok, Err}
use Rattle.method.specs.declared.Refusal.{Refusal}
use Rattle.method.specs.declared.Refusal.TheVariants.{BadFile}
use Rattle.file_record.specs.Reader.{is_pf, file_base, first_in, days_in, event_start, events_in, shape_in, read_file, list_in, table_in, event_of, request_at, contents_in, good_end}
use Rattle.file_record.proofs.Bytes.{below_drop, number_below}
use Rattle.file_record.proofs.Files.{shape_fits, event_start_is}
use Rattle.file_record.proofs.Limits.{says_what_fits}
use Rattle.file_record.proofs.RefusedWhere.{refused_where, only_11}
use Rattle.listing_lines.specs.Lines.{line_text}
use Rattle.listing_lines.specs.Listing.{replied_lines, event_text, refused_line, offset_of, listing}
use Rattle.listing_lines.specs.WriteSteps.{opening_line, event_texts, events_of}
use Rattle.listing_lines.proofs.Whole.{listing_is}
use Rattle.listing_event.specs.Room.{lines_room}
use Rattle.listing_whole.specs.Lists.{most_listing}
use Rattle.listing_length.specs.Most.{Most}
use Rattle.listing_length.proofs.Near.{verdict-near}
use Rattle.listing_length.proofs.Texts.{reply_most, header_most, refused_most}

all_below : (l : List ℕ) → Below (256 ^ 4) l → all small l ≡ true
unfolding all
all_below [] b = refl
all_below (x ∷ l) b = let o : x ≤ 4294967295 = omega (arith, b 0) in rw (le-leb x 4294967295 o) (all_below l (λ i. b (suc i)))

module _ (file : List ℕ) (bytes : Below 256 file) where
  -- ---- a file that is as laid down
  module _ {shape : Shape} (accepted : read_file file ≡ Ok shape) where
    fits : Fits (contents_in file)
    fits = says_what_fits file shape bytes accepted

    event_most : (place : ℕ) → length (event_text (list_in file) (table_in file) (request_at file place)) ≤ lines_room
    unfolding event_text replied_lines request_at event_of contents_in
    event_most place =
        let moves = list_in file in
        let t = table_in file in
        let r = request_at file place in
        let left = below_drop (event_start file place) file bytes in
        let event : r.event ≤ 65535 = omega (arith, number_below 2 2 (drop (event_start file place) file) left) in
        let from_quarter : r.s ≤ 255 = omega (arith, left 4) in
        let to_quarter : r.e ≤ 255 = omega (arith, left 5) in
        let long : length t.readings ≤ most_quarters * 128 = omega (arith, fits.size, offset_most t.first (length t.marks) 128 fits.days) in
        let reply = verdict moves t r most_quarters in
        reply_most r reply event from_quarter to_quarter (verdict-near moves t r fits.days long (all_below t.readings fits.readings) event most_quarters)
        (λ a e. (sound moves t r most_quarters e, never_above moves t r most_quarters a e))

    events_most : (count place : ℕ) → length (event_texts file count place) ≤ lines_room * count
    unfolding event_texts
    events_most zero place = omega arith
    events_most (suc count) place =
        omega (
          arith,
          length-append (event_text (list_in file) (table_in file) (request_at file place)) (event_texts file count (suc place)),
          event_most place,
          events_most count (suc place),
        )

    opening_most : length (line_text (opening_line (Ok shape))) ≤ 74
    unfolding opening_line shape_in contents_in table_in
    opening_most =
        let s = shape_fits file shape accepted in
        let first : shape.first < 2 ^ 32 = rw s.is_shape (omega (arith, fits.last)) in
        header_most shape (rw s.is_shape (omega (arith, fits.portfolio))) (rw s.is_shape (omega (arith, fits.participation))) first
        (omega (arith, s.days))

  -- ---- a refused one
  offset_small : {at : ℕ} → read_file file ≡ Err (BadFile at) → at < 2 ^ 32
  offset_small {at} refused = ⊎_elim nought stopped (refused_where file at refused)
    where
      nought : (is_pf file ≡ false) × (at ≡ 0) → at < 2 ^ 32
      nought q = omega (arith, q.1)

      stopped : StopsAt file at → at < 2 ^ 32
      stopped q =
          omega (
            arith,
            q.place,
            q.days,
            q.events,
            event_start_is file (events_in file),
            day_start_most (file_base file) (first_in file) (days_in file),
            base_most file,
          )

  refusal_most : {w : Refusal} → read_file file ≡ Err w → length (line_text (opening_line (Err w))) ≤ 74
  unfolding opening_line offset_of
  refusal_most {w} refused = ⊎_elim (at_offset 0) (at_offset (good_end file)) (only_11 file w refused)
    where
      at_offset : (at : ℕ) → w ≡ BadFile at → length (line_text (refused_line (offset_of w))) ≤ 74
      at_offset at e = rw e (refused_most at (offset_small (rw e at refused)))

  pub listing_most : length (listing file) ≤ most_listing
  listing_most = rw (listing_is file) (go (read_file file) refl)
    where
      go : (read : Result Shape Refusal) → read_file file ≡ read → length (line_text (opening_line read) ++ event_texts file (events_of read) 0) ≤ most_listing
      go (Ok shape) e =
          let s = shape_fits file shape e in
          rw length-append (omega (arith, opening_most e, events_most e shape.events 0, s.events))
      go (Err w) e = rw length-append (unfold event_texts in omega (arith, refusal_most e))

pub most : Most
most = record { listings = listing_most; number = refl }
