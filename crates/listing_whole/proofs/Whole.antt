-- The listing, event by event, whole, and told into a buffer.
use Prim.Native.Nat.{ℕ, suc, ◌+◌, ◌-◌, ◌≤◌, ◌<◌}
use mathlib.Core.Path.{◌≡◌, sym}
use mathlib.Core.List.{List, ◌++◌, append-nil}
use native.Mathlib.Omega.{arith}
use native.Mathlib.Nat.{zero-add}
use native.Mathlib.Numerals.{add-one}
use lib.ListN.{length, take, drop}
use lib.Seq.{take_at}
use borrow.Author.Tests.{le-leb, lt-leb}
use borrow.Rule.Slice.PartMut.{mid_of, put_mid, mid_len}
use Rattle.base_lists.proofs.Unique.{unique}
use Rattle.base_text.specs.TextSteps.{put}
use Rattle.base_text.proofs.Putting.{put_whole}
use Rattle.base_bytes.specs.PutFirst.{put_first}
use Rattle.base_bytes.proofs.Told.{tells_none, tells_whole}
use Rattle.file_record.specs.declared.Shape.{Shape}
use Rattle.std.specs.Prelude.{Result, Ok, Err}
use Rattle.method.specs.declared.Refusal.{Refusal}
use Rattle.method.specs.declared.Refusal.TheVariants.{NoRoom}
use Rattle.file_record.specs.Reader.{read_file, list_in, table_in, request_at}
use Rattle.listing_lines.specs.Lines.{line_text}
use Rattle.listing_lines.specs.Listing.{event_text, listing}
use Rattle.listing_lines.specs.WriteSteps.{opening_line, event_texts}
use Rattle.listing_lines.specs.WriteSteps.{Writes, PutsWithin}
use Rattle.listing_lines.proofs.Writing.{Writing, writing_next, writing_end, in_part, whole, then, same_length}
use Rattle.listing_lines.proofs.Whole.{listing_is}
use Rattle.listing_first_line.specs.Room.{opening_room}
use Rattle.listing_event.specs.Room.{lines_room}
use Rattle.listing_whole.specs.Lists.{Lists}

-- ---- the events before `place` are written
module _ {d : List ℕ} {at : ℕ} {t : List ℕ} {r : ℕ} {e : List ℕ} (file : List ℕ) (events place : ℕ)
    (q : Writing d at t r e (event_texts file (events - place) place)) where
  pub events_next : {s : ℕ} {f : List ℕ} → place < events → r + lines_room ≤ length e
      → PutsWithin lines_room (mid_of r (length e - r) e) 0 (event_text (list_in file) (table_in file) (request_at file place)) s f
      → Writing d at t (r + s) (put_mid r (length e - r) e f) (event_texts file (events - (place + 1)) (place + 1))
  unfolding event_texts
  events_next h room p =
      let more : events - place ≡ suc (events - suc place) = omega arith in
      let inside : r ≤ length e = omega arith in
      let size : 0 + lines_room ≤ length (mid_of r (length e - r) e) = rw (mid_len r (length e) e (omega arith)) (omega arith) in
      rw (add-one place) (writing_next (rw more at q) (in_part inside (whole size p)))

  pub events_end : events ≤ place → Writes d at t r e
  unfolding event_texts
  events_end h = let none : events - place ≡ 0 = omega arith in writing_end (rw none at q)

-- ---- a whole file
module _ (file : List ℕ) {d : List ℕ} {next : ℕ} {e : List ℕ} (room : opening_room ≤ length d) where
  pub file_listed : {shape : Shape} {r : ℕ} {f : List ℕ} → read_file file ≡ Ok shape → PutsWithin opening_room d 0 (line_text (opening_line (Ok shape))) next e
      → Writes e next (event_texts file shape.events 0) r f → Writes d 0 (listing file) r f
  file_listed accepted p w = rw (listing_is file, accepted) (then (whole room p) w)

  pub refusal_listed : {w : Refusal} → read_file file ≡ Err w → PutsWithin opening_room d 0 (line_text (opening_line (Err w))) next e
      → Writes d 0 (listing file) next e
  unfolding event_texts
  refusal_listed refused p = rw (listing_is file, refused, append-nil) (whole room p)

-- ---- told into a buffer
put_first_lem : (d t : List ℕ) → put d 0 t ≡ put_first t d
unfolding put put_first
put_first_lem d t = rw zero-add

module _ (file out : List ℕ) where
  fitting : {r : ℕ} {after : List ℕ} → r ≡ length (listing file) → r ≤ length out → after ≡ put out 0 (listing file) → Lists file out (Ok r) after
  fitting e fits holds =
      let long : length (listing file) ≤ length out = omega arith in
      record {
        result = rw (le-leb (length (listing file)) (length out) long, e);
        output = rw holds (put_first_lem out (listing file));
      }

  pub straight : {r : ℕ} {after : List ℕ} → Writes out 0 (listing file) r after → Lists file out (Ok r) after
  straight w = fitting (omega (arith, w.next)) (omega (arith, w.next, w.fits)) w.holds

  module _ {own filled : List ℕ} {end : ℕ} (w : Writes own 0 (listing file) end filled) where
    long_is : end ≡ length (listing file)
    long_is = omega (arith, w.next)

    pub end_within : end ≤ length filled
    end_within = omega (arith, w.next, w.fits, same_length w)

    text_is : take end filled ≡ listing file
    text_is =
        rw (w.holds, put_whole own 0 (listing file) w.fits, zero-add) (take_at (listing file) _ end (sym long_is))

    pub not_fitting : length out < end → Lists file out (Err NoRoom) out
    not_fitting h =
        let long : length out < length (listing file) = omega (arith, long_is) in
        record {
          result = rw (lt-leb (length (listing file)) (length out) long);
          output = tells_none (listing file) out long;
        }

    pub copied : end ≤ length out → {part : List ℕ} → part ≡ take end filled → Lists file out (Ok end) (part ++ drop end out)
    copied h e =
        let long : length (listing file) ≤ length out = omega (arith, long_is) in
        record {
          result = rw (le-leb (length (listing file)) (length out) long, long_is);
          output = tells_whole (listing file) out long (rw (e, text_is, long_is));
        }

-- ---- one result
pub lists_unique : {file out : List ℕ} {r r' : Result ℕ Refusal} {e e' : List ℕ} → Lists file out r e → Lists file out r' e' → (r ≡ r') × (e ≡ e')
lists_unique p q = (unique p.result q.result, unique p.output q.output)
