-- What holds of a file that is loaded: the event at each place is there, and the buffers are its table.
use Prim.Native.Nat.{ℕ, ◌*◌, ◌<◌}
use mathlib.Core.Path.{◌≡◌, sym, ap, ◌∙◌, refl}
use mathlib.Core.Bool.{Bool}
use mathlib.Core.List.{List}
use native.Mathlib.Omega.{arith}
use lib.ListN.{take}
use borrow.Author.Tests.{lt-ltb}
use Rattle.method.specs.Table.{most_quarters, offset}
use Rattle.method.proofs.Tables.{offset_most}
use Rattle.method.specs.declared.Request.{Request}
use Rattle.table_days.specs.Lent.{table_of}
use Rattle.file_record.specs.declared.Shape.{Shape}
use Rattle.std.specs.Prelude.{Result, Ok, Err}
use Rattle.method.specs.declared.Refusal.{Refusal}
use Rattle.file_record.specs.Reader.{read_file, list_in, table_in, shape_in, request_at}
use Rattle.file_record.specs.Steps.{event_within, filled_if, table_within, span_within}
use Rattle.file_record.proofs.Files.{shape_fits}
use Rattle.file_record.proofs.Lengths.{table_within_lem}
use Rattle.file_record.proofs.Spans.{span, whole_span}
use Rattle.file_record.proofs.Events.{within_is}
use Rattle.file_loading.specs.Steps.{fits_within}
use Rattle.file_loading.proofs.Loading.{place_whole, fits_own}
use Rattle.file_loading.proofs.Buffers.{WithinBuffers, within_buffers}
use Rattle.listing_lines.specs.Listing.{event_text}
use Rattle.listing_lines.specs.WriteSteps.{PutsWithin}
use Rattle.listing_whole.specs.Steps.{Holds}

-- what the buffers that a file is loaded into hold
pub buffers : {file : List ℕ} {shape : Shape} → read_file file ≡ Ok shape → {said : Bool} {count : ℕ} {marks readings : List ℕ} (marks₀ readings₀ : List ℕ)
    → said ≡ fits_within shape (span 0 shape.days) file 128 (most_quarters * 128)
    → marks ≡ filled_if said (table_within shape file).marks marks₀
    → readings ≡ filled_if said (span_within shape (span 0 shape.days) file).readings readings₀
    → count ≡ offset shape.first shape.days → WithinBuffers shape (span 0 shape.days) file count marks readings
buffers {file} {shape} accepted marks₀ readings₀ t x y n =
    let few = (shape_fits file shape accepted).days in
    let room = offset_most shape.first shape.days 128 few in
    let fits = fits_own shape (span 0 shape.days) file 128 (most_quarters * 128) accepted (omega arith) (omega arith) few (omega (arith, place_whole shape, room)) in
    within_buffers shape (span 0 shape.days) file marks₀ readings₀ x y (t ∙ fits) (n ∙ sym (place_whole shape))

pub holds : {file : List ℕ} {shape : Shape} {count : ℕ} {marks readings moves : List ℕ} → read_file file ≡ Ok shape
    → WithinBuffers shape (span 0 shape.days) file count marks readings → moves ≡ list_in file
    → Holds file shape (take shape.days marks) (take count readings) moves
holds {file} {shape} r q m =
    record {
      accepted = r;
      its_marks = rw (q.its_marks, table_within_lem file r);
      its_readings = rw (q.its_readings, whole_span shape file, table_within_lem file r);
      its_moves = m;
    }

module _ {file : List ℕ} {shape : Shape} {marks readings moves : List ℕ} (q : Holds file shape marks readings moves) where
  first_in : shape.first ≡ (table_in file).first
  unfolding shape_in table_in
  first_in = ap (λ (s : Shape). s.first) (shape_fits file shape q.accepted).is_shape

  pub table_in_lem : table_of shape.first marks readings ≡ table_in file
  table_in_lem = rw (first_in, q.its_marks, q.its_readings)

  module _ {place : ℕ} (h : place < shape.events) where
    event_in : event_within shape file place ≡ Ok (request_at file place)
    event_in = within_is file place q.accepted ∙ rw (q.accepted, lt-ltb place shape.events h) refl

    -- the event's lines are those of its own place
    pub its_lines : {size : ℕ} {d : List ℕ} {r : ℕ} {e : List ℕ} {at : Result Request Refusal} (request : Request) → at ≡ event_within shape file place
        → at ≡ Ok request → PutsWithin size d 0 (event_text moves (table_of shape.first marks readings) request) r e
        → PutsWithin size d 0 (event_text (list_in file) (table_in file) (request_at file place)) r e
    its_lines {at = at} request s t w =
        let same : request ≡ request_at file place = cc (event_in) in rw (table_in_lem, q.its_moves, same) at w

    pub never_refused : {at : Result Request Refusal} {X : Type 0} {w : Refusal} → at ≡ event_within shape file place → at ≡ Err w → X
    never_refused s t = let z : ◌≡◌ {A = ℕ} 0 1 = cc (event_in) in absurd (omega arith)
