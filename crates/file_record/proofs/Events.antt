-- One law for each way out of asking for an event.
use Prim.Native.Nat.{ℕ, ◌+◌, ◌*◌, ◌<◌, ◌≤◌}
use mathlib.Core.Path.{◌≡◌, refl, sym}
use mathlib.Core.List.{List}
use mathlib.Core.Logic.{⊎_elim}
use native.Mathlib.Omega.{arith}
use borrow.Author.Tests.{lt-ltb, le-ltb, le-leb, lt-leb}
use lib.ListN.{length, take, drop, get_or}
use lib.Seq.{get_or-take}
use Rattle.base_lists.proofs.Bools.{lt-or-le}
use Rattle.method.specs.declared.Request.{Request}
use Rattle.file_record.specs.declared.Shape.{Shape}
use Rattle.file_record.specs.Reader.{number_at, ev_length, shape_base, day_start, event_start, shape_in, read_file, event_of, request_of, request_at, event_at_place}
use Rattle.file_record.specs.Steps.{event_within}
use Rattle.file_record.specs.Laws.{Accepted}
use Rattle.file_record.proofs.Starts.{base_is}
use Rattle.file_record.proofs.Files.{shape_fits, event_start_is}
use Rattle.std.specs.Prelude.{Ok, Err}
use Rattle.method.specs.declared.Refusal.TheVariants.{NoEvent}
use Rattle.method.specs.declared.Refusal.{Refusal}

pub event_refused : (file : List ℕ) (place : ℕ) {refusal : Refusal} → read_file file ≡ Err refusal → Err refusal ≡ event_at_place (read_file file) file place
event_refused file place r = rw r

-- in a file of a known shape
module _ (shape : Shape) (file : List ℕ) (place : ℕ) where
  pub within_past : shape.events ≤ place → Err NoEvent ≡ event_within shape file place
  unfolding event_within
  within_past h = rw (le-ltb place shape.events h)

  module _ {start : ℕ} (s : start ≡ day_start (shape_base shape) shape.first shape.days) (h : place < shape.events) where
    pub within_cut : length file < start + ev_length * place + ev_length → Err NoEvent ≡ event_within shape file place
    unfolding event_within
    within_cut k = rw (lt-ltb place shape.events h, ← s, lt-leb (start + ev_length * place + ev_length) (length file) k)

    pub within_there : start + ev_length * place + ev_length ≤ length file → {request : Request}
        → request ≡ request_of shape.participation (event_of (drop (start + ev_length * place) file)) → Ok request ≡ event_within shape file place
    unfolding event_within
    within_there k e = rw (lt-ltb place shape.events h, ← s, le-leb (start + ev_length * place + ev_length) (length file) k, e)

-- the shape that a file has
pub within_is : (file : List ℕ) (place : ℕ) {shape : Shape} → read_file file ≡ Ok shape
    → event_within shape file place ≡ event_at_place (read_file file) file place
unfolding event_within request_at shape_in
within_is file place {shape} r = ⊎_elim there (λ none. rw (r, le-ltb place shape.events none)) (lt-or-le place shape.events)
  where
    q : Accepted file shape
    q = shape_fits file shape r

    there : place < shape.events → event_within shape file place ≡ event_at_place (read_file file) file place
    there h =
        let p : shape.participation ≡ number_at 2 2 file = rw q.is_shape in
        let at : day_start (shape_base shape) shape.first shape.days + ev_length * place ≡ event_start file place =
        rw (base_is file q.is_shape, q.is_shape) (sym (event_start_is file place)) in
        let room : event_start file place + ev_length ≤ length file = omega (arith, q.whole, at) in
        rw (r, lt-ltb place shape.events h, at, le-leb (event_start file place + ev_length) (length file) room, p)

-- the request that an EV makes
pub event_read : (left : List ℕ) (participation : ℕ) {event s e n method : ℕ} → event ≡ number_at 2 2 left → s ≡ get_or left 4 0 → e ≡ get_or left 5 0
    → n ≡ get_or left 6 0 → method ≡ get_or left 7 0
    → record { participation = participation; event = event; s = s; e = e; n = n; method = method } ≡ request_of participation (event_of left)
unfolding event_of
event_read left participation ev es ee en em = rw (ev, es, ee, en, em)

-- it stands in the EV's own bytes
pub event_cut : (n : ℕ) (left : List ℕ) → ev_length ≤ n → event_of (take n left) ≡ event_of left
unfolding event_of number_at
event_cut n left h =
    rw (
      get_or-take n left 2 0 (omega arith),
      get_or-take n left 3 0 (omega arith),
      get_or-take n left 4 0 (omega arith),
      get_or-take n left 5 0 (omega arith),
      get_or-take n left 6 0 (omega arith),
      get_or-take n left 7 0 (omega arith),
    )
    refl
