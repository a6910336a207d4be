-- The moves of a file: one law for each way out of asking for one, and the list filled in one after the other.
use Prim.Native.Nat.{ℕ, zero, suc, ◌+◌, ◌-◌, ◌*◌, ◌<◌, ◌≤◌}
use mathlib.Core.Path.{◌≡◌, refl, sym, ◌∙◌, ap}
use mathlib.Core.Bool.{Bool, true}
use mathlib.Core.List.{List, [], ◌∷◌, ◌++◌}
use mathlib.Core.Logic.{⊎_elim}
use native.Mathlib.Omega.{arith}
use borrow.Author.Tests.{lt-ltb, le-ltb, le-leb, lt-leb}
use lib.ListN.{length, take, drop, set, length-set}
use lib.Seq.{drop-drop, take_at, get_or-take, get_or-drop}
use native.Mathlib.Nat.{add-suc}
use Rattle.base_lists.proofs.Bools.{lt-or-le}
use Rattle.base_bytes.proofs.Filling.{Filling, filling_one, filled}
use Rattle.file_record.specs.declared.Shape.{Shape}
use Rattle.std.specs.Prelude.{Some, None, Ok}
use Rattle.file_record.specs.declared.Move.{Move}
use Rattle.file_record.specs.Reader.{number_at, pf_length, mv_length, move_start, file_base, shape_in, read_file, move_numbers, list_in, move_at, move_at_place}
use Rattle.file_record.specs.Steps.{filled_if, list_within, move_within}
use Rattle.file_record.specs.Laws.{Accepted}
use Rattle.file_record.proofs.Numbers.{number_drop}
use Rattle.file_record.proofs.Lengths.{move_numbers-length, list_within_lem}
use Rattle.file_record.proofs.Files.{shape_fits, base_within}
use Rattle.file_record.proofs.Starts.{base_is}
use Rattle.file_moves.specs.Steps.{move_of, list_fits}

-- an MV says in its own bytes what it says in the file
module _ (at n : ℕ) (file : List ℕ) {said : Move} (s : said ≡ move_of (take n (drop at file))) (whole : mv_length ≤ n) where
  number_cut : (k : ℕ) → k + 1 < n → number_at 2 k (take n (drop at file)) ≡ number_at 2 (at + k) file
  unfolding number_at
  number_cut k h =
      rw (get_or-take n (drop at file) k 0 (omega arith), get_or-take n (drop at file) (suc k) 0 (omega arith), get_or-drop at file k 0, get_or-drop at file (suc k) 0, add-suc at k) refl

  pub said_old : said.old ≡ number_at 2 (at + 2) file
  said_old = rw s (number_cut 2 (omega arith))

  pub said_new : said.new ≡ number_at 2 (at + 4) file
  said_new = rw s (number_cut 4 (omega arith))

-- in a file of a known shape
module _ (shape : Shape) (file : List ℕ) (place : ℕ) where
  pub within_past : shape.moves ≤ place → None ≡ move_within shape file place
  unfolding move_within
  within_past h = rw (le-ltb place shape.moves h)

  module _ (h : place < shape.moves) where
    pub within_cut : length file < move_start place + mv_length → None ≡ move_within shape file place
    unfolding move_within
    within_cut k = rw (lt-ltb place shape.moves h, lt-leb (move_start place + mv_length) (length file) k)

    pub within_there : move_start place + mv_length ≤ length file → {old new at : ℕ} → at ≡ move_start place → old ≡ number_at 2 (at + 2) file
        → new ≡ number_at 2 (at + 4) file → Some (record { old = old; new = new }) ≡ move_within shape file place
    unfolding move_within move_at
    within_there k a o n =
        rw (
          lt-ltb place shape.moves h,
          le-leb (move_start place + mv_length) (length file) k,
          number_drop 2 (move_start place) 2 file,
          number_drop 2 (move_start place) 4 file,
          o,
          n,
          a,
        )
        refl

-- the shape that a file has
pub within_is : (file : List ℕ) (place : ℕ) {shape : Shape} → read_file file ≡ Ok shape
    → Ok (move_within shape file place) ≡ move_at_place (read_file file) file place
unfolding move_within shape_in
within_is file place {shape} r = ⊎_elim there (λ none. rw (r, le-ltb place shape.moves none)) (lt-or-le place shape.moves)
  where
    q : Accepted file shape
    q = shape_fits file shape r

    there : place < shape.moves → Ok (move_within shape file place) ≡ move_at_place (read_file file) file place
    there h =
        let base : move_start shape.moves ≡ file_base file = base_is file q.is_shape in
        let room : move_start place + mv_length ≤ length file = omega (arith, base, base_within file q.opens) in
        rw (r, lt-ltb place shape.moves h, le-leb (move_start place + mv_length) (length file) room) refl

-- one more move is put behind those that are loaded
module _ (file : List ℕ) (count k : ℕ) where
  move_more : k < count
      → move_numbers (count - k) (drop (move_start k) file)
      ≡ number_at 2 (move_start k + 2) file ∷ number_at 2 (move_start k + 4) file ∷ move_numbers (count - (k + 1)) (drop (move_start (k + 1)) file)
  unfolding move_numbers
  move_more h =
      let fewer : count - k ≡ suc (count - (k + 1)) = omega arith in
      let far : move_start k + mv_length ≡ move_start (k + 1) = omega arith in
      rw (fewer, number_drop 2 (move_start k) 2 file, number_drop 2 (move_start k) 4 file, drop-drop mv_length (move_start k) file, far) refl

  pub move_put : {before whole now : List ℕ} {old new : ℕ} → Filling before whole now (move_numbers (count - k) (drop (move_start k) file)) (2 * k)
      → k < count → 2 * count ≤ length now → old ≡ number_at 2 (move_start k + 2) file → new ≡ number_at 2 (move_start k + 4) file
      → Filling before whole (set (set now (2 * k) old) (2 * k + 1) new) (move_numbers (count - (k + 1)) (drop (move_start (k + 1)) file)) (2 * (k + 1))
  move_put q h room o n =
      let next : 2 * (k + 1) ≡ 2 * k + 1 + 1 = omega arith in
      rw (next, o, n)
      (filling_one (filling_one q _ _ (omega arith) (move_more h)) _ _ (rw length-set (omega arith)) refl)

pub list_loaded : (shape : Shape) (file before now : List ℕ) (k : ℕ) → shape.moves ≤ k → k ≤ shape.moves
    → Filling before (list_within shape file) now (move_numbers (shape.moves - k) (drop (move_start k) file)) (2 * k)
    → now ≡ list_within shape file ++ drop (2 * shape.moves) before
list_loaded shape file before now k all few q =
    let same : k ≡ shape.moves = omega arith in
    filled q (none (shape.moves - k) (omega arith)) ∙ ap (λ (n : ℕ). list_within shape file ++ drop (2 * n) before) same
  where
    none : (n : ℕ) → n ≡ 0 → move_numbers n (drop (move_start k) file) ≡ []
    none zero e = unfold move_numbers in refl
    none (suc n) e = absurd (omega arith)

-- whether the list fits
pub fits_all : (shape : Shape) (size room : ℕ) → move_start shape.moves ≤ size → 2 * shape.moves ≤ room → true ≡ list_fits shape size room
unfolding list_fits
fits_all shape size room h r = rw (le-leb (move_start shape.moves) size h, le-leb (2 * shape.moves) room r)

pub list_length : (shape : Shape) (file : List ℕ) → length (list_within shape file) ≡ 2 * shape.moves
unfolding list_within
list_length shape file = move_numbers-length shape.moves (drop pf_length file)

-- the list of a file that is as laid down, in a buffer with room for any: it always fits, and stands first
module _ (file : List ℕ) {shape : Shape} (r : read_file file ≡ Ok shape) where
  pub list_few : shape.moves ≤ 16
  list_few = (shape_fits file shape r).moves

  pub list_first : (before : List ℕ) {fits : Bool} {now : List ℕ} → 32 ≤ length before → fits ≡ list_fits shape (length file) (length before)
      → now ≡ filled_if fits (list_within shape file) before → take (2 * shape.moves) now ≡ list_in file
  list_first before {fits} {now} room f n =
      let q = shape_fits file shape r in
      let within : move_start shape.moves ≤ length file = omega (arith, base_is file q.is_shape, base_within file q.opens) in
      let t : fits ≡ true = f ∙ sym (fits_all shape (length file) (length before) within (omega (arith, q.moves))) in
      rw (n, t)
      (take_at (list_within shape file) (drop (length (list_within shape file)) before) (2 * shape.moves) (list_length shape file) ∙ list_within_lem file r)
