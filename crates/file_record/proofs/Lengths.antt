-- How long what a file says is.
use Prim.Native.Nat.{ℕ, zero, suc, ◌+◌, ◌-◌, ◌*◌, ◌<◌}
use mathlib.Core.Path.{◌≡◌, refl, ap, sym, ◌∙◌}
use mathlib.Core.List.{List}
use native.Mathlib.Omega.{arith}
use lib.ListN.{length, take, drop, get_or, length-append}
use Rattle.std.proofs.lemmas.List.{ext_get_or, drop-take}
use Rattle.byteorder.specs.Endian.{little_number}
use Rattle.method.specs.Table.{offset}
use Rattle.file_record.specs.declared.Shape.{Shape}
use Rattle.file_record.specs.Reader.{number_at, mv_length, move_numbers, list_in, dy_length, shape_base, marks_from, numbers, readings_from, shape_in, table_in, read_file}
use Rattle.file_record.specs.Steps.{list_within, table_within}
use Rattle.file_record.proofs.Numbers.{number_drop, read_four}
use Rattle.file_record.proofs.Starts.{base_is}
use Rattle.file_record.proofs.Files.{shape_fits}
use Rattle.std.specs.Prelude.{Ok}

pub numbers-length : (count : ℕ) (left : List ℕ) → length (numbers count left) ≡ count
unfolding numbers
numbers-length zero left = refl
numbers-length (suc count) left = ap suc (numbers-length count (drop 4 left))

-- each of them where it stands, and so what `byteorder` reads in the bytes of so many
pub numbers_at : (count q : ℕ) (left : List ℕ) → q < count → get_or (numbers count left) q 0 ≡ number_at 4 (4 * q) left
unfolding numbers
numbers_at zero q left h = absurd (omega arith)
numbers_at (suc count) zero left h = refl
numbers_at (suc count) (suc q) left h =
    let far : 4 * suc q ≡ 4 + 4 * q = omega arith in
    rw far (numbers_at count q (drop 4 left) (omega arith) ∙ number_drop 4 4 (4 * q) left)

pub numbers_read : (count n : ℕ) (left : List ℕ) {now : List ℕ} → length now ≡ count → n ≡ 4 * count
    → ((k : ℕ) → k < length now → get_or now k 0 ≡ little_number 4 (drop (4 * k) (take n left))) → now ≡ numbers count left
numbers_read count n left {now} long size each =
    ext_get_or 0 now (numbers count left) (long ∙ sym (numbers-length count left)) (λ k h. each k h ∙ at k (omega arith) ∙ sym (numbers_at count k left (omega arith)))
  where
    at : (k : ℕ) → k < count → little_number 4 (drop (4 * k) (take n left)) ≡ number_at 4 (4 * k) left
    at k h =
        let split : n ≡ 4 * k + (n - 4 * k) = omega arith in
        let part : drop (4 * k) (take n left) ≡ take (n - 4 * k) (drop (4 * k) left) =
        ap (λ (m : ℕ). drop (4 * k) (take m left)) split ∙ drop-take (4 * k) (n - 4 * k) left in
        ap (λ (l : List ℕ). little_number 4 l) part ∙ read_four (4 * k) (n - 4 * k) left (omega arith)

pub move_numbers-length : (count : ℕ) (left : List ℕ) → length (move_numbers count left) ≡ 2 * count
unfolding move_numbers
move_numbers-length zero left = refl
move_numbers-length (suc count) left = omega (arith, move_numbers-length count (drop mv_length left))

pub marks_length : (h d : ℕ) (left : List ℕ) → length (marks_from h d left) ≡ h
unfolding marks_from
marks_length zero d left = refl
marks_length (suc h) d left = ap suc (marks_length h (suc d) (drop (dy_length d) left))

pub readings_length : (h d : ℕ) (left : List ℕ) → length (readings_from h d left) ≡ offset d h
unfolding readings_from offset
readings_length zero d left = refl
readings_length (suc h) d left = rw (length-append, numbers-length, readings_length h)

-- what an accepted file holds, by its shape
pub list_within_lem : (file : List ℕ) {shape : Shape} → read_file file ≡ Ok shape → list_within shape file ≡ list_in file
unfolding list_within list_in shape_in
list_within_lem file {shape} r = rw (shape_fits file shape r).is_shape refl

pub table_within_lem : (file : List ℕ) {shape : Shape} → read_file file ≡ Ok shape → table_within shape file ≡ table_in file
unfolding table_within table_in shape_in
table_within_lem file {shape} r = rw (base_is file (shape_fits file shape r).is_shape, (shape_fits file shape r).is_shape)

-- how long the table of a shape is
module _ (shape : Shape) (file : List ℕ) where
  pub marks_within : length (table_within shape file).marks ≡ shape.days
  unfolding table_within
  marks_within = marks_length shape.days shape.first (drop (shape_base shape) file)

  pub readings_within : length (table_within shape file).readings ≡ offset shape.first shape.days
  unfolding table_within
  readings_within = readings_length shape.days shape.first (drop (shape_base shape) file)
