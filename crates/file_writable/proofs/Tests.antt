-- The tests of what a file can say: what std asks of a list is what the definitions ask of it.
use Prim.Native.Nat.{ℕ, suc, ◌+◌, ◌/◌, ◌≤◌, ◌<◌}
use mathlib.Core.Path.{◌≡◌, refl, sym, ap, ◌∙◌}
use mathlib.Core.Bool.{Bool, true, false}
use mathlib.Core.List.{List, [], ◌∷◌}
use native.Mathlib.Omega.{arith}
use lib.ListN.{length, get_or, drop, drop_of_length-le}
use lib.Seq.{drop-cons}
use Rattle.std.specs.Prelude.{slice_index}
use Rattle.std.specs.Simd.{first_chunks}
use Rattle.std.specs.List.{list_all}
use Rattle.base_lists.specs.Lists.{all}
use Rattle.file_record.specs.Layout.{Event, fits_event}
use Rattle.file_record.specs.Writer.{events_of}

-- the numbers of the events, five for each
abbrev pub fives : List ℕ → List (List ℕ)
fives numbers = first_chunks 5 (length numbers / 5) numbers

fives-cons : (d s e n m : ℕ) (more : List ℕ) → fives (d ∷ s ∷ e ∷ n ∷ m ∷ more) ≡ (d ∷ s ∷ e ∷ n ∷ m ∷ []) ∷ fives more
fives-cons d s e n m more =
    let one : suc (suc (suc (suc (suc (length more))))) / 5 ≡ suc (length more / 5) = omega arith in
    ap (λ (k : ℕ). first_chunks 5 k (d ∷ s ∷ e ∷ n ∷ m ∷ more)) one

-- the event of five numbers
abbrev pub event_of : List ℕ → Event
event_of five =
    record { day = slice_index five 0; s = slice_index five 1; e = slice_index five 2; n = slice_index five 3; method = slice_index five 4 }

-- the events of refusal 13, by their numbers
pub each_fits : (numbers : List ℕ) → list_all (λ five. fits_event (event_of five)) (fives numbers) ≡ all fits_event (events_of numbers)
unfolding all events_of
each_fits [] = refl
each_fits (d ∷ []) = refl
each_fits (d ∷ s ∷ []) = refl
each_fits (d ∷ s ∷ e ∷ []) = refl
each_fits (d ∷ s ∷ e ∷ n ∷ []) = refl
each_fits (d ∷ s ∷ e ∷ n ∷ m ∷ more) = rw (fives-cons d s e n m more, each_fits more) refl

-- whether those from the place `i` on fit, one after the other
abbrev pub each_left : List (List ℕ) → ℕ → Bool
each_left each i = list_all (λ five. fits_event (event_of five)) (drop i each)

module _ (each : List (List ℕ)) (i : ℕ) {whole : Bool} (left : each_left each i ≡ whole) where
  pub one_fits : i < length each → fits_event (event_of (get_or each i [])) ≡ true → each_left each (i + 1) ≡ whole
  one_fits h t = let s : i + 1 ≡ suc i = omega arith in rw s (sym (rw (drop-cons each i [] h, t) refl) ∙ left)

  pub one_does_not : i < length each → fits_event (event_of (get_or each i [])) ≡ false → false ≡ whole
  one_does_not h t = sym (rw (drop-cons each i [] h, t) refl) ∙ left

  pub none_left : length each ≤ i → true ≡ whole
  none_left h = sym (rw (drop_of_length-le each h) refl) ∙ left
