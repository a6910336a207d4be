-- A list of moves as pairs: what is asked of each pair is what the definitions ask of the list.
use Prim.Native.Nat.{ℕ, zero, suc, ◌+◌, ◌-◌, ◌≤◌, ◌<◌, ◌/◌, ◌%◌}
use mathlib.Core.Path.{◌≡◌, refl, sym, ap}
use mathlib.Core.Bool.{Bool, true, false, ◌&&◌, ◌||◌, or-false, or_assoc, and-false}
use mathlib.Core.List.{List, [], ◌∷◌}
use native.Mathlib.Omega.{arith}
use lib.Dec.{leb, ltb, eqb}
use lib.ListN.{length, get_or, take, drop, length-drop}
use lib.Seq.{take_all}
use Rattle.std.specs.Prelude.{◌==◌, fold, map, slice_index}
use Rattle.std.specs.Simd.{first_chunks}
use Rattle.std.specs.List.{list_all, IsAllAdjacentAnswer}
use Rattle.base_lists.specs.Lists.{member}
use Rattle.calendar_dates.specs.Days.{last_day}
use Rattle.calendar_holidays.specs.Yearly.{is_fixed_holiday}
use Rattle.calendar_groups.specs.Holidays.{first_days, second_days, good_pairs, repeated}
use Rattle.calendar_groups.specs.Steps.{pairs, rising}

pub pairs-cons : (old new : ℕ) (more : List ℕ) → pairs (old ∷ new ∷ more) ≡ (old ∷ new ∷ []) ∷ pairs more
pairs-cons old new more =
    let e : suc (suc (length more)) / 2 ≡ suc (length more / 2) = omega arith in
    ap (λ (n : ℕ). first_chunks 2 n (old ∷ new ∷ more)) e

module _ (day : ℕ) where
  pub fold_first : (moves : List ℕ) → fold (λ found pair. found || (day == slice_index pair 0)) false (pairs moves) ≡ member day (first_days moves)
  unfolding first_days member
  fold_first moves = go moves false
    where
      go : (l : List ℕ) (found : Bool) → fold (λ b pair. b || (day == slice_index pair 0)) found (pairs l) ≡ (found || member day (first_days l))
      go [] found = sym (or-false found)
      go (old ∷ []) found = sym (or-false found)
      go (old ∷ new ∷ more) found = rw (pairs-cons old new more, go more (found || eqb day old)) (or_assoc found (eqb day old) (member day (first_days more)))

  pub fold_second : (moves : List ℕ) → fold (λ found pair. found || (day == slice_index pair 1)) false (pairs moves) ≡ member day (second_days moves)
  unfolding second_days member
  fold_second moves = go moves false
    where
      go : (l : List ℕ) (found : Bool) → fold (λ b pair. b || (day == slice_index pair 1)) found (pairs l) ≡ (found || member day (second_days l))
      go [] found = sym (or-false found)
      go (old ∷ []) found = sym (or-false found)
      go (old ∷ new ∷ more) found = rw (pairs-cons old new more, go more (found || eqb day new)) (or_assoc found (eqb day new) (member day (second_days more)))

-- every pair is good
pub all_good : (moves : List ℕ) → length moves % 2 ≡ 0 → list_all (λ pair. is_fixed_holiday (slice_index pair 0) && leb (slice_index pair 1) last_day) (pairs moves) ≡ good_pairs moves
unfolding good_pairs
all_good [] h = refl
all_good (old ∷ []) h = absurd (omega arith)
all_good (old ∷ new ∷ more) h = rw (pairs-cons old new more, all_good more (omega arith)) refl

pub half_bad : (moves : List ℕ) → (length moves % 2 ≡ 0 → ⊥) → false ≡ good_pairs moves
unfolding good_pairs
half_bad [] h = absurd (h (omega arith))
half_bad (old ∷ []) h = refl
half_bad (old ∷ new ∷ more) h = rw (← half_bad more (λ e. h (omega arith))) (sym (and-false (is_fixed_holiday old && leb new last_day)))

-- the first day of a pair
abbrev first : List ℕ → ℕ
first pair = slice_index pair 0

firsts : (moves : List ℕ) → first_days moves ≡ map first (pairs moves)
unfolding first_days
firsts [] = refl
firsts (old ∷ []) = refl
firsts (old ∷ new ∷ more) = rw (pairs-cons old new more, firsts more) refl

next : (k : ℕ) → suc k + 1 ≡ suc (k + 1)
next k = omega arith

abbrev Rises : List (List ℕ) → ℕ → List ℕ → Type 0
Rises ps k d = true ≡ ltb (first (get_or ps k d)) (first (get_or ps (k + 1) d))

later : (a : List ℕ) (ps : List (List ℕ)) (k : ℕ) (d : List ℕ) → Rises (a ∷ ps) (suc k) d → Rises ps k d
later a ps k d e = rw (next k) at e

all_rise : (ps : List (List ℕ)) → ((k : ℕ) (d : List ℕ) → k + 1 < length ps → Rises ps k d) → rising (map first ps) ≡ true
unfolding rising
all_rise [] h = refl
all_rise (a ∷ []) h = refl
all_rise (a ∷ b ∷ ps) h = rw (sym (h 0 [] (omega arith)), all_rise (b ∷ ps) (λ k d l. later a (b ∷ ps) k d (h (suc k) d (omega arith)))) refl

one_falls : (ps : List (List ℕ)) (k : ℕ) → k + 1 < length ps → ((d : List ℕ) → false ≡ ltb (first (get_or ps k d)) (first (get_or ps (k + 1) d))) → rising (map first ps) ≡ false
unfolding rising
one_falls [] k l h = absurd (omega arith)
one_falls (a ∷ []) k l h = absurd (omega arith)
one_falls (a ∷ b ∷ ps) zero l h = rw (sym (h [])) refl
one_falls (a ∷ b ∷ ps) (suc k) l h = rw (one_falls (b ∷ ps) k (omega arith) (λ d. rw (next k) at (h d))) (and-false (ltb (first a) (first b)))

pub rises : (moves : List ℕ) (r : Bool) → IsAllAdjacentAnswer (λ p q b. b ≡ ltb (first p) (first q)) (pairs moves) r → r ≡ rising (first_days moves)
rises moves true h = rw (firsts moves) (sym (all_rise (pairs moves) h))
rises moves false h = rw (firsts moves) (sym (one_falls (pairs moves) h.0 h.1 h.2))

-- a list as its first pair, and the rest
module _ (l : List ℕ) where
  rest : take (length l - 2) (drop 2 l) ≡ drop 2 l
  rest = take_all (length l - 2) (drop 2 l) (omega (arith, length-drop 2 l))

  pub next_again : 2 ≤ length l → let more = first_days (take (length l - 2) (drop 2 l)) in repeated (first_days l) ≡ (member (get_or l 0 0) more || repeated more)
  unfolding repeated first_days
  next_again h = rw rest (go l h)
    where
      go : (xs : List ℕ) → 2 ≤ length xs → repeated (first_days xs) ≡ (member (get_or xs 0 0) (first_days (drop 2 xs)) || repeated (first_days (drop 2 xs)))
      go [] h = absurd (omega arith)
      go (old ∷ []) h = absurd (omega arith)
      go (old ∷ new ∷ more) h = refl

  pub none_again : length l < 2 → repeated (first_days l) ≡ false
  unfolding repeated first_days
  none_again h = go l h
    where
      go : (xs : List ℕ) → length xs < 2 → repeated (first_days xs) ≡ false
      go [] h = refl
      go (old ∷ []) h = refl
      go (old ∷ new ∷ more) h = absurd (omega arith)
