-- Readings whose bits are put together: where the whole is small, each of them is good.
use Rattle.std.proofs.Common.{◌≡◌, refl, ℕ, suc, Bool, true, false, [], ◌∷◌, ◌+◌, ◌-◌, ◌%◌, ◌^◌, ◌<◌, ◌≤◌, List, length, get_or, ⊎_elim, arith, eq-eqb, ne_eqb, le-leb}
use mathlib.Core.Bool.{or-true, not, cond}
use native.Mathlib.Nat.{zero-add}
use Rattle.std.specs.Prelude.{unwrap_or, Some}
use Rattle.std.specs.List.{position_from}
use lib.Bits.{bit_or, or_add_and, and_le_l, and_le_r}
use lib.ListN.{take, drop, length-drop, get_or-eq_default}
use lib.Seq.{take_all}
use Rattle.base_lists.proofs.All.{all_of}
use Rattle.base_lists.proofs.Bools.{lt-or-le}
use Rattle.base_lists.specs.Lists.{all, leading}
use Rattle.method.specs.Table.{present, good_reading, missing}
use Rattle.day_readings.specs.Steps.{GoodBefore, Joined}

or_above : (a b : ℕ) → (a ≤ bit_or a b) × (b ≤ bit_or a b)
or_above a b = omega (arith, or_add_and a b, and_le_l a b, and_le_r a b)

-- one more reading is put in
pub joins : (xs : List ℕ) (more i bits : ℕ) → ((k : ℕ) → k < i → (get_or xs k 0 + more) % 2 ^ 32 ≤ bits)
    → (k : ℕ) → k < i + 1 → (get_or xs k 0 + more) % 2 ^ 32 ≤ bit_or bits ((get_or xs i 0 + more) % 2 ^ 32)
joins xs more i bits below k h =
    let w = (get_or xs i 0 + more) % 2 ^ 32 in
    ⊎_elim (λ (o : k < i). omega (arith, below k o, or_above bits w))
    (λ (o : i ≤ k). let same : k ≡ i = omega arith in rw same (omega (arith, or_above bits w)))
    (lt-or-le k i)

good_below : (x : ℕ) → (x < missing → x ≤ 10000000) → x < 2 ^ 32 → good_reading x ≡ true
good_below x small f =
    ⊎_elim (λ (o : x < missing). rw (le-leb x 10000000 (small o)))
    (λ (o : missing ≤ x). rw (eq-eqb x missing (omega arith), or-true))
    (lt-or-le x missing)

module _ (xs : List ℕ) (fits : (i : ℕ) → get_or xs i 0 < 2 ^ 32) where
  each_good : ((i : ℕ) → i < length xs → get_or xs i 0 < missing → get_or xs i 0 ≤ 10000000) → all good_reading xs ≡ true
  each_good small =
      all_of good_reading 0 xs
      (λ i.
      ⊎_elim (λ (h : i < length xs). good_below (get_or xs i 0) (small i h) (fits i))
      (λ (h : length xs ≤ i). rw (get_or-eq_default xs 0 h))
      (lt-or-le i (length xs)))

  pub joined_good : (more bits : ℕ) → more ≤ 1 → Joined xs more bits → bits ≤ 10000000 + more → all good_reading xs ≡ true
  joined_good more bits m q small = each_good (λ i h o. omega (arith, q i h))

  pub joined_high : (more bits : ℕ) → more ≤ 1 → Joined xs more bits → (high : ℕ) → Joined xs 6777215 high → bits < 2 ^ 24 → high < 2 ^ 24
      → all good_reading xs ≡ true
  joined_high more bits m q high p b h = each_good (λ i l o. omega (arith, q i l, p i l))

  -- where not all bits are set, none of them is the missing mark
  pub joined_present : (bits : ℕ) → Joined xs 0 bits → bits < missing → all present xs ≡ true
  joined_present bits q some =
      all_of present 0 xs
      (λ i.
      ⊎_elim (λ (h : i < length xs). rw (ne_eqb (get_or xs i 0) missing (λ e. omega (arith, q i h))))
      (λ (h : length xs ≤ i). rw (get_or-eq_default xs 0 h))
      (lt-or-le i (length xs)))

-- the place of the first reading that is not good
pub first_bad : (xs : List ℕ) → unwrap_or (position_from (λ x. not (good_reading x)) 0 xs) (length xs) ≡ leading good_reading xs
unfolding leading
first_bad xs = let e = go xs 0 in rw (zero-add, zero-add) at e
  where
    go : (l : List ℕ) (i : ℕ) → unwrap_or (position_from (λ x. not (good_reading x)) i l) (i + length l) ≡ i + leading good_reading l
    go [] i = refl
    go (x ∷ l) i = one (good_reading x) (go l (i + 1))
      where
        one : (b : Bool) → unwrap_or (position_from (λ x. not (good_reading x)) (i + 1) l) (i + 1 + length l) ≡ i + 1 + leading good_reading l
            → unwrap_or (cond (not b) (Some i) (position_from (λ x. not (good_reading x)) (i + 1) l)) (i + suc (length l)) ≡ i + cond b (suc (leading good_reading l)) 0
        one true later =
            let e : i + suc (length l) ≡ i + 1 + length l = omega arith in
            let f : i + suc (leading good_reading l) ≡ i + 1 + leading good_reading l = omega arith in
            rw (e, f) later
        one false later = omega arith

-- from a place that only good readings stand before to the first that is not good
pub after : (xs : List ℕ) (start : ℕ) {r : ℕ} → GoodBefore xs start → r ≡ leading good_reading (take (length xs - start) (drop start xs)) → start + r ≡ leading good_reading xs
after xs start g e = rw (e, take_all (length xs - start) (drop start xs) (omega (arith, length-drop start xs))) g.passed
