-- A list of moves: its pairs one after the other, and what it makes of the holidays.
use Prim.Native.Nat.{ℕ, ◌*◌, ◌≤◌}
use mathlib.Core.Path.{◌≡◌, refl, sym, ◌∙◌, ap}
use mathlib.Core.Bool.{Bool, true, false, not, ◌&&◌, ◌||◌, or-true, true≢false}
use mathlib.Core.List.{List, [], ◌∷◌}
use mathlib.Core.Logic.{⊎_elim}
use native.Mathlib.Omega.{arith}
use borrow.Author.Tests.{eq-eqb, ne_eqb, eqb-true, ltb-true}
use lib.Dec.{leb, ltb, eqb}
use lib.ListN.{length}
use Rattle.base_lists.specs.Lists.{member}
use Rattle.base_lists.proofs.Bools.{bool_cases, both, and_left, and_right}
use Rattle.base_lists.proofs.Members.{member-append}
use Rattle.calendar_dates.specs.Days.{last_day, year_of}
use Rattle.calendar_holidays.specs.Yearly.{fixed_holidays, easter_holidays, holidays, is_fixed_holiday, is_easter_holiday}
use Rattle.calendar_groups.specs.Holidays.{first_days, second_days, is_holiday, good_pairs, repeated, good_moves}
use Rattle.calendar_groups.specs.Steps.{rising}

-- ---- a rising list has no number again
above : (x a : ℕ) (l : List ℕ) → rising (a ∷ l) ≡ true → x ≤ a → member x l ≡ false
unfolding rising member
above x a [] r h = refl
above x a (b ∷ l) r h =
    let k = both (ltb a b) (rising (b ∷ l)) r in
    let less = ltb-true a b k.0 in
    rw (ne_eqb x b (λ e. omega arith)) (above x b l k.1 (omega arith))

pub no_again : (l : List ℕ) → rising l ≡ true → repeated l ≡ false
unfolding rising repeated
no_again [] r = refl
no_again (a ∷ []) r = unfold member in refl
no_again (a ∷ b ∷ l) r = rw (above a a (b ∷ l) r (omega arith)) (no_again (b ∷ l) (both (ltb a b) (rising (b ∷ l)) r).1)

-- ---- the test of a whole list, one law for each way out
module _ (moves : List ℕ) {told : Bool} (is : told ≡ (leb (length moves) (2 * 16) && good_pairs moves)) where
  pub by_pairs : told ≡ false → told ≡ good_moves moves
  unfolding good_moves
  by_pairs t = t ∙ rw (sym is ∙ t) refl

  pub by_rising : told ≡ true → rising (first_days moves) ≡ true → true ≡ good_moves moves
  unfolding good_moves
  by_rising t r = rw (sym is ∙ t, no_again (first_days moves) r) refl

  pub by_again : told ≡ true → {again : Bool} → again ≡ repeated (first_days moves) → not again ≡ good_moves moves
  unfolding good_moves
  by_again t a = rw (sym is ∙ t, a) refl

-- ---- a holiday by the tests of the code, one law for each way out
module _ (moves : List ℕ) (d : ℕ) where
  pub replacing : member d (second_days moves) ≡ true → true ≡ is_holiday moves d
  unfolding is_holiday
  replacing m = rw (m, or-true ((is_fixed_holiday d && not (member d (first_days moves))) || is_easter_holiday d))

  module _ {told : Bool} (is : told ≡ (member d (second_days moves) || is_easter_holiday d)) where
    pub by_either : told ≡ true → told ≡ is_holiday moves d
    unfolding is_holiday
    by_either t = t ∙ go (is_fixed_holiday d && not (member d (first_days moves))) (is_easter_holiday d) (member d (second_days moves)) (sym is ∙ t)
      where
        go : (f e m : Bool) → (m || e) ≡ true → true ≡ (f || e || m)
        go true e m h = refl
        go false true m h = refl
        go false false true h = refl
        go false false false h = sym h

    neither : (n e m : Bool) → (m || e) ≡ false → n ≡ (n || e || m)
    neither true e m h = refl
    neither false e true h = absurd (true≢false h)
    neither false true false h = absurd (true≢false h)
    neither false false false h = refl

    pub by_date : told ≡ false → is_fixed_holiday d ≡ true → {away : Bool} → away ≡ member d (first_days moves) → not away ≡ is_holiday moves d
    unfolding is_holiday
    by_date t f a = rw (a, f) (neither (not (member d (first_days moves))) (is_easter_holiday d) (member d (second_days moves)) (sym is ∙ t))

    pub by_none : told ≡ false → is_fixed_holiday d ≡ false → false ≡ is_holiday moves d
    unfolding is_holiday
    by_none t f = rw f (neither false (is_easter_holiday d) (member d (second_days moves)) (sym is ∙ t))

-- ---- what a list makes of the holidays
pub unmoved : (d : ℕ) → is_holiday [] d ≡ (leb d last_day && member d (holidays (year_of d)))
unfolding is_holiday is_fixed_holiday is_easter_holiday holidays first_days second_days member
unmoved d =
    go (leb d last_day) (member d (fixed_holidays (year_of d))) (member d (easter_holidays (year_of d))) ∙
    ap (λ (b : Bool). leb d last_day && b) (sym (member-append d (fixed_holidays (year_of d)) (easter_holidays (year_of d))))
  where
    go : (l f e : Bool) → (((l && f) && true) || (l && e) || false) ≡ (l && (f || e))
    go true true e = refl
    go true false true = refl
    go true false false = refl
    go false f e = refl

module _ (old : ℕ) (moves : List ℕ) (d : ℕ) (good : good_moves (old ∷ old ∷ moves) ≡ true) where
  tests : ((is_fixed_holiday old && leb old last_day && good_pairs moves) ≡ true) × (not (member old (first_days moves) || repeated (first_days moves)) ≡ true)
  unfolding good_moves good_pairs first_days repeated
  tests =
      let size = leb (length (old ∷ old ∷ moves)) (2 * 16) in
      let pairs = is_fixed_holiday old && leb old last_day && good_pairs moves in
      let k = both (size && pairs) (not (member old (first_days moves) || repeated (first_days moves))) good in
      (and_right size pairs k.0, k.1)

  fixed : is_fixed_holiday old ≡ true
  fixed = and_left (is_fixed_holiday old) (leb old last_day) (and_left (is_fixed_holiday old && leb old last_day) (good_pairs moves) tests.0)

  alone : member old (first_days moves) ≡ false
  alone = go (member old (first_days moves)) (repeated (first_days moves)) tests.1
    where
      go : (a b : Bool) → not (a || b) ≡ true → a ≡ false
      go true b e = absurd (true≢false (sym e))
      go false b e = refl

  pub stays : is_holiday (old ∷ old ∷ moves) d ≡ is_holiday moves d
  unfolding is_holiday first_days second_days member
  stays = ⊎_elim (λ e. same (eqb-true d old e)) (λ e. rw e refl) (bool_cases (eqb d old))
    where
      same : d ≡ old → is_holiday (old ∷ old ∷ moves) d ≡ is_holiday moves d
      same e = rw (e, eq-eqb old old refl, fixed, alone, or-true (is_easter_holiday old)) refl
