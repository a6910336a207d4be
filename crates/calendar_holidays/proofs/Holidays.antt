-- The fixed holidays as sums, and that no holiday leaves its year.
use Prim.Native.Nat.{ℕ, ◌+◌, ◌-◌, ◌≤◌, ◌<◌}
use mathlib.Core.Path.{◌≡◌, refl}
use mathlib.Core.Bool.{Bool, true, false, or-false}
use mathlib.Core.List.{[], ◌∷◌}
use native.Mathlib.Omega.{arith}
use lib.Dec.{eqb}
use borrow.Author.Tests.{ne_eqb}
use Rattle.base_lists.specs.Lists.{sum_of, member}
use Rattle.base_lists.proofs.Bools.{same_eqb}
use Rattle.base_lists.proofs.Members.{Each, each_member}
use Rattle.calendar_dates.specs.Days.{in_calendar, leap, months, new_year, day_number}
use Rattle.calendar_holidays.specs.Yearly.{easter_d, easter_e, easter, fixed_holidays, easter_holidays, holidays}
use Rattle.calendar_dates.proofs.Years.{in_calendar_lem, next_year, leap-le}
use Rattle.calendar_holidays.proofs.EasterSum.{easter_sum, easter_bounds}

pub fixed_sums : (y : ℕ) →
    fixed_holidays y ≡
    new_year y ∷ (new_year y + 5) ∷ (new_year y + leap y + 83) ∷ (new_year y + leap y + 120) ∷
    (new_year y + leap y + 226) ∷ (new_year y + leap y + 300) ∷ (new_year y + leap y + 358) ∷
    (new_year y + leap y + 359) ∷ []
unfolding fixed_holidays day_number months sum_of
fixed_sums y =
    let p₁ : day_number y 1 1 ≡ new_year y = omega arith in
    let p₂ : day_number y 1 6 ≡ new_year y + 5 = omega arith in
    let p₃ : day_number y 3 25 ≡ new_year y + leap y + 83 = omega arith in
    let p₄ : day_number y 5 1 ≡ new_year y + leap y + 120 = omega arith in
    let p₅ : day_number y 8 15 ≡ new_year y + leap y + 226 = omega arith in
    let p₆ : day_number y 10 28 ≡ new_year y + leap y + 300 = omega arith in
    let p₇ : day_number y 12 25 ≡ new_year y + leap y + 358 = omega arith in
    let p₈ : day_number y 12 26 ≡ new_year y + leap y + 359 = omega arith in
    λ i. p₁ i ∷ p₂ i ∷ p₃ i ∷ p₄ i ∷ p₅ i ∷ p₆ i ∷ p₇ i ∷ p₈ i ∷ []

-- two days counted from a third: the same test
days_after : (f d x passed n : ℕ) → d ≡ f + passed → x ≡ f + n → eqb d x ≡ eqb passed n
days_after f d x passed n p q = same_eqb d x passed n (omega arith) (omega arith)

-- the eight tests of a day of the year, by how many days of it have passed
module _ (y d passed : ℕ) (is : d ≡ new_year y + passed) where
  pub fixed_early : passed < 59 → member passed (0 ∷ 5 ∷ []) ≡ member d (fixed_holidays y)
  unfolding member
  fixed_early h =
      rw (
        fixed_sums y,
        days_after (new_year y) d (new_year y) passed 0 is (omega arith),
        days_after (new_year y) d (new_year y + 5) passed 5 is (omega arith),
        ne_eqb d (new_year y + leap y + 83) (omega arith),
        ne_eqb d (new_year y + leap y + 120) (omega arith),
        ne_eqb d (new_year y + leap y + 226) (omega arith),
        ne_eqb d (new_year y + leap y + 300) (omega arith),
        ne_eqb d (new_year y + leap y + 358) (omega arith),
        ne_eqb d (new_year y + leap y + 359) (omega arith),
        or-false,
      )

  pub fixed_later : 59 ≤ passed
      → let later = passed - leap y in
      member later (83 ∷ 120 ∷ 226 ∷ 300 ∷ 358 ∷ 359 ∷ []) ≡ member d (fixed_holidays y)
  unfolding member
  fixed_later h =
      let l = leap-le y in
      let from : d ≡ new_year y + leap y + (passed - leap y) = omega arith in
      let f = new_year y + leap y in
      let later = passed - leap y in
      rw (
        fixed_sums y,
        ne_eqb d (new_year y) (omega arith),
        ne_eqb d (new_year y + 5) (omega arith),
        days_after f d (f + 83) later 83 from refl,
        days_after f d (f + 120) later 120 from refl,
        days_after f d (f + 226) later 226 from refl,
        days_after f d (f + 300) later 300 from refl,
        days_after f d (f + 358) later 358 from refl,
        days_after f d (f + 359) later 359 from refl,
        or-false,
      )

-- no Easter holiday lies before the 46th or after the 179th day of its year
Near : ℕ → ℕ → Type 0
Near y h = (new_year y + 45 ≤ h) × (h ≤ new_year y + 178)

pub far_from_easter : (y d : ℕ) → in_calendar y ≡ true → (new_year y + 45 ≤ d → d ≤ new_year y + 178 → ⊥) → false ≡ member d (easter_holidays y)
unfolding Near easter_holidays
far_from_easter y d inside away = go (member d (easter_holidays y)) refl
  where
    near : Each (Near y) (easter_holidays y)
    near = omega (arith, easter_bounds y inside, leap-le y)

    go : (b : Bool) → member d (easter_holidays y) ≡ b → false ≡ b
    go false e = refl
    go true e = let n = each_member (Near y) d (easter_holidays y) near e in absurd (away n.0 n.1)

-- Clean Monday as a sum: 11 is the 59 days before March less the 48 from it to Easter Sunday
monday_sum : (y r : ℕ) → in_calendar y ≡ true → r ≡ 34 + easter_d y + easter_e y → easter y ≡ new_year y + (11 + leap y + r) + 48
monday_sum y r inside from = omega (arith, easter_sum y inside)

module _ (y d passed r : ℕ) (inside : in_calendar y ≡ true) (is : d ≡ new_year y + passed) (from : r ≡ 34 + easter_d y + easter_e y) where
  -- no Easter holiday lies before Clean Monday
  pub before_easter : passed < 11 + leap y + r → false ≡ member d (easter_holidays y)
  unfolding member easter_holidays
  before_easter h =
      let e = monday_sum y r inside from in
      rw (
        ne_eqb d (easter y - 48) (omega arith),
        ne_eqb d (easter y - 2) (omega arith),
        ne_eqb d (easter y - 1) (omega arith),
        ne_eqb d (easter y) (omega arith),
        ne_eqb d (easter y + 1) (omega arith),
        ne_eqb d (easter y + 50) (omega arith),
      )

  -- the six tests of a day of the year, by how many days after Clean Monday it lies
  pub near_easter : 11 + leap y + r ≤ passed
      → let after = passed - (11 + leap y + r) in
      member after (0 ∷ 46 ∷ 47 ∷ 48 ∷ 49 ∷ 98 ∷ []) ≡ member d (easter_holidays y)
  unfolding member easter_holidays
  near_easter h =
      let monday = 11 + leap y + r in
      let e = monday_sum y r inside from in
      let f = new_year y + monday in
      let after = passed - monday in
      let far : d ≡ f + after = omega arith in
      rw (
        days_after f d (easter y - 48) after 0 far (omega arith),
        days_after f d (easter y - 2) after 46 far (omega arith),
        days_after f d (easter y - 1) after 47 far (omega arith),
        days_after f d (easter y) after 48 far (omega arith),
        days_after f d (easter y + 1) after 49 far (omega arith),
        days_after f d (easter y + 50) after 98 far (omega arith),
        or-false,
      )

-- a day of the year
pub OfYear : ℕ → ℕ → Type 0
OfYear y h = (new_year y ≤ h) × (h < new_year (y + 1))

pub each_in_year : (y : ℕ) → in_calendar y ≡ true → Each (OfYear y) (holidays y)
unfolding OfYear holidays easter_holidays fixed_holidays day_number months sum_of
each_in_year y h = omega (arith, next_year y (in_calendar_lem y h).0, easter_bounds y h)

pub stays_in_year : (y h : ℕ) → in_calendar y ≡ true → member h (holidays y) ≡ true → (new_year y ≤ h) × (h < new_year (y + 1))
unfolding OfYear
stays_in_year y h i e = each_member (OfYear y) h (holidays y) (each_in_year y i) e
