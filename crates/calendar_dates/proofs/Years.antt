-- Years: leap or not, how many days one has, and in which a day lies. All by linear arithmetic.
use Prim.Native.Nat.{ℕ, suc, ◌+◌, ◌-◌, ◌%◌, ◌≤◌, ◌<◌}
use mathlib.Core.Path.{◌≡◌}
use mathlib.Core.Bool.{true}
use mathlib.Core.Logic.{◌⊎◌, inl, inr, ⊎_elim}
use native.Mathlib.Omega.{arith}
use borrow.Author.Tests.{eqb-true, eqb-false, leb-true, le-leb}
use lib.Dec.{leb, eqb}
use Rattle.base_lists.proofs.Bools.{bool_cases, both}
use Rattle.calendar_dates.specs.Days.{last_day, in_calendar, leap, new_year, year_of}

pub in_calendar_lem : (y : ℕ) → in_calendar y ≡ true → (2000 ≤ y) × (y ≤ 2099)
in_calendar_lem y h =
    let b = both (leb 2000 y) (leb y 2099) h in
    (leb-true 2000 y b.0, leb-true y 2099 b.1)

pub calendar_year : (y : ℕ) → 2000 ≤ y → y ≤ 2099 → in_calendar y ≡ true
calendar_year y l h = simp (le-leb 2000 y l, le-leb y 2099 h)

pub leap_cases : (y : ℕ) → ((y % 4 ≡ 0) × (leap y ≡ 1)) ⊎ ((y % 4 ≡ 0 → ⊥) × (leap y ≡ 0))
unfolding leap
leap_cases y =
    ⊎_elim (λ t. inl (eqb-true (y % 4) 0 t, rw t)) (λ f. inr (eqb-false (y % 4) 0 f, rw f)) (bool_cases (eqb (y % 4) 0))

pub leap-le : (y : ℕ) → leap y ≤ 1
leap-le y = ⊎_elim (λ t. omega arith) (λ f. omega arith) (leap_cases y)

pub next_year : (y : ℕ) → 2000 ≤ y → new_year (y + 1) ≡ new_year y + (365 + leap y)
unfolding new_year
next_year y h = ⊎_elim (λ t. omega arith) (λ f. omega arith) (leap_cases y)

pub calendar_end : (y : ℕ) → y ≤ 2099 → new_year (y + 1) ≤ suc last_day
unfolding new_year
calendar_end y h = omega arith

pub year_of_least : (d : ℕ) → 2000 ≤ year_of d
unfolding year_of
year_of_least d = omega arith

pub year_of_in : (d : ℕ) → d ≤ last_day → (2000 ≤ year_of d) × (year_of d ≤ 2099)
unfolding year_of
year_of_in d h = (omega arith, omega arith)

pub year_in_calendar : (d : ℕ) → d ≤ last_day → in_calendar (year_of d) ≡ true
year_in_calendar d h = let b = year_of_in d h in calendar_year (year_of d) b.0 b.1

-- a day lies in its year
pub in_its_year : (d : ℕ) → (new_year (year_of d) ≤ d) × (d < new_year (year_of d + 1))
unfolding new_year year_of
in_its_year d = (omega arith, omega arith)

-- as many days after its first as have passed
pub since_new_year : (d : ℕ) → d ≡ new_year (year_of d) + (d - new_year (year_of d))
since_new_year d = omega (arith, in_its_year d)

-- and in no other
pub year_of_day : (y d : ℕ) → 2000 ≤ y → new_year y ≤ d → d < new_year (y + 1) → year_of d ≡ y
unfolding new_year year_of
year_of_day y d h a b = omega arith
