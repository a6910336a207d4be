-- A table of Easter Sundays as month and day: that it follows the rule, by one test that is computed over the whole of it, and what an entry is in days.
use Prim.Native.Nat.{ℕ, ◌+◌, ◌-◌, ◌≤◌, ◌<◌}
use mathlib.Core.Path.{◌≡◌, refl, ◌∙◌}
use mathlib.Core.Bool.{Bool, true, cond}
use mathlib.Core.List.{List}
use mathlib.Core.Logic.{◌⊎◌, inl, inr, ⊎_elim}
use native.Mathlib.Omega.{arith}
use borrow.Author.Tests.{eqb-true, lt-ltb, le-ltb}
use lib.Dec.{eqb, ltb}
use lib.ListN.{get_or}
use Rattle.base_lists.proofs.Below.{below}
use Rattle.base_lists.proofs.Bools.{lt-or-le}
use Rattle.base_lists.specs.Lists.{sum_of}
use Rattle.calendar_dates.specs.Days.{leap, months, new_year, day_number, year_of, date_after, date_of}
use Rattle.calendar_holidays.specs.Yearly.{easter_d, easter_e, easter}
use Rattle.calendar_holidays.specs.Steps.{month_and_day}
use Rattle.calendar_holidays.proofs.EasterSum.{each_year, moon-le}

-- the entry of a year is Easter's month and day
unfoldable pub follows : List ℕ → ℕ → Bool
follows table y = eqb (get_or table (y - 2000) 0) (month_and_day (easter y))

-- a table that passes the test in all hundred years follows the rule in each
pub follows_rule :
    (table : List ℕ) → below (λ k. follows table (2000 + k)) 100 ≡ true →
    (y : ℕ) → (2000 ≤ y) × (y ≤ 2099) → get_or table (y - 2000) 0 ≡ month_and_day (easter y)
unfolding follows
follows_rule table all y inside =
    eqb-true (get_or table (y - 2000) 0) (month_and_day (easter y)) (each_year (follows table) all y inside)

-- how many days after 1 March Easter lies by the rule; with 30 days of April over it lies in May
abbrev since : ℕ → ℕ
since y = 34 + easter_d y + easter_e y

counted : ℕ → Bool
counted y = eqb (month_and_day (easter y)) (cond (ltb (since y) 61) (401 + (since y - 31)) (501 + (since y - 61)))

module _ (y x : ℕ) (inside : (2000 ≤ y) × (y ≤ 2099)) (is : x ≡ month_and_day (easter y)) where
  entry : x ≡ cond (ltb (since y) 61) (401 + (since y - 31)) (501 + (since y - 61))
  unfolding counted easter day_number months new_year leap sum_of year_of date_after date_of
  entry = is ∙ eqb-true (month_and_day (easter y)) _ (each_year counted refl y inside)

  in_either : ((since y < 61) × (x ≡ 401 + (since y - 31))) ⊎ ((61 ≤ since y) × (x ≡ 501 + (since y - 61)))
  in_either = ⊎_elim (λ h. inl (h, rw (lt-ltb (since y) 61 h) at entry)) (λ h. inr (h, rw (le-ltb (since y) 61 h) at entry)) (lt-or-le (since y) 61)

  pub in_april : x < 500 → (401 ≤ x) × (x - 401 + 31 ≡ since y) × (since y ≤ 69)
  in_april h = ⊎_elim (λ a. omega arith) (λ m. omega arith) in_either

  pub in_may : 500 ≤ x → (501 ≤ x) × (x - 501 + 61 ≡ since y) × (since y ≤ 69)
  in_may h = ⊎_elim (λ a. omega (arith, moon-le y)) (λ m. omega (arith, moon-le y)) in_either
