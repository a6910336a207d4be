-- Months: the days of a year before each month, from a table of a common year, computed for one leap year and one common year.
use Prim.Native.Nat.{ℕ, ◌+◌, ◌*◌, ◌/◌, ◌≤◌, ◌<◌}
use mathlib.Core.Path.{◌≡◌, refl}
use mathlib.Core.Bool.{Bool, true, cond}
use mathlib.Core.List.{List, [], ◌∷◌}
use mathlib.Core.Logic.{⊎_elim}
use native.Mathlib.Omega.{arith}
use borrow.Author.Tests.{eqb-true, leb-true, lt-ltb, le-ltb}
use lib.Dec.{leb, ltb, eqb}
use lib.ListN.{get_or, take}
use Rattle.base_lists.specs.Lists.{sum_of}
use Rattle.base_lists.proofs.Below.{below, at_each}
use Rattle.base_lists.proofs.Bools.{lt-or-le}
use Rattle.calendar_dates.specs.Days.{leap, months}
use Rattle.calendar_dates.proofs.Years.{leap_cases, leap-le}

-- what holds of the months of 2000 and of 2001 holds of the months of every year
pub of_both : (P : List ℕ → ℕ → Type 0) → P (months 2000) 1 → P (months 2001) 0 → (y : ℕ) → P (months y) (leap y)
unfolding months leap
of_both P long short y = ⊎_elim (λ t. rw t.1 long) (λ f. rw f.1 short) (leap_cases y)

-- the days of the first months of a common year
abbrev pub common : List ℕ
common = 0 ∷ 31 ∷ 59 ∷ 90 ∷ 120 ∷ 151 ∷ 181 ∷ 212 ∷ 243 ∷ 273 ∷ 304 ∷ 334 ∷ 365 ∷ []

-- the days of the first `k` months of a year, `l` its leap day
abbrev pub days_of : ℕ → ℕ → ℕ
days_of l k = get_or common k 0 + cond (ltb k 2) 0 l

-- a test of the months, computed for both kinds of year and every number below `n`
module _ (p : List ℕ → ℕ → ℕ → Bool) (n : ℕ) where
  pub each_month :
      below (p (months 2000) 1) n ≡ true → below (p (months 2001) 0) n ≡ true →
      (y k : ℕ) → k < n → p (months y) (leap y) k ≡ true
  each_month long short =
      of_both (λ ms l. (k : ℕ) → k < n → p ms l k ≡ true) (at_each (p (months 2000) 1) n long)
      (at_each (p (months 2001) 0) n short)

right : List ℕ → ℕ → ℕ → Bool
right ms l k = eqb (sum_of (take k ms)) (days_of l k)

pub days_of_lem : (y k : ℕ) → k < 13 → sum_of (take k (months y)) ≡ days_of (leap y) k
unfolding right months leap sum_of
days_of_lem y k h = eqb-true (sum_of (take k (months y))) (days_of (leap y) k) (each_month right 13 refl refl y k h)

pub common-le : (k : ℕ) → k < 13 → get_or common k 0 ≤ 365
common-le k h = leb-true (get_or common k 0) 365 (at_each (λ n. leb (get_or common n 0) 365) 13 refl k h)

pub days_of_year : (y : ℕ) → sum_of (take 12 (months y)) ≡ 365 + leap y
unfolding months sum_of
days_of_year y = omega arith

short : List ℕ → ℕ → ℕ → Bool
short ms l k = leb (sum_of (take k ms)) (32 * k)

-- no month has more than 32 days
pub months-short : (y k : ℕ) → k < 12 → sum_of (take k (months y)) ≤ 32 * k
unfolding short months leap sum_of
months-short y k h = leb-true (sum_of (take k (months y))) (32 * k) (each_month short 12 refl refl y k h)

long : List ℕ → ℕ → ℕ → Bool
long ms l k = leb (32 * k + 32) (sum_of (take (k + 2) ms))

-- and one more month makes up for those that have fewer
pub months-long : (y k : ℕ) → k < 11 → 32 * k + 32 ≤ sum_of (take (k + 2) (months y))
unfolding long months leap sum_of
months-long y k h =
    leb-true (32 * k + 32) (sum_of (take (k + 2) (months y))) (each_month long 11 refl refl y k h)

pub days_few : (y k : ℕ) → k < 2 → get_or common k 0 ≡ sum_of (take k (months y))
days_few y k h =
    let few : k < 13 = omega arith in
    let e = rw (lt-ltb k 2 h) at (days_of_lem y k few) in
    omega arith

pub days_more : (y k : ℕ) → 2 ≤ k → k < 13 → get_or common k 0 + leap y ≡ sum_of (take k (months y))
days_more y k l h =
    let e = rw (le-ltb k 2 l) at (days_of_lem y k h) in
    omega arith

-- the months that are over after `n` days of the year
abbrev pub Over : ℕ → ℕ → ℕ → Type 0
Over y n k = (k < 12) × (sum_of (take k (months y)) ≤ n) × (n < sum_of (take (k + 1) (months y)))

module _ (y n : ℕ) (h : n < sum_of (take 12 (months y))) where
  pub over_least : n / 32 < 12
  over_least = omega (arith, days_of_year y, leap-le y)

  pub over_so : n < sum_of (take (n / 32 + 1) (months y)) → Over y n (n / 32)
  over_so t = (over_least, omega (arith, months-short y (n / 32) over_least), t)

  pub over_next : sum_of (take (n / 32 + 1) (months y)) ≤ n → Over y n (n / 32 + 1)
  over_next f = (omega (arith, few), f, rw two (omega (arith, months-long y (n / 32) few)))
    where
      last : 11 ≤ n / 32 → n / 32 < 11
      last l =
          let e : n / 32 ≡ 11 = omega (arith, over_least) in
          let g = rw e at f in
          omega arith

      few : n / 32 < 11
      few = ⊎_elim (λ t. t) last (lt-or-le (n / 32) 11)

      two : n / 32 + 1 + 1 ≡ n / 32 + 2
      two = omega arith
