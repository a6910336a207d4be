-- The row of 14 is the test of the definitions: clause by clause of order 2, and pair by pair.
use Prim.Native.Nat.{ℕ, ◌*◌, ◌/◌, ◌%◌, ◌≤◌, ◌<◌}
use mathlib.Core.Path.{◌≡◌, refl, ap}
use mathlib.Core.Bool.{Bool, true, false, not, ◌&&◌, ◌||◌, or-true, and-true, and-false, true≢false}
use mathlib.Core.List.{List, [], ◌∷◌}
use mathlib.Core.Logic.{⊎_elim}
use native.Mathlib.Omega.{arith}
use lib.ListN.{length}
use lib.Dec.{leb, ltb, eqb}
use borrow.Author.Tests.{le-ltb, lt-ltb, le-leb, lt-leb, leb-true, eq-eqb}
use Rattle.base_lists.specs.Lists.{any, member}
use Rattle.base_lists.proofs.Bools.{and_left, lt-or-le, below_not}
use Rattle.calendar_dates.specs.Days.{last_day, year_of}
use Rattle.calendar_holidays.specs.Yearly.{fixed_holidays, is_fixed_holiday}
use Rattle.calendar_groups.specs.Holidays.{first_days, good_pairs, repeated, good_moves}
use Rattle.method.specs.declared.Refusal.TheVariants.{BadMoves}
use Rattle.method.specs.Verdict.{list_refusals}
use Rattle.demands.specs.Rows.{list_rows}

module _ (moves : List ℕ) where
  abbrev foreign : Bool
  foreign = any (λ d. not (is_fixed_holiday d)) (first_days moves)

  abbrev again : Bool
  again = repeated (first_days moves)

  abbrev past : Bool
  past = any (λ d. ltb last_day d) moves

  abbrev half : Bool
  half = eqb (length moves % 2) 1

-- a pair before others: `f` is its first day's holiday, `b` that its second lies in the calendar
one_pair : (f early b a d o g : Bool) → (f ≡ true → early ≡ false) → (a || d || o) ≡ not g
    → ((not f || a) || (early || (not b || d)) || o) ≡ not (f && b && g)
one_pair false early b a d o g e h = refl
one_pair true early false a d o g e h = rw (e refl, or-true a) refl
one_pair true early true a d o g e h = rw (e refl) h

within : (d : ℕ) → is_fixed_holiday d ≡ true → ltb last_day d ≡ false
unfolding is_fixed_holiday
within d t = le-ltb last_day d (leb-true d last_day (and_left (leb d last_day) (member d (fixed_holidays (year_of d))) t))

pairs_tested : (moves : List ℕ) → (foreign moves || past moves || half moves) ≡ not (good_pairs moves)
unfolding any first_days good_pairs
pairs_tested [] = refl
pairs_tested (old ∷ []) = or-true (past (old ∷ []))
pairs_tested (old ∷ new ∷ more) =
    let two : length (old ∷ new ∷ more) % 2 ≡ length more % 2 = omega arith in
    rw (two, below_not last_day new)
    (one_pair (is_fixed_holiday old) (ltb last_day old) (leb new last_day) (foreign more) (past more) (half more) (good_pairs more) (within old) (pairs_tested more))

-- the clauses in the order of 02, where `r` is a repeated first day and `c` is too many pairs
clauses : (a r c d o g : Bool) → (a || d || o) ≡ not g → c ≡ false → (a || r || c || d || o) ≡ not (true && g && not r)
clauses true r c d o true h n = absurd (true≢false h)
clauses true r c d o false h n = refl
clauses false true c d o g h n = rw (and-false g) refl
clauses false false c d o g h n = rw (n, and-true g) h

list_tested : (moves : List ℕ) → (foreign moves || again moves || ltb 16 (length moves / 2) || past moves || half moves) ≡ not (good_moves moves)
unfolding good_moves
list_tested moves = ⊎_elim many few (lt-or-le (2 * 16) (length moves))
  where
    few : length moves ≤ 2 * 16 → (foreign moves || again moves || ltb 16 (length moves / 2) || past moves || half moves) ≡ not (good_moves moves)
    few h =
        let most : length moves / 2 ≤ 16 = omega arith in
        rw (le-leb (length moves) (2 * 16) h)
        (clauses (foreign moves) (again moves) (ltb 16 (length moves / 2)) (past moves) (half moves) (good_pairs moves) (pairs_tested moves)
        (le-ltb 16 (length moves / 2) most))

    over : 16 < length moves / 2 → (foreign moves || again moves || ltb 16 (length moves / 2) || past moves || half moves) ≡ true
    over h = rw (lt-ltb 16 (length moves / 2) h, or-true (foreign moves || again moves)) refl

    odd : length moves % 2 ≡ 1 → (foreign moves || again moves || ltb 16 (length moves / 2) || past moves || half moves) ≡ true
    odd e = rw (eq-eqb (length moves % 2) 1 e) (or-true (foreign moves || again moves || ltb 16 (length moves / 2) || past moves))

    many : 2 * 16 < length moves → (foreign moves || again moves || ltb 16 (length moves / 2) || past moves || half moves) ≡ not (good_moves moves)
    many h = rw (lt-leb (length moves) (2 * 16) h) (⊎_elim over (λ k. odd (omega arith)) (lt-or-le 16 (length moves / 2)))

pub list_rows_lem : (moves : List ℕ) → list_rows moves ≡ list_refusals moves
unfolding list_rows list_refusals
list_rows_lem moves = ap (λ (b : Bool). (b, BadMoves) ∷ []) (list_tested moves)
