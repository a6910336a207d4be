-- The numerator before the floor, as a difference of two numbers.
use Prim.Native.Nat.{ℕ, zero, suc, ◌+◌, ◌-◌, ◌*◌, ◌≤◌, ◌<◌}
use mathlib.Core.Path.{◌≡◌, sym, ap}
use mathlib.Core.Bool.{true, false}
use mathlib.Core.List.{List}
use mathlib.Core.Logic.{⊎_elim}
use native.Mathlib.Omega.{arith}
use borrow.Author.Tests.{lt-ltb, le-ltb, ne_eqb}
use lib.IntN.{pos, sub_ℕ, ◌+ℤ◌, ◌-ℤ◌}
use Rattle.std.specs.Prelude.{Some, None}
use Rattle.base_lists.proofs.Bools.{lt-or-le}
use Rattle.method.specs.declared.Request.{Request}
use Rattle.method.specs.Table.{Day, History}
use Rattle.method.specs.Adjustment.{ruler, adjustment_end, A, B, is_average}
use Rattle.engine_adjustment.specs.Steps.{found}
use Rattle.engine_adjustment.proofs.Windows.{found_none, found_some, found_past}
use Rattle.engine_baseline.specs.Engine.{with_days}
use Rattle.host_answer.specs.Names.{told}
use Rattle.host_quarters.specs.Steps.{numerator_of}

-- a number more on the one side of a difference
sum_less : (x a b : ℕ) → pos (x + a) -ℤ pos b ≡ pos x +ℤ (pos a -ℤ pos b)
sum_less x a zero = ap pos (omega arith)
sum_less x a (suc b) = ⊎_elim under over (lt-or-le a (suc b))
  where
    over : suc b ≤ a → sub_ℕ (x + a) (suc b) ≡ pos x +ℤ sub_ℕ a (suc b)
    over h =
        let k : suc b ≤ x + a = omega arith in
        let e : x + a - suc b ≡ x + (a - suc b) = omega arith in
        rw (le-ltb a (suc b) h, le-ltb (x + a) (suc b) k, e)

    under : a < suc b → sub_ℕ (x + a) (suc b) ≡ pos x +ℤ sub_ℕ a (suc b)
    under h = rw (lt-ltb a (suc b) h) (⊎_elim low high (lt-or-le x (suc (suc b - suc a))))
      where
        low : x < suc (suc b - suc a) → sub_ℕ (x + a) (suc b) ≡ sub_ℕ x (suc (suc b - suc a))
        low k =
            let o : x + a < suc b = omega arith in
            let e : suc b - suc (x + a) ≡ suc (suc b - suc a) - suc x = omega arith in
            rw (lt-ltb (x + a) (suc b) o, lt-ltb x (suc (suc b - suc a)) k, e)

        high : suc (suc b - suc a) ≤ x → sub_ℕ (x + a) (suc b) ≡ sub_ℕ x (suc (suc b - suc a))
        high k =
            let o : suc b ≤ x + a = omega arith in
            let e : x + a - suc b ≡ x - suc (suc b - suc a) = omega arith in
            rw (le-ltb (x + a) (suc b) o, le-ltb x (suc (suc b - suc a)) k, e)

module _ (r : Request) (h : History Day) (days : List ℕ) (count sum : ℕ) where
  abbrev line : List ℕ
  line = ruler (h.day (r.event - 1)) (h.day r.event)

  pub by_average : is_average r ≡ true → told sum ≡ numerator_of r h days count sum
  unfolding numerator_of
  by_average e = rw e

  module _ (high : is_average r ≡ false) where
    pub without_window : found (adjustment_end r line) ≡ None → None ≡ numerator_of r h days count sum
    unfolding numerator_of
    without_window e = rw (high, found_none (adjustment_end r line) (sym e))

    pub with_window : {end : ℕ} → found (adjustment_end r line) ≡ Some end → {own usual : ℕ} → own ≡ A line end → usual ≡ B r.event (with_days h days) end
        → Some (pos (12 * sum + count * own) -ℤ pos usual) ≡ numerator_of r h days count sum
    unfolding numerator_of
    with_window {end} f {own} {usual} o u =
        let is : end ≡ adjustment_end r line = found_some (adjustment_end r line) end (sym f) in
        rw (high, ← is, ne_eqb end 0 (found_past (adjustment_end r line) end (sym f)), ← o, ← u) (ap Some (sum_less (12 * sum) (count * own) usual))
