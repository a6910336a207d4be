-- Histories: which days one holds, and one that extends another.
use mathlib.Core.Path.{◌≡◌}
use mathlib.Core.Bool.{true}
use Prim.Native.Nat.{ℕ, ◌+◌, ◌≤◌, ◌<◌}
use native.Mathlib.Omega.{arith}
use borrow.Author.Tests.{leb-true, ltb-true, le-leb, lt-ltb}
use Rattle.base_lists.proofs.Bools.{and_left, and_right}
use Rattle.method.specs.Table.{History, held}

-- `l` holds what `h` holds, and perhaps more days before, after, or both
pub record Extends {A : Type 0} (l h : History A) : Type 0 where
  pub starts : l.first ≤ h.first
  pub ends : h.first + h.count ≤ l.first + l.count
  pub agrees : (d : ℕ) → held h d ≡ true → l.day d ≡ h.day d

module _ {A : Type 0} (h : History A) (d : ℕ) where
  pub held_first : held h d ≡ true → h.first ≤ d
  unfolding held
  held_first e = leb-true h.first d (search and_left)

  pub held_last : held h d ≡ true → d < h.first + h.count
  unfolding held
  held_last e = ltb-true d (h.first + h.count) (search and_right)

  pub is_held : h.first ≤ d → d < h.first + h.count → held h d ≡ true
  unfolding held
  is_held f g = rw (le-leb h.first d f, lt-ltb d (h.first + h.count) g)

pub extends_held : {A : Type 0} {l h : History A} → Extends l h → (d : ℕ) → held h d ≡ true → held l d ≡ true
extends_held {A} {l} {h} x d e = is_held l d (omega (arith, held_first h d e)) (omega (arith, held_last h d e))
