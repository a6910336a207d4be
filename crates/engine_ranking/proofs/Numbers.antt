-- The numbers behind a day's word: two words compare as the sums and then the nearness do, and the day comes back out of its word.
use Prim.Native.Nat.{ℕ, ◌+◌, ◌-◌, ◌*◌, ◌%◌, ◌<◌, ◌≤◌}
use mathlib.Core.Path.{◌≡◌}
use mathlib.Core.Bool.{◌&&◌, ◌||◌}
use mathlib.Core.Logic.{⊎_elim}
use native.Mathlib.Omega.{arith}
use lib.Dec.{ltb, eqb}
use borrow.Author.Tests.{lt-ltb, le-ltb, eq-eqb, ne_eqb}
use Rattle.base_lists.proofs.Bools.{lt-or-le, same_test}

pub sums_then_nearness : (s t m n : ℕ) → m < 64 → n < 64 → (ltb t s || (eqb s t && ltb n m)) ≡ ltb (64 * t + n) (64 * s + m)
sums_then_nearness s t m n hm hn =
    ⊎_elim
    (λ (h : t < s). rw (lt-ltb t s h, lt-ltb (64 * t + n) (64 * s + m) (omega arith)))
    (λ (h : s ≤ t). ⊎_elim
    (λ (o : s < t). rw (le-ltb t s h, ne_eqb s t (omega arith), le-ltb (64 * t + n) (64 * s + m) (omega arith)))
    (λ (o : t ≤ s). rw (le-ltb t s h, eq-eqb s t (omega arith)) (same_test n m (64 * t + n) (64 * s + m) (omega arith) (omega arith)))
    (lt-or-le s t))
    (lt-or-le t s)

module _ (event d : ℕ) (from_45 : event ≤ d + 45) where
  pub later_is_nearer : (c : ℕ) → event ≤ c + 45 → ltb d c ≡ ltb (d + 46 - event) (c + 46 - event)
  later_is_nearer c h = same_test d c (d + 46 - event) (c + 46 - event) (omega arith) (omega arith)

  pub day_back : (s : ℕ) → d < event → event - (46 - (64 * s + (d + 46 - event)) % 64) ≡ d
  day_back s h = omega arith
