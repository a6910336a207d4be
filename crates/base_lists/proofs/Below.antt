-- A test that is computed for every number below a bound holds of each of them: how the rule of a table is proved once.
use Prim.Native.Nat.{ℕ, zero, suc, ◌<◌}
use mathlib.Core.Path.{◌≡◌}
use mathlib.Core.Bool.{Bool, true, ◌&&◌}
use mathlib.Core.Logic.{⊎_elim}
use native.Mathlib.Nat.{not-suc-le-zero, le_of_suc-le-suc, eq-or-lt_of_le}
use Rattle.base_lists.proofs.Bools.{both}

-- `p` holds of every number below `n`
abbrev pub below : (ℕ → Bool) → ℕ → Bool
below p zero = true
below p (suc n) = p n && below p n

pub at_each : (p : ℕ → Bool) (n : ℕ) → below p n ≡ true → (k : ℕ) → k < n → p k ≡ true
at_each p zero t k h = absurd (not-suc-le-zero h)
at_each p (suc n) t k h =
    ⊎_elim (λ e. rw e (both (p n) (below p n) t).0) (at_each p n (both (p n) (below p n) t).1 k)
    (eq-or-lt_of_le (le_of_suc-le-suc h))
