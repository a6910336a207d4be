-- The method that is asked for, and whether it is Average X of Y.
use Prim.Native.Nat.{ℕ}
use mathlib.Core.Path.{◌≡◌, refl}
use mathlib.Core.Bool.{Bool, true, false, cond}
use native.Mathlib.Omega.{arith}
use Rattle.method.specs.declared.Request.{Request}
use Rattle.method.specs.declared.Method.{Method}
use Rattle.method.specs.declared.Method.TheVariants.{HighXOfY, AverageXOfY}
use Rattle.method.specs.Adjustment.{is_average}
use Rattle.method.specs.Told.{asked_of}

pub asked_average : (r : Request) → asked_of r ≡ AverageXOfY → is_average r ≡ true
asked_average r e = go (is_average r) e
  where
    go : (b : Bool) → ◌≡◌ {A = Method} (cond b AverageXOfY HighXOfY) AverageXOfY → b ≡ true
    go true k = refl
    go false k = absurd (let z : ◌≡◌ {A = ℕ} 0 1 = cc in omega arith)

pub asked_high : (r : Request) → asked_of r ≡ HighXOfY → is_average r ≡ false
asked_high r e = go (is_average r) e
  where
    go : (b : Bool) → ◌≡◌ {A = Method} (cond b AverageXOfY HighXOfY) HighXOfY → b ≡ false
    go true k = absurd (let z : ◌≡◌ {A = ℕ} 0 1 = cc in omega arith)
    go false k = refl
