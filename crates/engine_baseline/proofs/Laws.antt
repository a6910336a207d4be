-- What the numerators are without signs or division.
use Prim.Native.Nat.{ℕ, ◌+◌, ◌-◌, ◌*◌}
use mathlib.Core.Path.{◌≡◌, refl}
use mathlib.Core.List.{List, [], ◌∷◌, map}
use Rattle.method.specs.declared.Request.{Request}
use Rattle.method.specs.Table.{Day}
use Rattle.method.specs.Adjustment.{S, adjustment, parts_of, unfloored, floored, baseline_at}
use Rattle.engine_numerators.proofs.Signed.{numerator_is}
use Rattle.base_lists.specs.Lists.{places}

-- a numerator over 12N is max(0, initial + adjustment), that is max(0, S/N + (N·A - B)/(12N)): cut-off subtraction floors it at zero. Over the number
-- averaged it is S: then there are no twelve parts, and n, a and b are 0
pub numerators_are : (r : Request) (n : ℕ) (chosen : List (ℕ × Day)) (a b : ℕ)
    → map floored (baseline_at r chosen (adjustment n a b)).numerators
    ≡ map (λ q. parts_of r * S r.event chosen q + n * a - b) (places (r.e - r.s) r.s)
unfolding baseline_at
numerators_are r n chosen a b = go (places (r.e - r.s) r.s)
  where
    go : (l : List ℕ) → map floored (map (λ q. unfloored (parts_of r) (S r.event chosen q) (adjustment n a b)) l)
        ≡ map (λ q. parts_of r * S r.event chosen q + n * a - b) l
    go [] = refl
    go (q ∷ qs) = rw (numerator_is (parts_of r) (S r.event chosen q) n a b, go qs)
