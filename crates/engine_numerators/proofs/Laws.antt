-- No two adjustments and outputs meet the contract of `write`.
use Prim.Native.Nat.{ℕ}
use mathlib.Core.Path.{◌≡◌}
use mathlib.Core.List.{List}
use lib.IntN.{ℤ}
use Rattle.base_lists.proofs.Unique.{unique}
use Rattle.engine_places.specs.declared.Places.{Places}
use Rattle.engine_numerators.specs.NumeratorSteps.{Written}

pub written_unique : {readings : List ℕ} {chosen : Places} {yesterday today : List ℕ} {n : ℕ} {r r' : ℤ} {after after' : List ℕ}
    → Written readings chosen yesterday today n r after → Written readings chosen yesterday today n r' after'
    → (r ≡ r') × (after ≡ after')
written_unique p q = (unique p.adjusted q.adjusted, unique p.output q.output)
