-- Numbers put into places one after the other, with noughts after the last.
use Prim.Native.Nat.{ℕ, zero, suc, ◌≤◌}
use mathlib.Core.Path.{◌≡◌, refl, sym, ap, ◌∙◌}
use mathlib.Core.List.{List, [], ◌∷◌, ◌++◌}
use native.Mathlib.Omega.{arith}
use lib.ListN.{length, take, replicate, set}
use lib.Seq.{set_out}
use Rattle.engine_ranking.specs.Steps.{padded}
use Rattle.engine_ranking.proofs.Rank.{length-padded}

noughts : (n m : ℕ) → n ≤ m → take {A = ℕ} n (replicate m 0) ≡ take n (0 ∷ replicate m 0)
noughts zero m h = refl
noughts (suc n) zero h = absurd (omega arith)
noughts (suc n) (suc m) h = ap (λ (l : List ℕ). 0 ∷ l) (noughts n m (omega arith))

set_after : (n m : ℕ) (l : List ℕ) (x : ℕ) → n ≤ m → set (take n (l ++ replicate m 0)) (length l) x ≡ take n ((l ++ (x ∷ [])) ++ replicate m 0)
set_after zero m [] x h = refl
set_after zero m (a ∷ l) x h = refl
set_after (suc n) zero l x h = absurd (omega arith)
set_after (suc n) (suc m) [] x h = ap (λ (k : List ℕ). x ∷ k) (noughts n m (omega arith))
set_after (suc n) (suc m) (a ∷ l) x h = ap (λ (k : List ℕ). a ∷ k) (set_after n (suc m) l x (omega arith))

-- the next place is set; past the last nothing is
pub set-padded : (n : ℕ) (l : List ℕ) (i x : ℕ) → i ≡ length l → set (padded n l) i x ≡ padded n (l ++ (x ∷ []))
set-padded n l i x e = rw e (set_after n n l x (omega arith))

-- one more changes nothing where no place is left
pub padded_full : (n : ℕ) (l : List ℕ) (x : ℕ) → n ≤ length l → padded n l ≡ padded n (l ++ (x ∷ []))
padded_full n l x h = sym (set_out (padded n l) (length l) x (omega (arith, length-padded n l))) ∙ set-padded n l (length l) x refl
