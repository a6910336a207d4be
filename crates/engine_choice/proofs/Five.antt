-- Days put into places one after the other, with noughts after the last.
use Prim.Native.Nat.{ℕ, zero, suc, ◌+◌, ◌<◌, ◌≤◌, min}
use mathlib.Core.Path.{◌≡◌, refl, sym, ap, ◌∙◌}
use mathlib.Core.List.{List, [], ◌∷◌, ◌++◌, map, map-append}
use native.Mathlib.Numerals.{add-one}
use native.Mathlib.Omega.{arith}
use lib.ListN.{length, take, set, get_or, replicate, length-map, length-replicate}
use lib.Seq.{take_all, take-suc, length-take-le}
use Rattle.base_lists.proofs.Maps.{map-take}
use Rattle.base_lists.proofs.Parts.{take_within}
use Rattle.engine_ranking.specs.Steps.{padded}
use Rattle.engine_look_back.proofs.Padded.{set-padded}

pub one_more : (n : ℕ) (f : ℕ → ℕ) (row : List ℕ) (i x : ℕ) → i < length row → x ≡ f (get_or row i 0)
    → set (padded n (map f (take i row))) i x ≡ padded n (map f (take (i + 1) row))
one_more n f row i x o e =
    let l : i ≡ length (map f (take i row)) = sym (length-map (take i row) f ∙ length-take-le i row (omega arith)) in
    set-padded n (map f (take i row)) i x l
    ∙ rw (add-one, take-suc row i 0 o, map-append f (take i row) (get_or row i 0 ∷ []), e)

taken : (n m : ℕ) (l : List ℕ) → take n (take n l ++ replicate m 0) ≡ take n (l ++ replicate m 0)
taken zero m l = refl
taken (suc n) m [] = refl
taken (suc n) m (x ∷ l) = ap (λ (k : List ℕ). x ∷ k) (taken n m l)

pub no_words : (n : ℕ) → replicate n 0 ≡ padded n []
no_words n = sym (take_all n (replicate n 0) (rw length-replicate (omega arith)))

-- words past the places have none
pub all_places : (n : ℕ) (f : ℕ → ℕ) (row : List ℕ) {k i : ℕ} → k ≡ min n (length row) → length (take k row) ≤ i
    → padded n (map f (take i (take k row))) ≡ padded n (map f row)
all_places n f row {k} {i} e o = rw (take_all i (take k row) o, e, take_within n row, map-take f n row) (taken n n (map f row))
