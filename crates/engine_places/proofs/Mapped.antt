-- What `map` makes of an array by a closure that changes nothing it holds.
use Rattle.std.proofs.Common.{◌≡◌, ℕ, zero, suc, ◌+◌, ◌<◌, List, map, length, get_or, refl, sym, ap, ◌∙◌, add-zero, arith, ext_get_or}
use Rattle.std.specs.Array.{MapsFrom, IsMapOf}
use denote.Param.Members.{Mut, Called}
use Rattle.base_lists.specs.Lists.{places}
use Rattle.base_lists.proofs.Places.{length_over, at_place}

module _ {F : Type 0} (g : Mut F (ℕ × Unit {0}) ℕ) (f : F) (value : ℕ → ℕ)
    (says : (x y : ℕ) (p : F) → Called g f (x, tt) y p → (y ≡ value x) × (p ≡ f)) where
  each : (p : F) (xs ys : List ℕ) (i n : ℕ) → p ≡ f → MapsFrom g p xs ys i n → (k : ℕ) → k < n → get_or ys (i + k) 0 ≡ value (get_or xs (i + k) 0)
  each p xs ys i zero e m k h = absurd (omega arith)
  each p xs ys i (suc n) e m zero h = rw add-zero (m.4.1 0 ∙ (says m.1 m.2 m.0 (rw e at m.5)).0 ∙ ap value (sym (m.3.1 0)))
  each p xs ys i (suc n) e m (suc k) h =
      let o : i + suc k ≡ i + 1 + k = omega arith in
      rw o (each m.0 xs ys (i + 1) n (says m.1 m.2 m.0 (rw e at m.5)).1 m.6 k (omega arith))

  pub mapped : {xs ys : List ℕ} {n : ℕ} → IsMapOf g f xs ys n → ys ≡ map (λ k. value (get_or xs k 0)) (places n 0)
  mapped {xs} {ys} {n} m = ext_get_or 0 ys (map (λ k. value (get_or xs k 0)) (places n 0)) (m.long ∙ sym (length_over (λ k. value (get_or xs k 0)) n 0)) at
    where
      at : (k : ℕ) → k < length ys → get_or ys k 0 ≡ get_or (map (λ k. value (get_or xs k 0)) (places n 0)) k 0
      at k h =
          let inside : k < n = omega (arith, m.long) in
          let z : 0 + k ≡ k = omega arith in
          rw z at (each f xs ys 0 n refl m.each k inside) ∙ sym (rw z at (at_place (λ k. value (get_or xs k 0)) 0 n 0 k inside))
