-- S and B of days that are read where they stand in lent readings: the sums that the code makes. A day whose readings run past the end has none,
-- and adds nothing.
use Prim.Native.Nat.{ℕ, ◌+◌}
use mathlib.Core.Path.{◌≡◌, refl, ap, ap₂, ◌∙◌}
use mathlib.Core.Bool.{true, false, ◌||◌, or-true}
use mathlib.Core.List.{List, [], ◌∷◌, ◌++◌, map}
use mathlib.Core.Logic.{⊎_elim}
use native.Mathlib.Omega.{arith}
use borrow.Author.Tests.{leb-true, eq-eqb}
use lib.Dec.{leb, eqb}
use lib.ListN.{length, get_or, length-take, length-drop}
use Rattle.base_lists.specs.Lists.{all, sum_of}
use Rattle.base_lists.proofs.Bools.{bool_cases}
use Rattle.method.specs.Table.{Day}
use Rattle.method.specs.Ruler.{ruler_start, against}
use Rattle.method.specs.Adjustment.{A, B, S}
use Rattle.engine_rooms.specs.Rooms.{readings_at}
use Rattle.engine_adjustment.proofs.Laws.{stands, B_by_days}
use Rattle.engine_sums.specs.QuarterSteps.{quarter_sum}
use Rattle.engine_numerators.specs.NumeratorSteps.{window_sums}

-- the readings that start at a place are all there, or none is
pub all-or_none : (size : ℕ) (readings : List ℕ) (at : ℕ)
    → (eqb (length (readings_at size readings at)) size || eqb (length (readings_at size readings at)) 0) ≡ true
unfolding readings_at
all-or_none size readings at = ⊎_elim within past (bool_cases (leb (at + size) (length readings)))
  where
    within : leb (at + size) (length readings) ≡ true
        → (eqb (length (readings_at size readings at)) size || eqb (length (readings_at size readings at)) 0) ≡ true
    within e =
        let long : length (readings_at size readings at) ≡ size =
        rw (e, length-take, length-drop) (omega (arith, leb-true (at + size) (length readings) e)) in
        rw (eq-eqb (length (readings_at size readings at)) size long)

    past : leb (at + size) (length readings) ≡ false
        → (eqb (length (readings_at size readings at)) size || eqb (length (readings_at size readings at)) 0) ≡ true
    past e = rw e (or-true (eqb 0 size))

module _ (event size : ℕ) (readings : List ℕ) (day : ℕ → Day) (start : ℕ → ℕ) (same : (d : ℕ) → (day d).readings ≡ readings_at size readings (start d)) where
  abbrev with : List ℕ → List (ℕ × Day)
  with ds = map {B = ℕ × Day} (λ d. (d, day d)) ds

  pub S_placed : (ds : List ℕ) (t : ℕ) → S event (with ds) t ≡ quarter_sum size readings (map start ds) (against event t)
  unfolding S quarter_sum sum_of
  S_placed [] t = refl
  S_placed (d ∷ ds) t = ap₂ (λ (x : ℕ) (y : ℕ). x + y) (ap (λ l. get_or l (against event t) 0) (same d)) (S_placed ds t)

  all_stand : size ≡ ruler_start event → (ds : List ℕ) → all (stands event) (with ds) ≡ true
  unfolding all
  all_stand e [] = refl
  all_stand e (d ∷ ds) = rw (same d, ← e, all-or_none size readings (start d)) (all_stand e ds)

  over_places : (ds : List ℕ) (end : ℕ)
      → sum_of (map (λ (p : ℕ × Day). A (p.1.readings ++ p.1.readings) end) (with ds)) ≡ window_sums size readings (map start ds) end
  unfolding window_sums sum_of
  over_places [] end = refl
  over_places (d ∷ ds) end = ap₂ (λ (x : ℕ) (y : ℕ). x + y) (ap (λ l. A (l ++ l) end) (same d)) (over_places ds end)

  -- where a window day has as many quarters as D-1
  pub B_placed : size ≡ ruler_start event → (ds : List ℕ) (end : ℕ) → B event (with ds) end ≡ window_sums size readings (map start ds) end
  B_placed e ds end = B_by_days event (with ds) end (all_stand e ds) ∙ over_places ds end
