-- What the chosen days have in the adjustment window: how large it gets, and one day more; and the whole of it.
use Prim.Native.Nat.{ℕ, suc, ◌+◌, ◌-◌, ◌*◌, ◌%◌, ◌^◌, ◌≤◌, ◌<◌}
use mathlib.Core.Path.{◌≡◌, refl, ap, ◌∙◌}
use mathlib.Core.Bool.{Bool, true, false, cond}
use mathlib.Core.List.{List, [], ◌∷◌, ◌++◌, map}
use native.Mathlib.Nat.{mul-suc}
use native.Mathlib.Numerals.{add-one}
use native.Mathlib.Omega.{arith}
use borrow.Author.Tests.{le-leb}
use lib.Dec.{leb}
use lib.IntN.{ℤ}
use lib.ListN.{length, get_or, take, drop}
use mir.Syntax.{w32}
use mir.Val.{Fits}
use Rattle.base_lists.specs.Lists.{all, sum_of, places}
use Rattle.base_lists.proofs.All.{all-append, all-take, all-drop}
use Rattle.base_lists.proofs.Sums.{part_most}
use Rattle.method.specs.Adjustment.{A, adjustment, unfloored, floored}
use Rattle.engine_rooms.specs.Rooms.{readings_at}
use Rattle.base_lists.proofs.Places.{length_over, at_place, over_same}
use Rattle.engine_sums.specs.QuarterSteps.{quarter_sum}
use Rattle.engine_sums.proofs.Adding.{sum_more}
use Rattle.engine_places.specs.declared.Places.{Places}
use Rattle.engine_numerators.specs.NumeratorSteps.{window_sums, counted, chosen_at, adjustment_of, numerators_of, Written}

-- ---- how large they get

abbrev pub small : ℕ → Bool
small x = leb x 4294967295

-- numbers of 32 bits
pub all-small : (xs : List ℕ) → ((i : ℕ) → Fits w32 (get_or xs i 0)) → all small xs ≡ true
unfolding all
all-small [] h = refl
all-small (x ∷ xs) h =
    let o : x ≤ 4294967295 = omega (arith, h 0) in
    rw (le-leb x 4294967295 o) (all-small xs (λ i. h (suc i)))

-- twelve of them
pub twelve_most : (l : List ℕ) (end : ℕ) → all small l ≡ true → A l end ≤ 51539607540
unfolding A
twelve_most l end h = part_most 4294967295 l (end - 12) 12 h

pub ruler_most : (ys ts : List ℕ) (end : ℕ) → all small ys ≡ true → all small ts ≡ true → A (ys ++ ts) end ≤ 51539607540
ruler_most ys ts end h k = twelve_most (ys ++ ts) end (rw (all-append small ys ts, h, k))

-- a rule of all readings is one of a part
pub part_all : (p : ℕ → Bool) (size : ℕ) (readings : List ℕ) (at : ℕ) → all p readings ≡ true → all p (readings_at size readings at) ≡ true
unfolding readings_at
part_all p size readings at h = go (leb (at + size) (length readings))
  where
    go : (b : Bool) → all p (cond b (take size (drop at readings)) []) ≡ true
    go true = all-take p size (drop at readings) (all-drop p at readings h)
    go false = unfold all in refl

pub windows_most : (size : ℕ) (readings at : List ℕ) (end : ℕ) → all small readings ≡ true → window_sums size readings at end ≤ 51539607540 * length at
unfolding window_sums sum_of
windows_most size readings [] end h = omega arith
windows_most size readings (a ∷ at) end h =
    let p = part_all small size readings a h in
    omega (arith, ruler_most (readings_at size readings a) (readings_at size readings a) end p p, windows_most size readings at end h, mul-suc 51539607540 (length at))

pub windows_few : (size : ℕ) (readings at : List ℕ) (end : ℕ) → all small readings ≡ true → length at ≤ 5 → window_sums size readings at end ≤ 257698037700
windows_few size readings at end h few = omega (arith, windows_most size readings at end h)

-- ---- one day more
module _ (size : ℕ) (readings at : List ℕ) (end : ℕ) where
  pub windows_next : (total k x : ℕ) {day : List ℕ} → k < length at → total ≡ window_sums size readings (take k at) end
      → day ≡ readings_at size readings (get_or at k 0) → x ≡ A (day ++ day) end → total + x ≡ window_sums size readings (take (k + 1) at) end
  unfolding window_sums
  windows_next total k x h e o f =
      let m = sum_more (λ a. A (readings_at size readings a ++ readings_at size readings a) end) at k h in
      rw (add-one k) (omega (arith, m, e, rw o at f))

-- ---- the whole of it
pub written : (readings : List ℕ) (chosen : Places) (ys ts : List ℕ) (n : ℕ) {own : ℕ} {adj : ℤ} {sums out : List ℕ}
    → own ≡ A (ys ++ ts) chosen.end → adj ≡ adjustment (counted chosen) own (window_sums chosen.quarters readings (chosen_at chosen) chosen.end)
    → sums ≡ map (λ q. quarter_sum chosen.quarters readings (chosen_at chosen) (chosen.start + q) % 2 ^ 32) (places n 0)
    → out ≡ map (λ q. floored (unfloored 12 (get_or sums q 0) adj) % 2 ^ 32) (places (length sums) 0) → Written readings chosen ys ts n adj out
unfolding adjustment_of numerators_of
written readings chosen ys ts n {own} {adj} {sums} {out} o a s f =
    let e : adj ≡ adjustment_of readings chosen ys ts = rw o at a in
    record { adjusted = e; output = f ∙ rw size (over_same _ _ n 0 each) ∙ ap (λ z. numerators_of chosen.quarters readings (chosen_at chosen) chosen.start z n) e }
  where
    size : length sums ≡ n
    size = ap length s ∙ length_over (λ q. quarter_sum chosen.quarters readings (chosen_at chosen) (chosen.start + q) % 2 ^ 32) n 0

    each : (q : ℕ) → 0 ≤ q → q < 0 + n → floored (unfloored 12 (get_or sums q 0) adj) % 2 ^ 32 ≡ floored
        (unfloored 12 (quarter_sum chosen.quarters readings (chosen_at chosen) (chosen.start + q) % 2 ^ 32) adj) % 2 ^ 32
    each q a b =
        let z : 0 + q ≡ q = omega arith in
        let i : q < n = omega arith in
        let here = ap (λ l. get_or l q 0) s ∙ at_place (λ q. quarter_sum chosen.quarters readings (chosen_at chosen) (chosen.start + q) % 2 ^ 32) 0 n 0 q i in
        ap (λ (x : ℕ). floored (unfloored 12 x adj) % 2 ^ 32) (rw z at here)
