-- Sums over chosen days that are taken one after the other.
use Prim.Native.Nat.{ℕ, zero, suc, ◌+◌, ◌<◌}
use mathlib.Core.Path.{◌≡◌, refl, sym, ap, ap₂, ◌∙◌}
use mathlib.Core.List.{List, [], ◌∷◌, map}
use native.Mathlib.Numerals.{add-one}
use native.Mathlib.Omega.{arith}
use lib.ListN.{length, get_or, take}
use Rattle.base_lists.specs.Lists.{sum_of, places}
use Rattle.method.specs.Table.{Day, History}
use Rattle.method.specs.Ruler.{against}
use Rattle.method.specs.Adjustment.{S}
use Rattle.engine_sums.proofs.Adding.{sum_more}
use Rattle.engine_baseline.specs.Engine.{with_days}

-- S(t) of days with what a history holds of them, as a sum over their numbers
abbrev pub reads : ℕ → History Day → ℕ → ℕ → ℕ
reads event h t d = get_or (h.day d).readings (against event t) 0

pub S_over : (event : ℕ) (h : History Day) (t : ℕ) (days : List ℕ) → S event (with_days h days) t ≡ sum_of (map (reads event h t) days)
unfolding S with_days sum_of
S_over event h t [] = refl
S_over event h t (d ∷ days) = ap (λ (x : ℕ). reads event h t d + x) (S_over event h t days)

pub S_none : (event : ℕ) (h : History Day) (t : ℕ) → 0 ≡ S event (with_days h []) t
S_none event h t = unfold S with_days sum_of in refl

-- one day more
pub S_more : (event : ℕ) (h : History Day) (t : ℕ) (days : List ℕ) (k : ℕ) {sum reading : ℕ} → k < length days → sum ≡ S event (with_days h (take k days)) t
    → reading ≡ reads event h t (get_or days k 0) → sum + reading ≡ S event (with_days h (take (k + 1) days)) t
S_more event h t days k o e f =
    ap₂ (λ (x y : ℕ). x + y) (e ∙ S_over event h t (take k days)) f
    ∙ rw (add-one, S_over event h t (take (suc k) days)) (sym (sum_more (reads event h t) days k o))

-- S over so many quarters, and over one more
abbrev pub sums_from : ℕ → List (ℕ × Day) → ℕ → ℕ → ℕ
sums_from event chosen count start = sum_of (map (S event chosen) (places count start))

pub no_quarters : (event : ℕ) (chosen : List (ℕ × Day)) (start : ℕ) → 0 ≡ sums_from event chosen 0 start
no_quarters event chosen start = unfold sum_of places in refl

one_more : (f : ℕ → ℕ) (count start : ℕ) → sum_of (map f (places count start)) + f (start + count) ≡ sum_of (map f (places (suc count) start))
unfolding sum_of places
one_more f zero start = let e : start + 0 ≡ start = omega arith in rw e (omega arith)
one_more f (suc count) start =
    let e : start + suc count ≡ suc start + count = omega arith in
    rw e (omega (arith, one_more f count (suc start)))

pub more_quarters : (event : ℕ) (chosen : List (ℕ × Day)) (count start : ℕ) {sum next : ℕ} → sum ≡ sums_from event chosen count start
    → next ≡ S event chosen (start + count) → sum + next ≡ sums_from event chosen (count + 1) start
more_quarters event chosen count start e f = ap₂ (λ (x y : ℕ). x + y) e f ∙ rw add-one (one_more (S event chosen) count start)
