-- 01, "Adjustment and baseline"; 02, order 3: the baseline without adjustment.
use Rattle.std.specs.Prelude.{ℕ, zero, suc, ◌+◌, ◌-◌, ◌*◌, ◌/◌, Bool, cond, ◌&&◌, List, ◌++◌, map, length, get_or, take, drop, ℤ, pos, negsuc, ◌+ℤ◌, ◌-ℤ◌, leb, eqb}
use Rattle.std.proofs.Math.Option.{Option, none, some}
use Rattle.base_lists.specs.Lists.{all, sum_of, places}
use Rattle.method.specs.declared.Request.{Request}
use Rattle.method.specs.Table.{Day, present}
use Rattle.method.specs.Ruler.{against}

-- "a two-day ruler where day D-1 is 0 to 95 and day D is 96 to 191": the readings along it
abbrev pub ruler : Day → Day → List ℕ
ruler yesterday today = yesterday.readings ++ today.readings

-- "the twelve ruler quarters ending at" `end`
abbrev pub twelve : List ℕ → ℕ → List ℕ
twelve readings end = take 12 (drop (end - 12) readings)

-- twelve quarters end there, and all their readings are present
unfoldable pub window_ends : List ℕ → ℕ → Bool
window_ends readings end = leb 12 end && all present (twelve readings end)

-- the latest place from `end` down where such twelve quarters end; 0 where there is none
unfoldable pub latest_end : List ℕ → ℕ → ℕ
latest_end readings zero = 0
latest_end readings (suc k) = let earlier = latest_end readings k in cond (window_ends readings (suc k)) (suc k) earlier

-- "Adjustment window: the twelve ruler quarters ending at n, if n is at least 12 and all twelve readings are present. Otherwise .. the
-- latest twelve consecutive ruler quarters with all readings present that end at or before s." Where it ends; 0 where there is none
unfoldable pub adjustment_end : Request → List ℕ → ℕ
adjustment_end r readings = cond (window_ends readings r.n) r.n (latest_end readings r.s)

-- "For a ruler quarter t let S(t) be the sum, over the N chosen days, of the reading at quarter t mod 96."
unfoldable pub S : ℕ → List (ℕ × Day) → ℕ → ℕ
S event chosen t = sum_of (map (λ (p : ℕ × Day). get_or p.1.readings (against event t) 0) chosen)

-- "A is the sum of the twelve readings of the adjustment window, B the sum of S over it."
unfoldable pub A : List ℕ → ℕ → ℕ
A readings end = sum_of (twelve readings end)

unfoldable pub B : ℕ → List (ℕ × Day) → ℕ → ℕ
B event chosen end = sum_of (map (S event chosen) (places 12 (end - 12)))

-- "The adjustment is (N·A - B)/(12N), possibly negative.": its numerator
abbrev pub adjustment : ℕ → ℕ → ℕ → ℤ
adjustment n a b = pos (n * a) -ℤ pos b

-- its numerator for the chosen days, D-1 and D; none where there is no adjustment window
unfoldable pub adjusting : Request → List (ℕ × Day) → Day → Day → Option ℤ
adjusting r chosen yesterday today =
    let end = adjustment_end r (ruler yesterday today) in
    cond (eqb end 0) none (some (adjustment (length chosen) (A (ruler yesterday today) end) (B r.event chosen end)))

-- 02, order 3: "`EV`'s zero byte becomes the request's method: 0 High X of Y, 1 this one."
abbrev pub is_average : Request → Bool
is_average r = eqb r.method 1

-- "average them per quarter, without adjustment"; "the listing's adj is 0"
unfoldable pub adjusting_by : Request → List (ℕ × Day) → Day → Day → Option ℤ
adjusting_by r chosen yesterday today = cond (is_average r) (some (pos 0)) (adjusting r chosen yesterday today)

-- "Numerators are over the number averaged", and 01's are over 12 times the number chosen
abbrev pub parts_of : Request → ℕ
parts_of r = cond (is_average r) 1 12

-- "The baseline at event quarter t is max(0, 12·S(t) + N·A - B)/(12N).": its numerator before the floor, with these parts for 12; and floored at zero
abbrev pub unfloored : ℕ → ℕ → ℤ → ℤ
unfloored parts s adj = pos (parts * s) +ℤ adj

abbrev pub floored : ℤ → ℕ
floored (pos k) = k
floored (negsuc k) = 0

-- what is worked out of the chosen days: the denominator, the adjustment's numerator, and the numerators of the event's quarters before the floor
pub record Baseline : Type 0 where
  pub denominator : ℕ
  pub adjusted : ℤ
  pub numerators : List ℤ

unfoldable pub baseline_at : Request → List (ℕ × Day) → ℤ → Baseline
baseline_at r chosen adj =
    record {
      denominator = parts_of r * length chosen;
      adjusted = adj;
      numerators = map (λ t. unfloored (parts_of r) (S r.event chosen t) adj) (places (r.e - r.s) r.s);
    }

-- none where there is no adjustment
abbrev pub baseline_by : Request → List (ℕ × Day) → Option ℤ → Option Baseline
baseline_by r chosen none = none
baseline_by r chosen (some adj) = some (baseline_at r chosen adj)

-- of the chosen days in rank order, of D-1 and of D, by the request's method
unfoldable pub baseline : Request → List (ℕ × Day) → Day → Day → Option Baseline
baseline r chosen yesterday today = baseline_by r chosen (adjusting_by r chosen yesterday today)

-- "Rounded kW is the nearest whole number, halves up"
abbrev pub rounded : ℕ → ℕ → ℕ
rounded numerator denominator = (2 * numerator + denominator) / (2 * denominator)
