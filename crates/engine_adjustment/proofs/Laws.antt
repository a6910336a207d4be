-- What callers need of sums and of the adjustment window: how large its sums are where the readings are good and present, B is a sum over the
-- chosen days of what each has in the window, and where the window lies.
use Rattle.std.proofs.Common.{◌≡◌, ℕ, zero, suc, ◌+◌, ◌-◌, ◌<◌, ◌≤◌, max, Bool, true, false, ◌||◌, eqb, leb, List, [], ◌∷◌, ◌++◌, map, length, get_or, take, drop, sym, refl, ap, ◌∙◌, ap₂, ⊎_elim, arith, length-append, length-take, eqb-true, leb-true}
use lib.ListN.{get_or-append, get_or-eq_default}
use lib.Seq.{drop-nil, take-nil}
use Rattle.base_lists.specs.Lists.{all, sum_of, places}
use Rattle.base_lists.proofs.All.{all-append, all-take, all-drop, all_both, map-all}
use Rattle.base_lists.proofs.Bools.{bool_cases, both, either, lt-or-le}
use Rattle.base_lists.proofs.Parts.{get_or-append_past}
use Rattle.base_lists.proofs.Sums.{sum_most, part_most, sum_swap}
use Rattle.method.specs.declared.Request.{Request}
use Rattle.method.specs.Table.{Day, present, good_reading}
use Rattle.method.specs.Ruler.{ruler_start, quarter_of, against}
use Rattle.method.specs.Adjustment.{twelve, window_ends, latest_end, adjustment_end, S, A, B}
use Rattle.method_laws.proofs.InRange.{in_range}
use Rattle.method.proofs.Ruler.{quarter_before, quarter_from}
use Rattle.engine_adjustment.proofs.Windows.{latest_here, latest_earlier, latest_none}

-- ---- sums

pub all_in_range : (xs : List ℕ) → all good_reading xs ≡ true → all present xs ≡ true → all (λ x. leb x 10000000) xs ≡ true
all_in_range = all_both good_reading present (λ x. leb x 10000000) in_range

-- ---- the adjustment window's sums

-- A of good readings over a window that ends there, and of a complete day's readings over the ruler that has the day twice
pub window_most : (l : List ℕ) (end : ℕ) → all good_reading l ≡ true → window_ends l end ≡ true → A l end ≤ 120000000
unfolding A window_ends
window_most l end g t =
    let few : length (twelve l end) ≤ 12 = omega (arith, length-take 12 (drop (end - 12) l)) in
    let good = all-take good_reading 12 (drop (end - 12) l) (all-drop good_reading (end - 12) l g) in
    sum_most 10000000 (twelve l end) 12 few (all_in_range (twelve l end) good (both (leb 12 end) (all present (twelve l end)) t).1)

pub day_most : (l : List ℕ) (end : ℕ) → all good_reading l ≡ true → all present l ≡ true → A (l ++ l) end ≤ 120000000
unfolding A
day_most l end g t =
    let u = all_in_range l g t in
    part_most 10000000 (l ++ l) (end - 12) 12 (rw (all-append (λ x. leb x 10000000) l l, u))

-- the readings along a ruler, place by place: past its end there is nothing to add
part_step : (l : List ℕ) (a k : ℕ) → sum_of (take (suc k) (drop a l)) ≡ get_or l a 0 + sum_of (take k (drop (suc a) l))
unfolding sum_of
part_step [] a k = rw (drop-nil {A = ℕ} a, take-nil {A = ℕ} k)
part_step (x ∷ l) zero k = refl
part_step (x ∷ l) (suc a) k = part_step l a k

along : (f : ℕ → ℕ) (l : List ℕ) → ((t : ℕ) → f t ≡ get_or l t 0) → (k a : ℕ) → sum_of (map f (places k a)) ≡ sum_of (take k (drop a l))
unfolding places sum_of
along f l same zero a = refl
along f l same (suc k) a = ap₂ (λ (x : ℕ) (y : ℕ). x + y) (same a) (along f l same k (suc a)) ∙ sym (part_step l a k)

-- a window day stands on the ruler: it has as many readings as D-1, or none
abbrev pub stands : ℕ → ℕ × Day → Bool
stands event p = eqb (length p.1.readings) (ruler_start event) || eqb (length p.1.readings) 0

-- its reading against a ruler quarter is the one there on the ruler that has the day twice
twice : (event : ℕ) (l : List ℕ) → (eqb (length l) (ruler_start event) || eqb (length l) 0) ≡ true
    → (t : ℕ) → get_or l (against event t) 0 ≡ get_or (l ++ l) t 0
unfolding against
twice event l w t =
    ⊎_elim (λ e. ⊎_elim (before (eqb-true (length l) start e)) (since (eqb-true (length l) start e)) (lt-or-le t start))
    (λ e. no_reading (eqb-true (length l) 0 e)) (either (eqb (length l) start) (eqb (length l) 0) w)
  where
    start : ℕ
    start = ruler_start event

    before : length l ≡ start → t < start → get_or l (quarter_of event t) 0 ≡ get_or (l ++ l) t 0
    before e o = rw (quarter_before event t o) (sym (get_or-append l l 0 t (rw (← e) at o)))

    since : length l ≡ start → start ≤ t → get_or l (quarter_of event t) 0 ≡ get_or (l ++ l) t 0
    since e o = rw (quarter_from event t o, ← e) (sym (get_or-append_past l l t 0 (rw (← e) at o)))

    no_reading : length l ≡ 0 → get_or l (quarter_of event t) 0 ≡ get_or (l ++ l) t 0
    no_reading e =
        get_or-eq_default l 0 (omega (arith, e)) ∙ sym (get_or-eq_default (l ++ l) 0 (omega (arith, e, length-append l l)))

-- the sums swapped: S over any quarters of the ruler is a sum over the days
pub S_by_days : (event : ℕ) (chosen : List (ℕ × Day)) (k a : ℕ) → all (stands event) chosen ≡ true
    → sum_of (map (S event chosen) (places k a)) ≡ sum_of (map (λ (p : ℕ × Day). sum_of (take k (drop a (p.1.readings ++ p.1.readings)))) chosen)
unfolding S
S_by_days event chosen k a t =
    sum_swap (λ (q : ℕ) (p : ℕ × Day). get_or p.1.readings (against event q) 0) (places k a) chosen
    ∙ ap sum_of (map-all (stands event) _ _ day chosen t)
  where
    day : (p : ℕ × Day) → stands event p ≡ true
        → sum_of (map (λ (q : ℕ). get_or p.1.readings (against event q) 0) (places k a)) ≡ sum_of (take k (drop a (p.1.readings ++ p.1.readings)))
    day p w = along (λ (q : ℕ). get_or p.1.readings (against event q) 0) (p.1.readings ++ p.1.readings) (twice event p.1.readings w) k a

-- B is what each window day has in the window, as if it stood twice on the ruler
pub B_by_days : (event : ℕ) (chosen : List (ℕ × Day)) (end : ℕ) → all (stands event) chosen ≡ true
    → B event chosen end ≡ sum_of (map (λ (p : ℕ × Day). A (p.1.readings ++ p.1.readings) end) chosen)
unfolding A B
B_by_days event chosen end t = S_by_days event chosen 12 (end - 12) t

-- ---- where the adjustment window lies

module _ (l : List ℕ) where
  pub window_least : (end : ℕ) → window_ends l end ≡ true → 12 ≤ end
  unfolding window_ends
  window_least end t = leb-true 12 end (both (leb 12 end) (all present (twelve l end)) t).0

  latest_most : (k : ℕ) → latest_end l k ≤ k
  latest_most zero = omega (arith, latest_none l 0 (omega arith))
  latest_most (suc k) =
      ⊎_elim (λ t. omega (arith, latest_here l (suc k) t)) (λ f. omega (arith, latest_earlier l k f, latest_most k))
      (bool_cases (window_ends l (suc k)))

  latest_holds : (k : ℕ) → (latest_end l k ≡ 0 → ⊥) → window_ends l (latest_end l k) ≡ true
  latest_holds zero n = absurd (n (latest_none l 0 (omega arith)))
  latest_holds (suc k) n =
      ⊎_elim (λ t. rw (latest_here l (suc k) t) t) (λ f. rw (latest_earlier l k f) (latest_holds k (λ e. n (latest_earlier l k f ∙ e))))
      (bool_cases (window_ends l (suc k)))

  module _ (r : Request) where
    at_n : window_ends l r.n ≡ true → adjustment_end r l ≡ r.n
    unfolding adjustment_end
    at_n t = rw t

    up_to_s : window_ends l r.n ≡ false → adjustment_end r l ≡ latest_end l r.s
    unfolding adjustment_end
    up_to_s f = rw f

    pub adjustment_most : adjustment_end r l ≤ max r.n r.s
    adjustment_most =
        ⊎_elim (λ t. omega (arith, at_n t)) (λ f. omega (arith, up_to_s f, latest_most r.s)) (bool_cases (window_ends l r.n))

    -- where the end is not 0, a window ends there, and so it is 12 or more
    pub adjustment_holds : (adjustment_end r l ≡ 0 → ⊥) → window_ends l (adjustment_end r l) ≡ true
    adjustment_holds n =
        ⊎_elim (λ t. rw (at_n t) t) (λ f. rw (up_to_s f) (latest_holds r.s (λ e. n (up_to_s f ∙ e)))) (bool_cases (window_ends l r.n))

    pub adjustment_least : (adjustment_end r l ≡ 0 → ⊥) → 12 ≤ adjustment_end r l
    adjustment_least n = window_least (adjustment_end r l) (adjustment_holds n)
