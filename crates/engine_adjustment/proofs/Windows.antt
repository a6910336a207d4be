-- Adjustment windows: what a run of present readings says of one that ends there, and that none reaches over a missing reading.
use Rattle.std.proofs.Common.{◌≡◌, ℕ, zero, suc, ◌+◌, ◌-◌, ◌%◌, ◌^◌, ◌<◌, ◌≤◌, true, false, not, eqb, leb, List, ◌++◌, length, get_or, take, drop, sym, refl, ap, ◌∙◌, ⊎_elim, add-zero, add-suc, add-one, Option, Some, None, MatchOption, unwrap_or, arith, length-take, ne_eqb, eqb-true, le-leb}
use mathlib.Core.Bool.{and-false, false≢true}
use borrow.Author.Tests.{lt-leb, eqb-false}
use Rattle.base_lists.specs.Lists.{all, sum_of}
use Rattle.base_lists.proofs.All.{all_before, all_lacks}
use Rattle.base_lists.proofs.Bools.{bool_cases}
use Rattle.base_lists.proofs.Parts.{part_append}
use Rattle.base_lists.proofs.Sums.{sum_append}
use Rattle.method.specs.Table.{present, missing}
use Rattle.method.specs.declared.Request.{Request}
use Rattle.method.specs.Adjustment.{window_ends, latest_end, adjustment_end, A}
use Rattle.base_sums.specs.Steps.{Summed}
use Rattle.base_sums.proofs.Exact.{exact_both}
use Rattle.engine_adjustment.specs.Steps.{RunBefore, found}

-- what is found of an end is none where it is 0, and else the end
pub found_none : (k : ℕ) → None ≡ found k → k ≡ 0
unfolding found
found_none zero e = refl
found_none (suc k) e = cc

pub found_some : (k end : ℕ) → Some end ≡ found k → end ≡ k
unfolding found
found_some zero end e = cc
found_some (suc k) end e = cc

pub found_past : (k end : ℕ) → Some end ≡ found k → end ≡ 0 → ⊥
unfolding found
found_past zero end e z = cc
found_past (suc k) end e z = cc

module _ (l : List ℕ) where
  -- a run goes on where the reading before it is present
  pub run_more : (end run x : ℕ) → run < end → x ≡ get_or l (end - run - 1) 0 → (x ≡ missing → ⊥)
      → all present (take run (drop (end - run) l)) ≡ true → all present (take (run + 1) (drop (end - (run + 1)) l)) ≡ true
  run_more end run x h e f t =
      let k : end - run ≡ suc (end - suc run) = omega arith in
      let k' : end - run - 1 ≡ end - suc run = omega arith in
      let here : present (get_or l (end - suc run) 0) ≡ true = rw (← k', ← e) (ap not (ne_eqb x missing f)) in
      rw (add-one run) (all_before present 0 l (end - suc run) run here (rw k at t))

  -- a run of which every reading is present
  run_clear : (end run : ℕ) → run ≤ end → ((k : ℕ) → k < run → get_or l (end - k - 1) 0 ≡ missing → ⊥) → all present (take run (drop (end - run) l)) ≡ true
  unfolding all
  run_clear end zero h f = refl
  run_clear end (suc run) h f =
      rw (add-one run) at
      (run_more end run (get_or l (end - run - 1) 0) (omega arith) refl (f run (omega arith)) (run_clear end run (omega arith) (λ k i. f k (omega arith))))

  -- the run ends at the first missing reading of the twelve
  pub run_found : (end : ℕ) (r : Option ℕ) → 12 ≤ end → MatchOption r ((k : ℕ) → 0 ≤ k → k < 12 → get_or l (end - k - 1) 0 ≡ missing → ⊥)
      (λ i. (0 ≤ i) × (i < 12) × (get_or l (end - i - 1) 0 ≡ missing) × ((k : ℕ) → 0 ≤ k → k < i → get_or l (end - k - 1) 0 ≡ missing → ⊥)) → RunBefore l end (unwrap_or r 12)
  run_found end None h m =
      record { most = omega arith; clear = run_clear end 12 h (λ k i. m k (omega arith) i); stops = λ o. absurd (omega arith) }
  run_found end (Some i) h m =
      let o = m.1 in
      record { most = omega arith; clear = run_clear end i (omega arith) (λ k o'. m.3 k (omega arith) o'); stops = λ _. m.2 }

  -- no window reaches over a missing reading
  pub lacks : (end j : ℕ) → j < end → end ≤ j + 12 → get_or l j 0 ≡ missing → window_ends l end ≡ false
  unfolding window_ends
  lacks end j h h' e =
      let low : end - 12 ≤ j = omega arith in
      let high : j < end - 12 + 12 = omega arith in
      rw (all_lacks present 0 refl l (end - 12) 12 j low high (ap present e)) (and-false (leb 12 end))

  pub too_early : (end : ℕ) → end < 12 → window_ends l end ≡ false
  unfolding window_ends
  too_early end h = rw (lt-leb 12 end h)

  -- a run of twelve is a window, and a shorter one is none
  pub whole_run : (end run : ℕ) → 12 ≤ end → RunBefore l end run → run ≡ 12 → window_ends l end ≡ true
  unfolding window_ends
  whole_run end run h r e = rw (le-leb 12 end h) (rw e at r.clear)

  module _ (end run : ℕ) (h : 12 ≤ end) (r : RunBefore l end run) (f : run ≡ 12 → ⊥) where
    gap : get_or l (end - run - 1) 0 ≡ missing
    gap = let b = r.most in r.stops (omega arith)

    pub broken_run : window_ends l end ≡ false
    broken_run = let b = r.most in lacks end (end - run - 1) (omega arith) (omega arith) gap

  pub run_says : (end run : ℕ) → 12 ≤ end → RunBefore l end run → eqb run 12 ≡ window_ends l end
  run_says end run h r =
      ⊎_elim (λ e. e ∙ sym (whole_run end run h r (eqb-true run 12 e))) (λ f. f ∙ sym (broken_run end run h r (eqb-false run 12 f)))
      (bool_cases (eqb run 12))

  pub latest_here : (end : ℕ) → window_ends l end ≡ true → latest_end l end ≡ end
  unfolding latest_end
  latest_here zero t = refl
  latest_here (suc k) t = rw t

  pub latest_earlier : (k : ℕ) → window_ends l (suc k) ≡ false → latest_end l (suc k) ≡ latest_end l k
  unfolding latest_end
  latest_earlier k f = rw f

  -- below a missing reading the next window ends before it
  before_missing : (j k : ℕ) → k ≤ 12 → get_or l j 0 ≡ missing → latest_end l (j + k) ≡ latest_end l j
  before_missing j zero h e = rw (add-zero j)
  before_missing j (suc k) h e =
      rw (add-suc j k) (latest_earlier (j + k) (lacks (suc (j + k)) j (omega arith) (omega arith) e) ∙ before_missing j k (omega arith) e)

  pub latest_skips : (end run : ℕ) → 12 ≤ end → RunBefore l end run → (run ≡ 12 → ⊥) → latest_end l (end - (run + 1)) ≡ latest_end l end
  latest_skips end run h r f =
      let b = r.most in
      let k : end - run - 1 ≡ end - (run + 1) = omega arith in
      let k' : end - (run + 1) + (run + 1) ≡ end = omega arith in
      sym (before_missing (end - (run + 1)) (run + 1) (omega arith) (rw k at (gap end run h r f))) ∙ ap (latest_end l) k'

  pub latest_none : (end : ℕ) → end < 12 → latest_end l end ≡ 0
  unfolding latest_end
  latest_none zero h = refl
  latest_none (suc k) h = latest_earlier k (too_early (suc k) h) ∙ latest_none k (omega arith)

  -- what is found of an end: a window that ends there, and none where it is 0
  found_end : (end : ℕ) → window_ends l end ≡ true → found end ≡ Some end
  unfolding found
  found_end zero t = absurd (false≢true (sym (too_early 0 (omega arith)) ∙ t))
  found_end (suc k) t = refl

  pub latest_found : (end last : ℕ) → latest_end l end ≡ latest_end l last → window_ends l end ≡ true → Some end ≡ found (latest_end l last)
  latest_found end last e t = rw (← e, latest_here end t) (sym (found_end end t))

  pub latest_lacks : (end last : ℕ) → latest_end l end ≡ latest_end l last → end < 12 → None ≡ found (latest_end l last)
  unfolding found
  latest_lacks end last e h = rw (← e, latest_none end h)

  pub found_at_n : (r : Request) → window_ends l r.n ≡ true → Some r.n ≡ found (adjustment_end r l)
  unfolding adjustment_end
  found_at_n r t = rw t (sym (found_end r.n t))

  pub found_up_to_s : (r : Request) → window_ends l r.n ≡ false → found (latest_end l r.s) ≡ found (adjustment_end r l)
  unfolding adjustment_end
  found_up_to_s r f = rw f

-- the sum over a window is that of its parts on the two days, exactly. `s` is where it starts; `a` and `b` are where its part of the second
-- day starts and ends
pub window_parts : (ys ts : List ℕ) (end s a b x y : ℕ) → s ≡ end - 12 → a ≡ s - length ys → b ≡ s + 12 - length ys
    → Summed (take (s + 12 - s) (drop s ys)) x → Summed (take (b - a) (drop a ts)) y → (x + y) % 2 ^ 64 ≡ A (ys ++ ts) end
unfolding A
window_parts ys ts end s a b x y e e₁ e₂ f g =
    let k : 12 ≡ s + 12 - s = omega arith in
    let whole : sum_of (take 12 (drop s (ys ++ ts))) ≡ sum_of (take (s + 12 - s) (drop s ys)) + sum_of (take (b - a) (drop a ts)) =
    rw (e₁, e₂) (ap (λ (n : ℕ). sum_of (take n (drop s (ys ++ ts)))) k ∙ ap sum_of (part_append s (s + 12) ys ts) ∙
    sum_append (take (s + 12 - s) (drop s ys)) (take (s + 12 - length ys - (s - length ys)) (drop (s - length ys) ts))) in
    let few₁ : s + 12 - s ≤ 12 = omega arith in
    let few₂ : b - a ≤ 12 = omega arith in
    rw (← e) (exact_both f g (few (s + 12 - s) (drop s ys) few₁) (few (b - a) (drop a ts) few₂) ∙ sym whole)
  where
    few : (n : ℕ) (l : List ℕ) → n ≤ 12 → length (take n l) ≤ 2 ^ 30
    few n l h = rw length-take (omega arith)
