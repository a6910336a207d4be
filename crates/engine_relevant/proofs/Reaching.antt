-- How far back the oldest relevant day lies: looked for from the farthest day on, and beside what a history holds.
use Prim.Native.Nat.{ℕ, suc, ◌+◌, ◌-◌, ◌≤◌, ◌<◌, min}
use mathlib.Core.Path.{◌≡◌, refl, sym, ap, ◌∙◌}
use mathlib.Core.Bool.{Bool, true, false}
use mathlib.Core.Logic.{⊎_elim}
use mathlib.Core.List.{List, [], ◌∷◌, ◌++◌, append-nil}
use native.Mathlib.Omega.{arith}
use lib.Dec.{ltb}
use borrow.Author.Tests.{lt-ltb, le-ltb}
use Rattle.base_lists.specs.Lists.{keep, any, member, least_of}
use Rattle.base_lists.proofs.Bools.{lt-or-le, same_test}
use Rattle.base_lists.proofs.Keep.{keep-append, kept_member, member_head, member_tail, least_of_top, least_of_from}
use Rattle.calendar_groups.specs.declared.Group.{Group}
use Rattle.method.specs.declared.Request.{Request}
use Rattle.method.specs.Relevant.{days_before, relevant, relevant_days}
use Rattle.method.specs.Method.{whole_reach}
use Rattle.method.specs.Rules.{method_by}
use Rattle.method.specs.Requested.{method_of}
use Rattle.method_laws.proofs.Requested.{lawful}
use Rattle.method_laws.proofs.LookBack.{days_before_is, days_then, days_least, one_before}

pub least_of_snoc : (top : ℕ) (xs : List ℕ) (x : ℕ) → least_of top (xs ++ (x ∷ [])) ≡ min (least_of top xs) x
unfolding least_of
least_of_snoc top [] x = omega arith
least_of_snoc top (y ∷ xs) x = omega (arith, least_of_snoc top xs x)

-- some number lies below `f` where the least does
pub any_least : (top f : ℕ) (xs : List ℕ) → f ≤ top → any (λ d. ltb d f) xs ≡ ltb (least_of top xs) f
unfolding any least_of
any_least top f [] h = sym (le-ltb top f h)
any_least top f (x ∷ xs) h =
    ⊎_elim
    (λ (o : x < f). let l : min x (least_of top xs) < f = omega arith in rw (lt-ltb x f o, lt-ltb (min x (least_of top xs)) f l))
    (λ (o : f ≤ x).
    rw (le-ltb x f o, any_least top f xs h) (same_test (least_of top xs) f (min x (least_of top xs)) f (omega arith) (omega arith)))
    (lt-or-le x f)

any_same : (p q : ℕ → Bool) (xs : List ℕ) → ((x : ℕ) → member x xs ≡ true → p x ≡ q x) → any p xs ≡ any q xs
unfolding any
any_same p q [] same = refl
any_same p q (x ∷ xs) same = rw (same x (member_head x xs), any_same p q xs (λ y m. same y (member_tail y x xs m)))

module _ (group : ℕ → Group) (r : Request) where
  -- how far back the oldest relevant of the `k` days before the event lies
  unfoldable pub reach_within : ℕ → ℕ
  reach_within k = r.event - least_of r.event (keep (relevant group r) (days_before k r.event))

  pub reach_start : whole_reach (method_of group r) ≡ reach_within (min 45 r.event)
  unfolding whole_reach method_of method_by relevant_days reach_within
  reach_start = rw (days_least 45 r.event)

  on_last_day : (k : ℕ) → k < r.event → days_before (k + 1) r.event ≡ days_before k r.event ++ ((r.event - (k + 1)) ∷ [])
  on_last_day k h =
      let e : r.event - k ≡ suc (r.event - (k + 1)) = omega arith in
      days_then k 1 r.event ∙ rw (e, one_before)

  pub reach_pass : (k : ℕ) → 0 < k → k ≤ r.event → relevant group r (r.event - k) ≡ false → reach_within k ≡ reach_within (k - 1)
  unfolding reach_within keep
  reach_pass k z h e =
      let s : k - 1 + 1 ≡ k = omega arith in
      let o : k - 1 < r.event = omega arith in
      ap (λ (n : ℕ). r.event - least_of r.event (keep (relevant group r) (days_before n r.event))) (sym s)
      ∙ rw (on_last_day (k - 1) o, keep-append, s, e, append-nil)

  pub reach_here : (k : ℕ) → 0 < k → k ≤ r.event → relevant group r (r.event - k) ≡ true → reach_within k ≡ k
  unfolding reach_within keep
  reach_here k z h e =
      let s : k - 1 + 1 ≡ k = omega arith in
      let o : k - 1 < r.event = omega arith in
      ap (λ (n : ℕ). r.event - least_of r.event (keep (relevant group r) (days_before n r.event))) (sym s)
      ∙ rw (on_last_day (k - 1) o, keep-append, s, e, least_of_snoc)
      (omega (arith, least_of_from r.event (keep (relevant group r) (days_before (k - 1) r.event)) (r.event - (k - 1)) (omega arith) nearer))
    where
      nearer : (d : ℕ) → member d (keep (relevant group r) (days_before (k - 1) r.event)) ≡ true → r.event - (k - 1) ≤ d
      nearer d m =
          let i = (days_before_is (k - 1) r.event d).0 (kept_member (relevant group r) (days_before (k - 1) r.event) d m) in omega arith

  pub reach_none : reach_within 0 ≡ 0
  unfolding reach_within keep days_before least_of
  reach_none = omega arith

  -- "Look-back: the 45 days"
  pub reach_most : whole_reach (method_of group r) ≤ 45
  unfolding whole_reach method_of method_by relevant_days
  reach_most =
      omega (arith, least_of_from r.event (keep (relevant group r) (days_before 45 r.event)) (r.event - 45) (omega arith) within)
    where
      within : (d : ℕ) → member d (keep (relevant group r) (days_before 45 r.event)) ≡ true → r.event - 45 ≤ d
      within d m = let i = (days_before_is 45 r.event d).0 (kept_member (relevant group r) (days_before 45 r.event) d m) in omega arith

  -- a relevant day lies before the first held day where the reach of all relevant days goes beyond the days held before the event
  since_event : (first : ℕ) → first ≤ r.event
      → any (λ d. ltb d first) (method_of group r).relevant ≡ ltb (r.event - first) (whole_reach (method_of group r))
  unfolding whole_reach method_of method_by
  since_event first h =
      let least = least_of r.event (relevant_days group r) in
      any_least r.event first (relevant_days group r) h ∙ below least (least_of_top r.event (relevant_days group r))
    where
      below : (l : ℕ) → l ≤ r.event → ltb l first ≡ ltb (r.event - first) (r.event - l)
      below l o = same_test l first (r.event - first) (r.event - l) (omega arith) (omega arith)

  -- also where no day is held: each relevant day lies before the event
  pub short_of_reach : (first : ℕ) → first ≤ r.event + 1
      → any (λ d. ltb d first) (method_of group r).relevant ≡ ltb (r.event - first) (whole_reach (method_of group r))
  unfolding method_of method_by
  short_of_reach first h =
      let e : r.event - min first r.event ≡ r.event - first = omega arith in
      any_same (λ d. ltb d first) (λ d. ltb d (min first r.event)) (method_of group r).relevant below
      ∙ rw e at (since_event (min first r.event) (omega arith))
    where
      below : (d : ℕ) → member d (method_of group r).relevant ≡ true → ltb d first ≡ ltb d (min first r.event)
      below d m =
          let o : d < r.event = (lawful group r).before d m in
          same_test d first d (min first r.event) (omega arith) (omega arith)
