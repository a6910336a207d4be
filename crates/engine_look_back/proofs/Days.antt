-- The days before the event, one after the other: what is kept of so many of them and then of more, and of what a history holds.
use Prim.Native.Nat.{ℕ, zero, suc, ◌+◌, ◌-◌, ◌≤◌, ◌<◌, min}
use mathlib.Core.Path.{◌≡◌, refl, sym, ap, ◌∙◌}
use mathlib.Core.Bool.{Bool, true, false, cond}
use mathlib.Core.List.{List, [], ◌∷◌, ◌++◌, map, map-append}
use mathlib.Core.Logic.{⊎_elim}
use native.Mathlib.Omega.{arith}
use borrow.Author.Tests.{le-leb, lt-leb, lt-ltb}
use Rattle.base_lists.specs.Lists.{keep, all, member}
use Rattle.base_lists.proofs.Bools.{lt-or-le}
use Rattle.base_lists.proofs.Keep.{keep-append, keep_yes, keep_none, kept_member, all_mapped}
use Rattle.calendar_groups.specs.declared.Group.{Group}
use Rattle.method.specs.declared.Request.{Request}
use Rattle.method.specs.Table.{Day, History, held}
use Rattle.method.specs.Relevant.{days_before, relevant, relevant_days}
use Rattle.method.specs.Method.{seen}
use Rattle.method.specs.Rules.{Rules, method_by}
use Rattle.method_laws.proofs.LookBack.{days_before_is, none_before, days_then, one_before}
use Rattle.method.proofs.Histories.{is_held}
use Rattle.engine_ranking.proofs.Rank.{looked_back}
use Rattle.engine_look_back.specs.Steps.{nearest, if_relevant}

module _ (test : ℕ → Bool) (r : Request) (day : ℕ → Day) where
  pub nearest_then : (i k : ℕ)
      → nearest test r day (i + k)
      ≡ nearest test r day i ++ map {B = ℕ × Day} (λ d. (d, day d)) (keep test (days_before k (r.event - i)))
  unfolding nearest
  nearest_then i k =
      rw (days_then i k r.event, keep-append test (days_before i r.event) (days_before k (r.event - i)))
      (map-append {B = ℕ × Day} (λ d. (d, day d)) (keep test (days_before i r.event)) (keep test (days_before k (r.event - i))))

  pub nearest_more : (i k : ℕ) → i ≤ k → (more : List (ℕ × Day)) × (nearest test r day k ≡ nearest test r day i ++ more)
  nearest_more i k h =
      let e : k ≡ i + (k - i) = omega arith in
      (map {B = ℕ × Day} (λ d. (d, day d)) (keep test (days_before (k - i) (r.event - i))), ap (nearest test r day) e ∙ nearest_then i (k - i))

  pub nearest_one : (i : ℕ) → i < r.event
      → nearest test r day (i + 1) ≡ nearest test r day i ++ if_relevant test (r.event - (i + 1), day (r.event - (i + 1)))
  unfolding if_relevant keep
  nearest_one i h =
      let e : r.event - i ≡ suc (r.event - (i + 1)) = omega arith in
      nearest_then i 1 ∙ rw (e, one_before) (ap (λ (l : List (ℕ × Day)). nearest test r day i ++ l) (go (test (r.event - (i + 1)))))
    where
      d : ℕ
      d = r.event - (i + 1)

      go : (b : Bool) → map {B = ℕ × Day} (λ d. (d, day d)) (cond b (d ∷ []) []) ≡ cond b ((d, day d) ∷ []) []
      go true = refl
      go false = refl

  pub nearest_none : nearest test r day 0 ≡ []
  unfolding nearest keep days_before
  nearest_none = refl

-- what a history that goes up to the event sees: of the days before it those from its first day on
module _ (group : ℕ → Group) (r : Request) (h : History Day) where
  before_first : (d : ℕ) → d < h.first → held h d ≡ false
  unfolding held
  before_first d b = rw (lt-leb h.first d b)

  held_days : (k d : ℕ) → d ≤ h.first + h.count
      → keep (held h) (keep (relevant group r) (days_before k d)) ≡ keep (relevant group r) (days_before (min k (d - h.first)) d)
  unfolding keep days_before
  held_days zero d o = let e : min 0 (d - h.first) ≡ 0 = omega arith in rw e
  held_days (suc k) zero o = sym (ap (keep (relevant group r)) (none_before (min (suc k) (0 - h.first))))
  held_days (suc k) (suc d) o = ⊎_elim below (λ b. since b (held_days k d (omega arith))) (lt-or-le d h.first)
    where
      none : d < h.first → (x : ℕ) → member x (keep (relevant group r) (days_before (suc k) (suc d))) ≡ true → held h x ≡ false
      none b x m =
          let i = (days_before_is (suc k) (suc d) x).0 (kept_member (relevant group r) (days_before (suc k) (suc d)) x m) in
          before_first x (omega arith)

      below : d < h.first
          → keep (held h) (keep (relevant group r) (days_before (suc k) (suc d))) ≡ keep (relevant group r) (days_before (min (suc k) (suc d - h.first)) (suc d))
      below b =
          let e : min (suc k) (suc d - h.first) ≡ 0 = omega arith in
          rw e (keep_none (held h) (keep (relevant group r) (days_before (suc k) (suc d))) (none b))

      go : (t : Bool) (l l' : List ℕ) → held h d ≡ true → keep (held h) l ≡ l' → keep (held h) (cond t (d ∷ l) l) ≡ cond t (d ∷ l') l'
      go true l l' y e = keep_yes (held h) d l y ∙ ap (λ (k : List ℕ). d ∷ k) e
      go false l l' y e = e

      since : h.first ≤ d
          → keep (held h) (keep (relevant group r) (days_before k d)) ≡ keep (relevant group r) (days_before (min k (d - h.first)) d)
          → keep (held h) (keep (relevant group r) (days_before (suc k) (suc d))) ≡ keep (relevant group r) (days_before (min (suc k) (suc d - h.first)) (suc d))
      since b later =
          let e : min (suc k) (suc d - h.first) ≡ suc (min k (d - h.first)) = omega arith in
          rw e
          (go (relevant group r d) (keep (relevant group r) (days_before k d)) (keep (relevant group r) (days_before (min k (d - h.first)) d))
          (is_held h d b (omega arith)) later)

  pub seen-nearest : (rules : Rules) → r.event ≤ h.first + h.count
      → seen (method_by group r rules) h ≡ nearest (relevant group r) r h.day (min 45 (r.event - h.first))
  unfolding seen nearest method_by relevant_days
  seen-nearest rules o = ap (map {B = ℕ × Day} (λ d. (d, h.day d))) (held_days 45 r.event o)

-- every day that is looked at lies in the look back
module _ (test : ℕ → Bool) (r : Request) (day : ℕ → Day) where
  pub nearest_back : (k : ℕ) → k ≤ 45 → all (looked_back r) (nearest test r day k) ≡ true
  unfolding nearest
  nearest_back k h = all_mapped (looked_back r) (λ d. (d, day d)) (keep test (days_before k r.event)) within
    where
      within : (d : ℕ) → member d (keep test (days_before k r.event)) ≡ true → looked_back r (d, day d) ≡ true
      within d m =
          let i = (days_before_is k r.event d).0 (kept_member test (days_before k r.event) d m) in
          rw (le-leb r.event (d + 45) (omega arith), lt-ltb d r.event i.0)
