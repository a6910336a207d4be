-- The reply in two steps: an earlier refusal hides what the days give, and with none the reply is "margin too short" exactly where it is.
use mathlib.Core.Path.{◌≡◌, refl, ◌∙◌}
use mathlib.Core.Logic.{◌⊎◌}
use mathlib.Core.Bool.{Bool, true, false, not, cond, ◌||◌}
use mathlib.Core.List.{List, [], ◌∷◌}
use mathlib.Core.Option.{Option, none, some}
use Prim.Native.Nat.{ℕ, ◌-◌}
use lib.ListN.{length}
use lib.Dec.{eqb}
use borrow.Author.Tests.{not-true}
use Rattle.base_lists.specs.Lists.{any, all}
use Rattle.base_lists.proofs.Bools.{clash, bool_cases, and_left, and_right}
use Rattle.calendar_groups.specs.declared.Group.{Group}
use Rattle.method.specs.declared.Request.{Request}
use Rattle.method.specs.declared.Refusal.{Refusal}
use Rattle.method.specs.declared.Refusal.TheVariants.{MarginTooShort}
use Rattle.method.specs.Table.{Table, Day, History, held, history}
use Rattle.method.specs.Method.{Method, short, few, chose, days_of, window, chosen, reach, whole_reach, is_short, outcome}
use Rattle.method.specs.Adjustment.{Baseline}
use Rattle.method.specs.Requested.{method_of}
use Rattle.method.specs.Verdict.{Reply, refused, request_refusals, closing, first_of, methodology}
use Rattle.method.specs.CutTables.{is_margin, NoneEarlier}

abbrev pub test : Bool × Refusal → Bool
test p = p.0

-- a refusal of the list applies: it is the reply whatever else would be
early_same : (rs : List (Bool × Refusal)) (x y : Reply) → any test rs ≡ true → first_of rs x ≡ first_of rs y
unfolding any first_of
early_same [] x y e = absurd (clash e refl)
early_same (t ∷ ts) x y e = go t.0 e (early_same ts x y)
  where
    go : (b : Bool) → (b || any test ts) ≡ true → (any test ts ≡ true → first_of ts x ≡ first_of ts y)
        → cond b (refused t.1) (first_of ts x) ≡ cond b (refused t.1) (first_of ts y)
    go true e ih = refl
    go false e ih = ih e

-- none applies: the reply is what comes after them
pub none_early : (rs : List (Bool × Refusal)) (x : Reply) → any test rs ≡ false → first_of rs x ≡ x
unfolding any first_of
none_early [] x e = refl
none_early (t ∷ ts) x e = go t.0 e (none_early ts x)
  where
    go : (b : Bool) → (b || any test ts) ≡ false → (any test ts ≡ false → first_of ts x ≡ x)
        → cond b (refused t.1) (first_of ts x) ≡ x
    go true e ih = absurd (clash refl e)
    go false e ih = ih e

-- a reply of another kind than all the refusals
abbrev pub other : (Reply → Bool) → Bool × Refusal → Bool
other q p = not (q (refused p.1))

pub early_other : (q : Reply → Bool) (rs : List (Bool × Refusal)) (x : Reply) → all (other q) rs ≡ true → any test rs ≡ true
    → q (first_of rs x) ≡ false
unfolding any all first_of
early_other q [] x o e = absurd (clash e refl)
early_other q (t ∷ ts) x o e = go t.0 e (early_other q ts x (and_right (other q t) (all (other q) ts) o))
  where
    go : (b : Bool) → (b || any test ts) ≡ true → (any test ts ≡ true → q (first_of ts x) ≡ false)
        → q (cond b (refused t.1) (first_of ts x)) ≡ false
    go true e ih = not-true (q (refused t.1)) (and_left (other q t) (all (other q) ts) o)
    go false e ih = ih e

-- what the choice of days ends in is the margin's refusal exactly where the margin is too short
closing_margin : (m : Method Day (Option Baseline)) (h : History Day) → is_margin (closing (outcome m h)) ≡ is_short m h
unfolding closing outcome
closing_margin m h =
    go (is_short m h) (eqb (m.taken (length (window m h))) 0) (m.finish (chosen m h) (h.day (m.event - 1)) (h.day m.event))
  where
    ending : Bool → Bool → Option Baseline → Reply
    ending s f o =
        closing (cond s (short (whole_reach m)) (cond f (few (length (window m h)) (reach m h)) (chose (days_of (chosen m h)) (reach m h) o)))

    go : (s f : Bool) (o : Option Baseline) → is_margin (ending s f o) ≡ s
    go true f o = refl
    go false true o = refl
    go false false none = refl
    go false false (some b) = refl

closing_carries : (m : Method Day (Option Baseline)) (h : History Day) → is_short m h ≡ true
    → closing (outcome m h) ≡ refused (MarginTooShort (whole_reach m))
unfolding closing outcome
closing_carries m h e = rw e

-- refusals 4 to 7 ask of the table only whether it holds the event
pub same_refusals : (l t : Table) (r : Request) (room : ℕ) → held (history l) r.event ≡ held (history t) r.event
    → request_refusals (history l) r room ≡ request_refusals (history t) r room
unfolding request_refusals
same_refusals l t r room e = rw e

-- a refusal before 8 applies
abbrev pub Earlier : Table → Request → ℕ → Type 0
Earlier t r room = any (λ (p : Bool × Refusal). p.0) (request_refusals (history t) r room) ≡ true

pub earlier_cases : (t : Table) (r : Request) (room : ℕ) → Earlier t r room ⊎ NoneEarlier t r room
earlier_cases t r room = bool_cases (any test (request_refusals (history t) r room))

module _ (group : ℕ → Group) (t : Table) (r : Request) (room : ℕ) where
  pub plain : NoneEarlier t r room → methodology group (history t) r room ≡ closing (outcome (method_of group r) (history t))
  unfolding methodology
  plain n = none_early (request_refusals (history t) r room) (closing (outcome (method_of group r) (history t))) n

  pub hidden_other : (q : Reply → Bool) → all (other q) (request_refusals (history t) r room) ≡ true
      → Earlier t r room → q (methodology group (history t) r room) ≡ false
  unfolding methodology
  hidden_other q o e = early_other q (request_refusals (history t) r room) (closing (outcome (method_of group r) (history t))) o e

  pub hidden : Earlier t r room → is_margin (methodology group (history t) r room) ≡ false
  unfolding request_refusals
  hidden e = hidden_other is_margin (unfold all in refl) e

  pub margin_is : NoneEarlier t r room → is_margin (methodology group (history t) r room) ≡ is_short (method_of group r) (history t)
  margin_is n = rw (plain n) (closing_margin (method_of group r) (history t))

  pub margin_carries : NoneEarlier t r room → is_short (method_of group r) (history t) ≡ true
      → methodology group (history t) r room ≡ refused (MarginTooShort (whole_reach (method_of group r)))
  margin_carries n e = plain n ∙ closing_carries (method_of group r) (history t) e

-- two tables that both hold the event, or both do not: an earlier refusal is the same over both
pub hidden_same : (group : ℕ → Group) (l t : Table) (r : Request) (room : ℕ) → held (history l) r.event ≡ held (history t) r.event
    → Earlier t r room → methodology group (history l) r room ≡ methodology group (history t) r room
unfolding methodology
hidden_same group l t r room e a =
    rw (same_refusals l t r room e)
    (early_same (request_refusals (history t) r room) (closing (outcome (method_of group r) (history l))) (closing (outcome (method_of group r) (history t))) a)
