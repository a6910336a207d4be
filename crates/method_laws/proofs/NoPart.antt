-- 01: "Day D's marks, its readings from s on, and all later days play no part beyond refusals 1 to 3."
-- The idea: the days before D decide the choice (`Before`), and no adjustment window ends after s.
use mathlib.Core.Path.{◌≡◌, refl, sym, ap, ◌∙◌}
use mathlib.Core.Logic.{⊎_elim}
use mathlib.Core.Bool.{Bool, true, false, cond}
use mathlib.Core.List.{List, ◌∷◌}
use Prim.Native.Nat.{ℕ, zero, suc, ◌+◌, ◌-◌, ◌≤◌, ◌<◌}
use native.Mathlib.Omega.{arith}
use lib.ListN.{length, take}
use lib.Seq.{take-append-add}
use lib.Dec.{leb}
use borrow.Author.Tests.{leb-true, not-false}
use Rattle.base_lists.specs.Lists.{any}
use Rattle.base_lists.proofs.Bools.{and_left, and_right, clash}
use Rattle.base_lists.proofs.Parts.{take-drop-take}
use Rattle.calendar_groups.specs.Holidays.{group}
use Rattle.calendar_groups.specs.declared.Group.{Group}
use Rattle.method.specs.declared.Request.{Request}
use Rattle.method.specs.declared.Refusal.{Refusal}
use Rattle.method.specs.Table.{Table, Day, day_of, held, history, is_extract}
use Rattle.method.specs.Method.{outcome}
use Rattle.method.specs.Adjustment.{baseline, adjusting, adjusting_by, ruler, twelve, window_ends, latest_end, adjustment_end, A}
use Rattle.method.specs.Rules.{method_by}
use Rattle.method.specs.Requested.{method_of}
use Rattle.method.specs.Ruler.{ruler_start}
use Rattle.method.proofs.Ruler.{start_size, window_before}
use Rattle.method.specs.Verdict.{closing, good_request, request_refusals, first_of, methodology, list_refusals, by_list, verdict, well_formed}
use Rattle.method.specs.CutTables.{NoneEarlier}
use Rattle.method_laws.proofs.Before.{before_same}
use Rattle.method_laws.proofs.Requested.{lawful}
use Rattle.method.proofs.Tables.{day_size}
use Rattle.method_laws.proofs.Replies.{earlier_cases, plain, hidden_same, same_refusals}
use Rattle.method_laws.proofs.Extract.{verdict_is}

module _ (s : ℕ) (enough : 12 ≤ s) (xs ys : List ℕ) (alike : take s xs ≡ take s ys) where
  twelve_same : (end : ℕ) → end ≤ s → twelve xs end ≡ twelve ys end
  twelve_same end e =
      sym (take-drop-take 12 (end - 12) s xs (omega arith)) ∙ rw alike (take-drop-take 12 (end - 12) s ys (omega arith))

  ends_same : (end : ℕ) → end ≤ s → window_ends xs end ≡ window_ends ys end
  unfolding window_ends
  ends_same end e = rw (twelve_same end e)

  latest_same : (k : ℕ) → k ≤ s → latest_end xs k ≡ latest_end ys k
  unfolding latest_end
  latest_same zero e = refl
  latest_same (suc k) e = rw (ends_same (suc k) e, latest_same k (omega arith))

latest_below : (xs : List ℕ) (k : ℕ) → latest_end xs k ≤ k
unfolding latest_end
latest_below xs zero = omega arith
latest_below xs (suc k) = go (window_ends xs (suc k)) (latest_below xs k)
  where
    go : (b : Bool) → latest_end xs k ≤ k → cond b (suc k) (latest_end xs k) ≤ suc k
    go true e = omega arith
    go false e = omega arith

module _ (r : Request) (ordered : r.n ≤ r.s) (enough : 12 ≤ r.s) where
  end_below : (xs : List ℕ) → adjustment_end r xs ≤ r.s
  unfolding adjustment_end
  end_below xs = go (window_ends xs r.n)
    where
      go : (b : Bool) → cond b r.n (latest_end xs r.s) ≤ r.s
      go true = ordered
      go false = latest_below xs r.s

  end_same : (xs ys : List ℕ) → take r.s xs ≡ take r.s ys → adjustment_end r xs ≡ adjustment_end r ys
  unfolding adjustment_end
  end_same xs ys alike =
      rw (ends_same r.s enough xs ys alike r.n ordered, latest_same r.s enough xs ys alike r.s (omega arith))

  -- the baseline sees the ruler's readings before s alone
  baseline_same : (chosen : List (ℕ × Day)) (yesterday a b : Day)
      → take r.s (ruler yesterday a) ≡ take r.s (ruler yesterday b) → baseline r chosen yesterday a ≡ baseline r chosen yesterday b
  unfolding baseline adjusting_by adjusting A
  baseline_same chosen yesterday a b alike =
      rw (end_same xs ys alike, twelve_same r.s enough xs ys alike (adjustment_end r ys) (end_below ys))
    where
      xs : List ℕ
      xs = ruler yesterday a

      ys : List ℕ
      ys = ruler yesterday b

ruler_same : (start s : ℕ) (yesterday a b : Day) → length yesterday.readings ≡ start → start ≤ s
    → take (s - start) a.readings ≡ take (s - start) b.readings → take s (ruler yesterday a) ≡ take s (ruler yesterday b)
ruler_same start s yesterday a b size e alike =
    rw (
      split,
      take-append-add yesterday.readings a.readings (s - start),
      take-append-add yesterday.readings b.readings (s - start),
      alike,
    )
  where
    split : s ≡ length yesterday.readings + (s - start)
    split = omega arith

-- what is known once no refusal before 8 applies
none_first : (a : Bool) (w : Refusal) (ts : List (Bool × Refusal)) → any (λ (p : Bool × Refusal). p.0) ((a, w) ∷ ts) ≡ false
    → (a ≡ false) × (any (λ (p : Bool × Refusal). p.0) ts ≡ false)
unfolding any
none_first true w ts e = absurd (clash refl e)
none_first false w ts e = (refl, e)

pub known : (t : Table) (r : Request) (room : ℕ) → NoneEarlier t r room → (good_request r ≡ true) × (held (history t) r.event ≡ true)
unfolding request_refusals
known t r room n =
    let a = none_first _ _ _ n in
    let b = none_first _ _ _ a.1 in
    (not-false (good_request r) a.0, not-false (held (history t) r.event) b.0)

known_quarters : (r : Request) → good_request r ≡ true → (ruler_start r.event ≤ r.s) × (r.n ≤ r.s)
unfolding good_request
known_quarters r e =
    let on_d : leb (ruler_start r.event) r.s ≡ true = search (and_left, and_right) in
    let ordered : leb r.n r.s ≡ true = search (and_left, and_right) in
    (leb-true (ruler_start r.event) r.s on_d, leb-true r.n r.s ordered)

module _ (group : ℕ → Group) (t u : Table) (r : Request) (well : well_formed t ≡ true)
    (starts : u.first ≡ t.first) (both : held (history u) r.event ≡ held (history t) r.event)
    (agrees : (d : ℕ) → held (history t) d ≡ true → d < r.event → day_of u d ≡ day_of t d)
    (alike : take (r.s - ruler_start r.event) (day_of u r.event).readings ≡ take (r.s - ruler_start r.event) (day_of t r.event).readings) where
  outcomes : good_request r ≡ true → held (history t) r.event ≡ true
      → outcome (method_of group r) (history u) ≡ outcome (method_of group r) (history t)
  unfolding method_of method_by
  outcomes good holds =
      before_same (method_of group r) (lawful group r) (history t) (history u) starts holds (both ∙ holds) agrees
      (λ days e. baseline_same r q.1 (omega (arith, q.0, window_before r.event)) days yesterday (day_of u r.event) (day_of t r.event)
      (rulers (day_size t well (r.event - 1) e ∙ start_size r.event)))
    where
      q : (ruler_start r.event ≤ r.s) × (r.n ≤ r.s)
      q = known_quarters r good

      yesterday : Day
      yesterday = day_of t (r.event - 1)

      rulers : length yesterday.readings ≡ ruler_start r.event
          → take r.s (ruler yesterday (day_of u r.event)) ≡ take r.s (ruler yesterday (day_of t r.event))
      rulers size = ruler_same (ruler_start r.event) r.s yesterday (day_of u r.event) (day_of t r.event) size q.0 alike

  methodologies : (room : ℕ) → methodology group (history u) r room ≡ methodology group (history t) r room
  methodologies room = ⊎_elim (hidden_same group u t r room both) plainly (earlier_cases t r room)
    where
      plainly : NoneEarlier t r room → methodology group (history u) r room ≡ methodology group (history t) r room
      plainly n =
          plain group u r room (rw (same_refusals u t r room both) n) ∙
          ap closing (outcomes (known t r room n).0 (known t r room n).1) ∙ sym (plain group t r room n)

pub no_part : (moves : List ℕ) (t u : Table) (r : Request) (room : ℕ)
    → is_extract t ≡ true → well_formed t ≡ true → is_extract u ≡ true → well_formed u ≡ true
    → u.first ≡ t.first → held (history u) r.event ≡ held (history t) r.event
    → ((d : ℕ) → held (history t) d ≡ true → d < r.event → day_of u d ≡ day_of t d)
    → take (r.s - ruler_start r.event) (day_of u r.event).readings ≡ take (r.s - ruler_start r.event) (day_of t r.event).readings
    → verdict moves u r room ≡ verdict moves t r room
unfolding by_list
no_part moves t u r room te tw ue uw starts both agrees alike =
    verdict_is moves u r room ue uw ∙ ap (first_of (list_refusals moves)) (methodologies (group moves) t u r tw starts both agrees alike room) ∙
    sym (verdict_is moves t r room te tw)
