-- Demand 3 over tables, by either method: the abstract part (`Stable`, `Reach`, `Undecided`) at the histories of tables, behind the refusals
-- that come before the margin's (`Replies`).
use mathlib.Core.Path.{◌≡◌, sym, ap, ◌∙◌}
use mathlib.Core.Logic.{⊎_elim}
use mathlib.Core.Bool.{true, false}
use mathlib.Core.Option.{Option}
use Prim.Native.Nat.{ℕ, ◌-◌, ◌≤◌, ◌<◌}
use native.Mathlib.Omega.{arith}
use Rattle.base_lists.specs.Lists.{member}
use Rattle.base_lists.proofs.Bools.{clash, bool_cases}
use Rattle.base_lists.proofs.Keep.{least_of_from}
use Rattle.calendar_groups.specs.declared.Group.{Group}
use Rattle.method.specs.declared.Request.{Request}
use Rattle.method.specs.declared.Refusal.TheVariants.{MarginTooShort}
use Rattle.method.specs.Table.{Table, Day, held, history}
use Rattle.method.specs.Relevant.{relevant_days}
use Rattle.method.specs.Method.{Method, window, reach, whole_reach, is_short, outcome}
use Rattle.method.specs.Adjustment.{Baseline}
use Rattle.method.specs.Rules.{method_by}
use Rattle.method.specs.Requested.{method_of}
use Rattle.method.specs.Verdict.{refused, closing, methodology, well_formed}
use Rattle.method.specs.CutTables.{LongerFormed, CutFrom, held_before, cut_to, Undecided, Parted, is_margin, NoneEarlier, CutTables}
use Rattle.method.proofs.Histories.{Extends, extends_held}
use Rattle.method_laws.proofs.Short.{whole_enough}
use Rattle.method_laws.proofs.Stable.{same_window, same_outcome}
use Rattle.method_laws.proofs.Reach.{reach_held, wide_enough, reach_short, reach_enough}
use Rattle.method_laws.proofs.LookBack.{look_back_is}
use Rattle.method_laws.proofs.Requested.{lawful, relevant-look_back, relevant_participation}
use Rattle.method.proofs.Tables.{longer_extends, cut_part, cut_before}
use Rattle.method_laws.proofs.Settled.{settled_reach}
use Rattle.method_laws.proofs.Replies.{earlier_cases, plain, hidden, hidden_same, margin_is, margin_carries, same_refusals}
use Rattle.method_laws.proofs.Undecided.{parted}

pub at_most_45 : (group : ℕ → Group) (r : Request) → whole_reach (method_of group r) ≤ 45
unfolding whole_reach method_of method_by
at_most_45 group r = omega (arith, least_of_from r.event (relevant_days group r) (r.event - 45) (omega arith) since)
  where
    since : (d : ℕ) → member d (relevant_days group r) ≡ true → r.event - 45 ≤ d
    since d e = let i = (look_back_is r.event d).0 (relevant-look_back group r d e) in omega arith

module _ (group : ℕ → Group) (t : Table) (r : Request) (room : ℕ)
    (well : well_formed t ≡ true) (holds : held (history t) r.event ≡ true) where
  abbrev m : Method Day (Option Baseline)
  m = method_of group r

  -- with no earlier refusal the reply is the margin's exactly where the margin is too short
  enough_margin : NoneEarlier t r room → is_margin (methodology group (history t) r room) ≡ false → is_short m (history t) ≡ false
  enough_margin n clear = sym (margin_is group t r room n) ∙ clear

  -- a second table that holds the event, where an enough margin gives the same outcome
  reply_same : (l : Table) → held (history l) r.event ≡ true
      → (is_short m (history t) ≡ false → outcome m (history l) ≡ outcome m (history t))
      → is_margin (methodology group (history t) r room) ≡ false → methodology group (history l) r room ≡ methodology group (history t) r room
  reply_same l also same clear = ⊎_elim (hidden_same group l t r room (also ∙ sym holds)) plainly (earlier_cases t r room)
    where
      plainly : NoneEarlier t r room → methodology group (history l) r room ≡ methodology group (history t) r room
      plainly n =
          plain group l r room (rw (same_refusals l t r room (also ∙ sym holds)) n) ∙
          ap closing (same (enough_margin n clear)) ∙ sym (plain group t r room n)

  stable : is_margin (methodology group (history t) r room) ≡ false
      → (l : Table) → LongerFormed l t → methodology group (history l) r room ≡ methodology group (history t) r room
  unfolding method_of method_by
  stable clear l x =
      reply_same l (extends_held extends r.event holds) (same_outcome m (lawful group r) (history t) (history l) extends holds) clear
    where
      extends : Extends (history l) (history t)
      extends = longer_extends x.longer

  same_windows : is_short m (history t) ≡ false → (l : Table) → LongerFormed l t → window m (history l) ≡ window m (history t)
  unfolding method_of method_by
  same_windows e l x = same_window m (lawful group r) (history t) (history l) (longer_extends x.longer) holds e

  given_when : NoneEarlier t r room → Undecided group t r → is_margin (methodology group (history t) r room) ≡ true
  given_when n u =
      margin_is group t r room n ∙ ⊎_elim (λ e. e) (λ e. absurd (u.differ (rw (alike e)))) (bool_cases (is_short m (history t)))
    where
      alike : is_short m (history t) ≡ false → window m (history u.one) ≡ window m (history u.other)
      alike e = same_windows e u.one u.one_longer ∙ sym (same_windows e u.other u.other_longer)

  only_when : NoneEarlier t r room → is_margin (methodology group (history t) r room) ≡ true → Parted group t r
  only_when n e = parted group t r well holds (sym (margin_is group t r room n) ∙ e)

  carried : is_margin (methodology group (history t) r room) ≡ true → methodology group (history t) r room ≡ refused (MarginTooShort (whole_reach m))
  carried e =
      ⊎_elim (λ a. absurd (clash e (hidden group t r room a)))
      (λ n. margin_carries group t r room n (sym (margin_is group t r room n) ∙ e)) (earlier_cases t r room)

  not_given : is_short m (history t) ≡ false → is_margin (methodology group (history t) r room) ≡ false
  not_given e = ⊎_elim (hidden group t r room) (λ n. margin_is group t r room n ∙ e) (earlier_cases t r room)

  enough : whole_reach m ≤ held_before t r → is_margin (methodology group (history t) r room) ≡ false
  unfolding method_of method_by
  enough e = not_given (wide_enough m (lawful group r) (history t) holds e)

  since : t.first ≤ r.participation → is_margin (methodology group (history t) r room) ≡ false
  unfolding method_of method_by
  since e = not_given (whole_enough m (history t) (λ d k. omega (arith, e, relevant_participation group r d k)))

  same : is_margin (methodology group (history t) r room) ≡ false
      → (p : Table) → CutFrom p t r → reach m (history t) ≤ held_before p r → methodology group (history p) r room ≡ methodology group (history t) r room
  unfolding method_of method_by
  same clear p x e = reply_same p x.holds (λ _. sym outcomes) clear
    where
      extends : Extends (history t) (history p)
      extends = longer_extends x.longer

      outcomes : outcome m (history t) ≡ outcome m (history p)
      outcomes =
          same_outcome m (lawful group r) (history p) (history t) extends x.holds
          (reach_enough m (lawful group r) (history p) (history t) extends x.holds e)

  fewer : NoneEarlier t r room
      → (p : Table) → CutFrom p t r → held_before p r < reach m (history t) → is_margin (methodology group (history p) r room) ≡ true
  unfolding method_of method_by
  fewer n p x e =
      margin_is group p r room (rw (same_refusals p t r room (x.holds ∙ sym holds)) n) ∙
      reach_short m (lawful group r) (history p) (history t) (longer_extends x.longer) x.holds e

  attained : NoneEarlier t r room → is_margin (methodology group (history t) r room) ≡ false
      → (k : ℕ) → k ≤ reach m (history t) → (p : Table) × CutFrom p t r × (held_before p r ≡ k)
  unfolding method_of method_by
  attained n clear k e = (cut_to t r k, cut_part t r well holds k before, cut_before t r well holds k before)
    where
      before : k ≤ held_before t r
      before = omega (arith, e, reach_held m (lawful group r) (history t) holds (enough_margin n clear))

pub demand3 : (group : ℕ → Group) (t : Table) (r : Request) (room : ℕ) → well_formed t ≡ true → held (history t) r.event ≡ true
    → CutTables group t r room
demand3 group t r room well holds =
    record {
      stable = stable group t r room well holds;
      given_when = given_when group t r room well holds;
      only_when = only_when group t r room well holds;
      carried = carried group t r room well holds;
      at_most = at_most_45 group r;
      enough = enough group t r room well holds;
      since = since group t r room well holds;
      reports = settled_reach group t r room;
      same = same group t r room well holds;
      fewer = fewer group t r room well holds;
      attained = attained group t r room well holds;
    }
