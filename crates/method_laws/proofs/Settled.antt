-- What a settled reply, an answer, 9 or 10, says: no earlier refusal applies, and the reach that it reports is the methodology's.
use mathlib.Core.Path.{◌≡◌, refl}
use mathlib.Core.Logic.{⊎_elim}
use mathlib.Core.Bool.{Bool, true, false, cond}
use mathlib.Core.Option.{Option, none, some}
use Prim.Native.Nat.{ℕ, ◌-◌}
use lib.ListN.{length}
use lib.Dec.{eqb}
use borrow.Author.Tests.{eqb-true}
use Rattle.base_lists.specs.Lists.{all}
use Rattle.base_lists.proofs.Bools.{either, clash}
use Rattle.calendar_groups.specs.declared.Group.{Group}
use Rattle.method.specs.declared.Request.{Request}
use Rattle.method.specs.Table.{Table, Day, History, history}
use Rattle.method.specs.Method.{Method, short, few, chose, days_of, window, chosen, reach, whole_reach, is_short, outcome}
use Rattle.method.specs.Adjustment.{Baseline}
use Rattle.method.specs.Requested.{method_of}
use Rattle.method.specs.Verdict.{Reply, refused, answered, number, request_refusals, closing, methodology}
use Rattle.method.specs.CutTables.{is_margin, is_settled, reported, NoneEarlier}
use Rattle.method_laws.proofs.Replies.{earlier_cases, plain, hidden_other}

pub settled_margin : (reply : Reply) → is_settled reply ≡ true → is_margin reply ≡ false
settled_margin (refused w) e =
    ⊎_elim (λ n. rw (eqb-true (number w) 9 n)) (λ n. rw (eqb-true (number w) 10 n)) (either (eqb (number w) 9) (eqb (number w) 10) e)
settled_margin (answered a) e = refl

closing-reach : (m : Method Day (Option Baseline)) (h : History Day) → is_settled (closing (outcome m h)) ≡ true
    → reported (closing (outcome m h)) ≡ reach m h
unfolding closing outcome
closing-reach m h =
    go (is_short m h) (eqb (m.taken (length (window m h))) 0) (m.finish (chosen m h) (h.day (m.event - 1)) (h.day m.event))
  where
    ending : Bool → Bool → Option Baseline → Reply
    ending s f o =
        closing (cond s (short (whole_reach m)) (cond f (few (length (window m h)) (reach m h)) (chose (days_of (chosen m h)) (reach m h) o)))

    go : (s f : Bool) (o : Option Baseline) → is_settled (ending s f o) ≡ true → reported (ending s f o) ≡ reach m h
    go true f o e = absurd (clash e refl)
    go false true o e = refl
    go false false none e = refl
    go false false (some b) e = refl

module _ (group : ℕ → Group) (t : Table) (r : Request) (room : ℕ) where
  pub settled_early : is_settled (methodology group (history t) r room) ≡ true → NoneEarlier t r room
  unfolding request_refusals
  settled_early e =
      ⊎_elim (λ a. absurd (clash e (hidden_other group t r room is_settled (unfold all in refl) a))) (λ n. n) (earlier_cases t r room)

  pub settled_reach : is_settled (methodology group (history t) r room) ≡ true → reported (methodology group (history t) r room) ≡ reach (method_of group r) (history t)
  settled_reach e = rw q (closing-reach (method_of group r) (history t) (rw q at e))
    where
      q : methodology group (history t) r room ≡ closing (outcome (method_of group r) (history t))
      q = plain group t r room (settled_early e)
