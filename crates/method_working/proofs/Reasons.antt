-- The reason of a day tells what the methodology makes of it: both ask the same tests.
use Prim.Native.Nat.{ℕ, ◌+◌, ◌-◌, ◌≤◌}
use mathlib.Core.Path.{◌≡◌, refl, ◌∙◌}
use mathlib.Core.Bool.{Bool, true, false, not, cond, ◌&&◌}
use mathlib.Core.List.{List}
use mathlib.Core.Logic.{◌↔◌, ◌⊎◌, inl, inr, ⊎_elim}
use native.Mathlib.Omega.{arith}
use lib.Dec.{leb, eqb}
use borrow.Author.Tests.{le-ltb}
use Rattle.base_lists.specs.Lists.{keep, member}
use Rattle.base_lists.proofs.Bools.{clash, below_not}
use Rattle.base_lists.proofs.Keep.{keep-map, member-keep}
use Rattle.calendar_groups.specs.declared.Group.{Group}
use Rattle.calendar_groups.specs.declared.Group.TheVariants.{Weekday}
use Rattle.method.specs.declared.Request.{Request}
use Rattle.method.specs.Table.{Day, History, held, event_bit, outage_bit}
use Rattle.method.specs.Relevant.{same_group, look_back, relevant, relevant_days}
use Rattle.method.specs.Eligible.{complete, eligible, spare, higher}
use Rattle.method.specs.Adjustment.{is_average}
use Rattle.method.specs.Method.{days_of, seen, eligibles, spares}
use Rattle.method.specs.Rules.{method_by}
use Rattle.method.specs.HighXofY.{high_x_of_y}
use Rattle.method.specs.AverageXofY.{average_x_of_y}
use Rattle.method.specs.Requested.{rules_of, method_of}
use Rattle.method_laws.proofs.LookBack.{look_back_is}
use Rattle.method_laws.proofs.Seen.{by, dated_days}
use Rattle.method_laws.proofs.Sort.{member_sorted}
use Rattle.method_working.specs.declared.Reason.{Reason}
use Rattle.method_working.specs.declared.Reason.TheVariants.{TooEarly, AnotherGroup, DayBefore, NotHeld, ReadingMissing, Outage, EventRecorded, Eligible}
use Rattle.method_working.specs.Working.{reason, reason_of}
use Rattle.method_working.specs.Reasons.{Tells, ReasonsTell}

-- a reason by the tests that make it: not before P, of D's group, D-1 of a weekday, held, complete, bit 1 and bit 0
by_tests : (since same eve held full out event : Bool) → Reason
by_tests since same eve held full out event =
    cond (not since) TooEarly (cond (not same) AnotherGroup (cond eve DayBefore (cond (not held) NotHeld
    (cond (not full) ReadingMissing (cond out Outage (cond event EventRecorded Eligible))))))

-- a relevant day has none of three reasons
stays : {x : Reason} → (x ≡ TooEarly → true ≡ false) → (x ≡ AnotherGroup → true ≡ false) → (x ≡ DayBefore → true ≡ false)
    → ((x ≡ TooEarly) ⊎ (x ≡ AnotherGroup) ⊎ (x ≡ DayBefore) ↔ true ≡ false)
stays p q s = (⊎_elim p (⊎_elim q s), λ e. absurd (clash refl e))

tests_tell : (since same eve held full out event : Bool)
    → Tells (by_tests since same eve held full out event) (since && same && not eve) (((since && same && not eve) && held) && (full && not event && not out))
    (((since && same && not eve) && held) && (full && event && not out))
unfolding by_tests
tests_tell false same eve held full out event =
    record { irrelevant = (λ e. refl, λ e. inl refl); eligible = (λ e. cc, λ e. cc); recorded = (λ e. cc, λ e. cc) }
tests_tell true false eve held full out event =
    record { irrelevant = (λ e. refl, λ e. inr (inl refl)); eligible = (λ e. cc, λ e. cc); recorded = (λ e. cc, λ e. cc) }
tests_tell true true true held full out event =
    record { irrelevant = (λ e. refl, λ e. inr (inr refl)); eligible = (λ e. cc, λ e. cc); recorded = (λ e. cc, λ e. cc) }
tests_tell true true false false full out event =
    record { irrelevant = stays (λ e. cc) (λ e. cc) (λ e. cc); eligible = (λ e. cc, λ e. cc); recorded = (λ e. cc, λ e. cc) }
tests_tell true true false true false out event =
    record { irrelevant = stays (λ e. cc) (λ e. cc) (λ e. cc); eligible = (λ e. cc, λ e. cc); recorded = (λ e. cc, λ e. cc) }
tests_tell true true false true true true true =
    record { irrelevant = stays (λ e. cc) (λ e. cc) (λ e. cc); eligible = (λ e. cc, λ e. cc); recorded = (λ e. cc, λ e. cc) }
tests_tell true true false true true true false =
    record { irrelevant = stays (λ e. cc) (λ e. cc) (λ e. cc); eligible = (λ e. cc, λ e. cc); recorded = (λ e. cc, λ e. cc) }
tests_tell true true false true true false true =
    record { irrelevant = stays (λ e. cc) (λ e. cc) (λ e. cc); eligible = (λ e. cc, λ e. cc); recorded = (λ e. refl, λ e. refl) }
tests_tell true true false true true false false =
    record { irrelevant = stays (λ e. cc) (λ e. cc) (λ e. cc); eligible = (λ e. refl, λ e. refl); recorded = (λ e. cc, λ e. cc) }

module _ (group : ℕ → Group) (r : Request) (h : History Day) (back : ℕ) (some : 1 ≤ back) (most : back ≤ 45) (within : back ≤ r.event) where
  abbrev d : ℕ
  d = r.event - back

  the_tests : reason group r h back
      ≡ by_tests (leb r.participation d) (same_group (group d) (group r.event)) (same_group (group r.event) Weekday && eqb (d + 1) r.event) (held h d)
      (complete (h.day d)) (outage_bit (h.day d).mark) (event_bit (h.day d).mark)
  unfolding reason reason_of by_tests
  the_tests = rw (le-ltb r.event back within, below_not (r.event - back) r.participation)

  -- the day is one of those that are seen and pass a test where it is relevant and held and passes it
  seen_passing : (q : Day → Bool) → member d (days_of (keep (by q) (seen (method_of group r) h))) ≡ ((relevant group r d && held h d) && q (h.day d))
  unfolding seen method_of method_by relevant_days
  seen_passing q =
      let looked = (look_back_is r.event d).1 (omega arith, omega arith) in
      rw (
        keep-map (by q) (λ d. (d, h.day d)) (keep (held h) (keep (relevant group r) (look_back r.event))),
        dated_days h.day (keep (λ d. q (h.day d)) (keep (held h) (keep (relevant group r) (look_back r.event)))),
        member-keep (λ d. q (h.day d)) (keep (held h) (keep (relevant group r) (look_back r.event))) d,
        member-keep (held h) (keep (relevant group r) (look_back r.event)) d,
        member-keep (relevant group r) (look_back r.event) d,
        looked,
      )

  are_eligible : member d (days_of (eligibles (method_of group r) h)) ≡ ((relevant group r d && held h d) && eligible (h.day d))
  unfolding eligibles method_of method_by
  are_eligible = seen_passing eligible

  -- the order in which spares fill a shortage leaves none of them out
  ordered : (days : List (ℕ × Day)) → member d (days_of ((method_of group r).order days)) ≡ member d (days_of days)
  unfolding method_of method_by rules_of high_x_of_y average_x_of_y
  ordered days = go (is_average r)
    where
      go : (b : Bool) → member d (days_of ((cond b (average_x_of_y (group r.event) r) (high_x_of_y (group r.event) r)).order days)) ≡ member d (days_of days)
      go true = refl
      go false = member_sorted (higher r) (λ p. p.0) d days

  are_spare : member d (days_of (spares (method_of group r) h)) ≡ ((relevant group r d && held h d) && spare (h.day d))
  unfolding spares method_of method_by
  are_spare = ordered (keep (by spare) (seen (method_of group r) h)) ∙ seen_passing spare

  tells : Tells (reason group r h back) (relevant group r d) (member d (days_of (eligibles (method_of group r) h))) (member d (days_of (spares (method_of group r) h)))
  unfolding relevant eligible spare
  tells =
      rw (the_tests, are_eligible, are_spare)
      (tests_tell (leb r.participation d) (same_group (group d) (group r.event)) (same_group (group r.event) Weekday && eqb (d + 1) r.event) (held h d)
      (complete (h.day d)) (outage_bit (h.day d).mark) (event_bit (h.day d).mark))

pub reasons_tell : ReasonsTell
reasons_tell group r h back some most within = tells group r h back some most within
