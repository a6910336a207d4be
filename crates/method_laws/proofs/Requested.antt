-- The method that a request asks for is lawful: its days come from the look-back, spares fill to fewer than Y days, and their order only permutes.
use mathlib.Core.Path.{◌≡◌, refl, sym, ◌∙◌}
use mathlib.Core.Bool.{Bool, true, false, cond}
use mathlib.Core.List.{List}
use Prim.Native.Nat.{ℕ, ◌≤◌, ◌<◌}
use native.Mathlib.Omega.{arith}
use lib.Dec.{leb}
use borrow.Author.Tests.{leb-true}
use Rattle.base_lists.specs.Lists.{member}
use Rattle.base_lists.proofs.Bools.{and_left, and_right}
use Rattle.base_lists.proofs.Keep.{kept_member, kept_holds}
use Rattle.calendar_groups.specs.declared.Group.{Group}
use Rattle.calendar_groups.specs.declared.Group.TheVariants.{Weekday, Saturday, HolidayGroup}
use Rattle.method.specs.declared.Request.{Request}
use Rattle.method.specs.Relevant.{relevant, relevant_days, look_back}
use Rattle.method.specs.Table.{Day}
use Rattle.method.specs.Eligible.{higher}
use Rattle.method.specs.Method.{days_of}
use Rattle.method.specs.Adjustment.{is_average}
use Rattle.method.specs.Rules.{Rules, method_by}
use Rattle.method.specs.HighXofY.{high_x_of_y}
use Rattle.method.specs.AverageXofY.{average_x_of_y}
use Rattle.method.specs.Requested.{rules_of, method_of}
use Rattle.method.specs.Lawful.{Lawful, Falling}
use Rattle.method_laws.proofs.Falling.{falling_keep}
use Rattle.method_laws.proofs.Sort.{member_sorted}
use Rattle.method_laws.proofs.LookBack.{look_back_is, look_back_fall}

-- what rules have to show: the rest of the law is of the look-back alone
record Rightful (rules : Rules) : Type 0 where
  fills : rules.fill < rules.most
  only : (days : List (ℕ × Day)) (d : ℕ) → member d (days_of (rules.order days)) ≡ true → member d (days_of days) ≡ true
  needs : rules.taken 0 ≡ 0

module _ (r : Request) where
  high : (g : Group) → Rightful (high_x_of_y g r)
  unfolding high_x_of_y
  high g = record { fills = fewer g; only = λ days d e. sym (member_sorted (higher r) (λ p. p.0) d days) ∙ e; needs = none g }
    where
      fewer : (g : Group) → (high_x_of_y g r).fill < (high_x_of_y g r).most
      fewer Weekday = omega arith
      fewer Saturday = omega arith
      fewer HolidayGroup = omega arith

      none : (g : Group) → (high_x_of_y g r).taken 0 ≡ 0
      none Weekday = refl
      none Saturday = refl
      none HolidayGroup = refl

  average : (g : Group) → Rightful (average_x_of_y g r)
  unfolding average_x_of_y
  average g = record { fills = fewer g; only = λ days d e. e; needs = none g }
    where
      fewer : (g : Group) → (average_x_of_y g r).fill < (average_x_of_y g r).most
      fewer Weekday = omega arith
      fewer Saturday = omega arith
      fewer HolidayGroup = omega arith

      none : (g : Group) → (average_x_of_y g r).taken 0 ≡ 0
      none Weekday = refl
      none Saturday = refl
      none HolidayGroup = refl

  rightful : (g : Group) → Rightful (rules_of g r)
  unfolding rules_of
  rightful g = by (is_average r)
    where
      by : (b : Bool) → Rightful (cond b (average_x_of_y g r) (high_x_of_y g r))
      by true = average g
      by false = high g

module _ (group : ℕ → Group) (r : Request) where
  pub relevant-look_back : (d : ℕ) → member d (relevant_days group r) ≡ true → member d (look_back r.event) ≡ true
  unfolding relevant_days
  relevant-look_back d e = kept_member (relevant group r) (look_back r.event) d e

  -- "is not below 0 or P"
  pub relevant_participation : (d : ℕ) → member d (relevant_days group r) ≡ true → r.participation ≤ d
  unfolding relevant_days relevant
  relevant_participation d e =
      let is = kept_holds (relevant group r) (look_back r.event) d e in
      let since : leb r.participation d ≡ true = search (and_left, and_right) in
      leb-true r.participation d since

  relevant_fall : Falling (relevant_days group r)
  unfolding relevant_days
  relevant_fall = falling_keep (relevant group r) (look_back_fall r.event)

  pub lawful : Lawful (method_of group r)
  unfolding method_of method_by
  lawful =
      record {
        falling = relevant_fall;
        before = λ d e. ((look_back_is r.event d).0 (relevant-look_back d e)).0;
        fills = its.fills;
        only = its.only;
        needs = its.needs;
      }
    where
      its : Rightful (rules_of (group r.event) r)
      its = rightful r (group r.event)
