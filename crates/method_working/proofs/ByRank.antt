-- The window of a request: no day stands in it twice, its days lie in the look-back, and it has as many as are passed over and taken.
use Prim.Native.Nat.{ℕ, ◌+◌, ◌-◌, ◌≤◌, ◌<◌, min}
use mathlib.Core.Path.{◌≡◌, refl, sym, ap, ◌∙◌}
use mathlib.Core.Bool.{Bool, true, false, not, cond, ◌&&◌, ◌||◌}
use mathlib.Core.List.{List, map-append}
use mathlib.Core.Option.{Option}
use mathlib.Core.Logic.{⊎_elim}
use native.Mathlib.Omega.{arith}
use lib.Dec.{leb, ltb}
use lib.ListN.{length, take, drop, length-map, length-take, length-drop}
use borrow.Author.Tests.{leb-true, ltb-false}
use Rattle.base_lists.specs.Lists.{keep, member}
use Rattle.base_lists.proofs.Bools.{bool_cases, clash}
use Rattle.base_lists.proofs.Keep.{keep-map, kept_member}
use Rattle.base_lists.proofs.Maps.{map-drop, map-take}
use Rattle.calendar_groups.specs.declared.Group.{Group}
use Rattle.calendar_groups.specs.declared.Group.TheVariants.{Weekday, Saturday, HolidayGroup}
use Rattle.method.specs.declared.Request.{Request}
use Rattle.method.specs.Table.{Day, History, held, event_bit, outage_bit}
use Rattle.method.specs.Eligible.{complete, eligible, spare, higher, sort_by}
use Rattle.method.specs.Relevant.{relevant_days}
use Rattle.method.specs.Method.{Method, days_of, seen, eligibles, spares, window, chosen}
use Rattle.method.specs.Adjustment.{Baseline, is_average}
use Rattle.method.specs.Rules.{Rules, method_by}
use Rattle.method.specs.HighXofY.{high_x_of_y}
use Rattle.method.specs.AverageXofY.{average_x_of_y, ranks_before, seven_days, averaged}
use Rattle.method.specs.Requested.{rules_of, method_of}
use Rattle.method_laws.proofs.Falling.{falling_keep}
use Rattle.method_laws.proofs.LookBack.{look_back_is}
use Rattle.method_laws.proofs.Requested.{lawful, relevant-look_back}
use Rattle.method_laws.proofs.Seen.{In, by, dated_days, window-seen}
use Rattle.method_laws.proofs.Sort.{length_sorted, member_sorted}
use Rattle.method_working.specs.Working.{by_rank}
use Rattle.method_working.proofs.Ranks.{times, Distinct, times-append, times-take, times-keep, times_sorted, falling_distinct}

-- ---- of a window of any size no more are passed over and taken than it has
within_high : (g : Group) (r : Request) (size : ℕ) → (high_x_of_y g r).passed size + (high_x_of_y g r).taken size ≤ size
unfolding high_x_of_y
within_high Weekday r size = ⊎_elim (λ t. rw t (omega arith)) (λ f. rw f (omega (arith, ltb-false size 5 f))) (bool_cases (ltb size 5))
within_high Saturday r size = ⊎_elim (λ t. rw t (omega arith)) (λ f. rw f (omega (arith, ltb-false size 2 f))) (bool_cases (ltb size 2))
within_high HolidayGroup r size = ⊎_elim (λ t. rw t (omega arith)) (λ f. rw f (omega (arith, ltb-false size 2 f))) (bool_cases (ltb size 2))

ranks_few : (size : ℕ) → ranks_before size ≤ size - 2
ranks_few size = go (leb 10 size) (leb 3 size) refl refl
  where
    go : (a b : Bool) → leb 10 size ≡ a → leb 3 size ≡ b → cond a 4 (cond b 1 0) ≤ size - 2
    go true b x y = omega (arith, leb-true 10 size x)
    go false true x y = omega (arith, leb-true 3 size y)
    go false false x y = omega arith

averaged_few : (g : Group) (r : Request) (size : ℕ) → averaged g r size ≤ min size 2
averaged_few g r size = by g
  where
    go_weekdays : (a b c : Bool) → leb 4 size ≡ a → leb 2 size ≡ b → cond (a || (b && c)) 2 0 ≤ min size 2
    go_weekdays true b c x y = omega (arith, leb-true 4 size x)
    go_weekdays false true true x y = omega (arith, leb-true 2 size y)
    go_weekdays false true false x y = omega arith
    go_weekdays false false c x y = omega arith

    go_others : (a b c : Bool) → leb 2 size ≡ a → leb 1 size ≡ b → cond a 2 (cond (b && c) 1 0) ≤ min size 2
    go_others true b c x y = omega (arith, leb-true 2 size x)
    go_others false true true x y = omega (arith, leb-true 1 size y)
    go_others false true false x y = omega arith
    go_others false false c x y = omega arith

    by : (g : Group) → averaged g r size ≤ min size 2
    by Weekday = go_weekdays (leb 4 size) (leb 2 size) (seven_days r) refl refl
    by Saturday = go_others (leb 2 size) (leb 1 size) (seven_days r) refl refl
    by HolidayGroup = go_others (leb 2 size) (leb 1 size) (seven_days r) refl refl

taken_within : (g : Group) (r : Request) (size : ℕ) → (rules_of g r).passed size + (rules_of g r).taken size ≤ size
unfolding rules_of average_x_of_y
taken_within g r size = go (is_average r)
  where
    its : Bool → Rules
    its b = cond b (average_x_of_y g r) (high_x_of_y g r)

    go : (b : Bool) → (its b).passed size + (its b).taken size ≤ size
    go true = omega (arith, ranks_few size, averaged_few g r size)
    go false = within_high g r size

-- ---- a day is not both eligible and spare
apart : (d : Day) → eligible d ≡ true → spare d ≡ false
unfolding eligible spare
apart d = go (complete d) (event_bit d.mark) (outage_bit d.mark)
  where
    go : (c e o : Bool) → (c && not e && not o) ≡ true → (c && e && not o) ≡ false
    go true true true t = refl
    go true true false t = absurd (clash t refl)
    go true false o t = refl
    go false e o t = refl

-- spares fill the window in an order that adds no day, whatever the method
times_ordered : (g : Group) (r : Request) (n : ℕ) (days : List (ℕ × Day)) → times n (days_of ((rules_of g r).order days)) ≡ times n (days_of days)
unfolding rules_of high_x_of_y average_x_of_y
times_ordered g r n days = go (is_average r)
  where
    go : (b : Bool) → times n (days_of ((cond b (average_x_of_y g r) (high_x_of_y g r)).order days)) ≡ times n (days_of days)
    go true = refl
    go false = times_sorted (higher r) (λ (p : ℕ × Day). p.0) n days

module _ (group : ℕ → Group) (r : Request) (h : History Day) where
  abbrev pub how : Method Day (Option Baseline)
  how = method_of group r

  -- the relevant days that are held
  abbrev near : List ℕ
  near = keep (held h) how.relevant

  near_once : Distinct near
  near_once = falling_distinct (falling_keep (held h) (lawful group r).falling)

  -- those of which a test holds
  kept_days : (q : Day → Bool) → days_of (keep (by q) (seen how h)) ≡ keep (λ d. q (h.day d)) near
  unfolding seen
  kept_days q =
      ap (λ (l : List (ℕ × Day)). days_of l) (keep-map (by q) (λ (d : ℕ). (d, h.day d)) near) ∙ dated_days h.day (keep (λ d. q (h.day d)) near)

  times_kept : (q : Day → Bool) (n : ℕ) → times n (days_of (keep (by q) (seen how h))) ≡ cond (q (h.day n)) (times n near) 0
  times_kept q n = ap (times n) (kept_days q) ∙ times-keep (λ d. q (h.day d)) n near

  times-eligibles : (n : ℕ) → times n (days_of (eligibles how h)) ≡ cond (eligible (h.day n)) (times n near) 0
  unfolding eligibles method_of method_by
  times-eligibles n = times_kept eligible n

  times-spares : (n : ℕ) → times n (days_of (spares how h)) ≡ cond (spare (h.day n)) (times n near) 0
  unfolding spares method_of method_by
  times-spares n = times_ordered (group r.event) r n (keep (by spare) (seen how h)) ∙ times_kept spare n

  fewer_taken : (n k : ℕ) (days : List (ℕ × Day)) → times n (days_of (take k days)) ≤ times n (days_of days)
  fewer_taken n k days = rw (map-take (λ (p : ℕ × Day). p.0) k days) (times-take n k (days_of days))

  window_once : Distinct (days_of (window how h))
  unfolding window
  window_once n =
      rw (map-append, times-append n (days_of (take how.most (eligibles how h))) (days_of (take filled (spares how h))))
      (go (eligible (h.day n)) (spare (h.day n)) (apart (h.day n)) (times-eligibles n) (times-spares n))
    where
      filled : ℕ
      filled = how.fill - length (eligibles how h)

      go : (a b : Bool) → (a ≡ true → b ≡ false) → times n (days_of (eligibles how h)) ≡ cond a (times n near) 0
          → times n (days_of (spares how h)) ≡ cond b (times n near) 0
          → times n (days_of (take how.most (eligibles how h))) + times n (days_of (take filled (spares how h))) ≤ 1
      go true true w x y = absurd (clash refl (w refl))
      go true false w x y =
          omega (arith, near_once n, x, y, fewer_taken n how.most (eligibles how h), fewer_taken n filled (spares how h))
      go false true w x y =
          omega (arith, near_once n, x, y, fewer_taken n how.most (eligibles how h), fewer_taken n filled (spares how h))
      go false false w x y = omega (arith, x, y, fewer_taken n how.most (eligibles how h), fewer_taken n filled (spares how h))

  -- by rank they are the same days
  pub ranked_once : Distinct (by_rank group r h)
  unfolding by_rank method_of method_by
  ranked_once n = rw (times_sorted (higher r) (λ (p : ℕ × Day). p.0) n (window how h)) (window_once n)

  pub ranked_size : length (by_rank group r h) ≡ length (window how h)
  unfolding by_rank method_of method_by
  ranked_size = length-map (sort_by (higher r) (window how h)) (λ (p : ℕ × Day). p.0) ∙ length_sorted (higher r) (window how h)

  -- "the 45 days D-45 to D-1"
  pub ranked_near : (d : ℕ) → member d (by_rank group r h) ≡ true → (d < r.event) × (r.event ≤ d + 45)
  unfolding by_rank seen method_of method_by
  ranked_near d m = (look_back_is r.event d).0 (relevant-look_back group r d (kept_member (held h) (relevant_days group r) d held_one))
    where
      in_window : In d (window how h)
      in_window = sym (member_sorted (higher r) (λ (p : ℕ × Day). p.0) d (window how h)) ∙ m

      held_one : member d near ≡ true
      held_one = rw (dated_days h.day near) at (window-seen how (lawful group r) h d in_window)

  abbrev pub passed : ℕ
  passed = how.passed (length (window how h))

  abbrev pub taken : ℕ
  taken = how.taken (length (window how h))

  pub enough : passed + taken ≤ length (by_rank group r h)
  unfolding method_of method_by
  enough = rw ranked_size (taken_within (group r.event) r (length (window how h)))

  -- the days chosen are a part of them, and as many as are taken
  pub chosen_part : days_of (chosen how h) ≡ take taken (drop passed (by_rank group r h))
  unfolding chosen by_rank
  chosen_part =
      map-take (λ (p : ℕ × Day). p.0) taken (drop passed (how.rank (window how h))) ∙
      ap (take taken) (map-drop (λ (p : ℕ × Day). p.0) passed (how.rank (window how h)))

  pub chosen_size : length (chosen how h) ≡ taken
  chosen_size =
      sym (length-map (chosen how h) (λ (p : ℕ × Day). p.0)) ∙ ap (λ (l : List ℕ). length l) chosen_part ∙
      omega (arith, length-take taken (drop passed (by_rank group r h)), length-drop passed (by_rank group r h), enough)
