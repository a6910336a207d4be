-- How large the numbers of a verdict get, over readings of 32 bits.
use Prim.Native.Nat.{ℕ, ◌-◌, ◌*◌, ◌^◌, ◌≤◌, ◌<◌}
use mathlib.Core.Path.{◌≡◌, refl, ◌∙◌}
use mathlib.Core.Bool.{Bool, true, false, cond, ◌&&◌}
use mathlib.Core.List.{List, [], ◌∷◌, map}
use mathlib.Core.Option.{Option, none, some}
use native.Mathlib.Omega.{arith}
use native.Mathlib.Nat.{mul-suc, mul-le-mul_right}
use lib.ListN.{length, drop, get_or}
use lib.Dec.{ltb, eqb}
use lib.IntN.{ℤ, pos}
use lib.Signed.{mag}
use borrow.Author.Tests.{le-leb, lt-ltb, leb-true, ltb-true}
use Rattle.base_lists.specs.Lists.{all, leading, sum_of, keep, member, least_of, places}
use Rattle.base_lists.proofs.Bools.{both}
use Rattle.base_lists.proofs.All.{all-append, all-take, all-drop, all_at}
use Rattle.base_lists.proofs.Keep.{all-keep, all_mapped, kept_member}
use Rattle.base_lists.proofs.Leading.{leading_most}
use Rattle.calendar_groups.specs.Holidays.{group}
use Rattle.calendar_groups.specs.declared.Group.{Group}
use Rattle.method.specs.declared.Request.{Request}
use Rattle.method.specs.declared.Refusal.{Refusal}
use Rattle.method.specs.Table.{Table, most_quarters, Day, History, history, day_of, held, size, offset, good_mark, good_reading}
use Rattle.method.specs.Ruler.{against}
use Rattle.method.specs.Relevant.{relevant_days}
use Rattle.method.specs.Method.{Method, short, few, chose, days_of, seen, eligibles, spares, window, chosen, reach, whole_reach, is_short, outcome}
use Rattle.method.specs.Adjustment.{ruler, adjustment_end, S, A, B, adjustment, adjusting, is_average, adjusting_by, Baseline, baseline_at, baseline_by, baseline}
use Rattle.method.specs.Eligible.{eligible, spare, higher, sort_by}
use Rattle.method.specs.HighXofY.{high_x_of_y}
use Rattle.method.specs.AverageXofY.{average_x_of_y}
use Rattle.method.specs.Rules.{method_by}
use Rattle.method.specs.Requested.{rules_of, method_of}
use Rattle.method.specs.Verdict.{Answer, Reply, refused, answered, carries, table_refusals, request_refusals, list_refusals, closing, first_of, methodology, by_list, verdict}
use Rattle.method_laws.proofs.LookBack.{look_back_is}
use Rattle.method_laws.proofs.Requested.{relevant-look_back}
use Rattle.method_laws.proofs.Sort.{all_sorted}
use Rattle.base_lists.proofs.Places.{length-places}
use Rattle.engine_choice.proofs.Requested.{window_ten, chosen_five}
use Rattle.engine_numerators.proofs.Signed.{mag_difference}
use Rattle.engine_numerators.proofs.Windows.{small, ruler_most}

either_less : (x : Bool) (d a b : ℕ) → cond x (d - a) (d - b) ≤ d
either_less true d a b = omega arith
either_less false d a b = omega arith

sum_of_each : (f : ℕ → ℕ) (b : ℕ) → ((q : ℕ) → f q ≤ b) → (qs : List ℕ) → sum_of (map f qs) ≤ b * length qs
unfolding sum_of
sum_of_each f b h [] = omega arith
sum_of_each f b h (q ∷ qs) = omega (arith, h q, sum_of_each f b h qs, mul-suc b (length qs))

-- ---- days before `event` with readings of 32 bits
module _ (event : ℕ) where
  abbrev near : ℕ × Day → Bool
  near p = ltb p.0 event && all small p.1.readings

  days_small : event ≤ 65535 → (l : List (ℕ × Day)) → all near l ≡ true → all small (days_of l) ≡ true
  unfolding all
  days_small h [] e = refl
  days_small h (p ∷ l) e =
      let k = both (near p) (all near l) e in
      let o : p.0 ≤ 4294967295 = omega (arith, ltb-true p.0 event (both (ltb p.0 event) (all small p.1.readings) k.0).0) in
      rw (le-leb p.0 4294967295 o) (days_small h l k.1)

  S_most : (l : List (ℕ × Day)) (t : ℕ) → all near l ≡ true → S event l t ≤ 4294967295 * length l
  unfolding S sum_of all
  S_most [] t e = omega arith
  S_most (p ∷ l) t e =
      let k = both (near p) (all near l) e in
      let rs = (both (ltb p.0 event) (all small p.1.readings) k.0).1 in
      omega (arith, leb-true (get_or p.1.readings (against event t) 0) 4294967295 (all_at small 0 refl p.1.readings rs (against event t)), S_most l t k.1)

-- ---- a verdict
pub record NearAnswer (a : Answer) : Type 0 where
  pub days : all small a.days ≡ true
  pub reach : a.reach ≤ 4294967295
  pub denominator : a.denominator ≤ 60
  pub adjusted : mag a.adjusted < 2 ^ 63

abbrev pub Near : Reply → Type 0
Near (refused w) = all small (carries w) ≡ true
Near (answered a) = NearAnswer a

carry_small : Bool × Refusal → Bool
carry_small t = all small (carries t.1)

one_near : (x : Bool) (w : Refusal) (later : Reply) → all small (carries w) ≡ true → Near later → Near (cond x (refused w) later)
one_near true w later e n = e
one_near false w later e n = n

first_near : (ts : List (Bool × Refusal)) (reply : Reply) → all carry_small ts ≡ true → Near reply → Near (first_of ts reply)
unfolding first_of all carry_small
first_near [] reply e n = n
first_near (t ∷ ts) reply e n =
    let k = both (carry_small t) (all carry_small ts) e in
    one_near t.0 t.1 (first_of ts reply) k.0 (first_near ts reply k.1 n)

one_small : (n : ℕ) → n ≤ 4294967295 → all small (n ∷ []) ≡ true
unfolding all
one_small n h = rw (le-leb n 4294967295 h)

two_small : (m n : ℕ) → m ≤ 4294967295 → n ≤ 4294967295 → all small (m ∷ n ∷ []) ≡ true
unfolding all
two_small m n h k = rw (le-leb m 4294967295 h, le-leb n 4294967295 k)

module _ (moves : List ℕ) (t : Table) (r : Request) (few_marks : length t.marks ≤ 128) (few_readings : length t.readings ≤ most_quarters * 128)
    (good : all small t.readings ≡ true) (early : r.event ≤ 65535) where
  abbrev how : Method Day (Option Baseline)
  how = method_of (group moves) r

  abbrev h : History Day
  h = history t

  abbrev g : Group
  g = group moves r.event

  day_small : (d : ℕ) → all small (day_of t d).readings ≡ true
  unfolding day_of
  day_small d = all-take small (size d) (drop (offset t.first (d - t.first)) t.readings) (all-drop small (offset t.first (d - t.first)) t.readings good)

  seen-near : all (near r.event) (seen how h) ≡ true
  unfolding seen method_of method_by
  seen-near = all_mapped (near r.event) (λ d. (d, day_of t d)) (keep (held h) (relevant_days (group moves) r)) each
    where
      each : (d : ℕ) → member d (keep (held h) (relevant_days (group moves) r)) ≡ true → near r.event (d, day_of t d) ≡ true
      each d m =
          let before = ((look_back_is r.event d).0 (relevant-look_back (group moves) r d (kept_member (held h) (relevant_days (group moves) r) d m))).0 in
          rw (lt-ltb d r.event before, day_small d)

  -- the order of spares adds none, by either method
  ordered_near : (days : List (ℕ × Day)) → all (near r.event) days ≡ true → all (near r.event) ((rules_of g r).order days) ≡ true
  unfolding rules_of high_x_of_y average_x_of_y
  ordered_near days e = go (is_average r)
    where
      go : (b : Bool) → all (near r.event) ((cond b (average_x_of_y g r) (high_x_of_y g r)).order days) ≡ true
      go true = e
      go false = all_sorted (higher r) (near r.event) days ∙ e

  window-near : all (near r.event) (window how h) ≡ true
  unfolding window eligibles spares method_of method_by
  window-near =
      let kept = all-keep (near r.event) (λ (p : ℕ × Day). eligible p.1) (seen how h) seen-near in
      let spare_days = keep (λ (p : ℕ × Day). spare p.1) (seen how h) in
      let ordered = ordered_near spare_days (all-keep (near r.event) (λ (p : ℕ × Day). spare p.1) (seen how h) seen-near) in
      rw (
        all-append,
        all-take (near r.event) how.most (eligibles how h) kept,
        all-take (near r.event) (how.fill - length (eligibles how h)) (spares how h) ordered,
      )

  chosen-near : all (near r.event) (chosen how h) ≡ true
  unfolding chosen method_of method_by
  chosen-near =
      let size = length (window how h) in
      all-take (near r.event) (how.taken size) (drop (how.passed size) (sort_by (higher r) (window how h)))
      (all-drop (near r.event) (how.passed size) (sort_by (higher r) (window how h)) (all_sorted (higher r) (near r.event) (window how h) ∙ window-near))

  chosen-few : length (chosen how h) ≤ 5
  chosen-few = chosen_five (group moves) r h

  whole_small : whole_reach how ≤ 4294967295
  unfolding whole_reach method_of method_by
  whole_small = omega arith

  reach-small : reach how h ≤ 4294967295
  unfolding reach whole_reach method_of method_by
  reach-small =
      omega (
        arith,
        either_less (eqb (length (window how h)) how.most) r.event (least_of r.event (days_of (window how h)))
            (least_of r.event (relevant_days (group moves) r)),
      )

  abbrev yesterday : Day
  yesterday = day_of t (r.event - 1)

  abbrev today : Day
  today = day_of t r.event

  abbrev end : ℕ
  end = adjustment_end r (ruler yesterday today)

  abbrev adj : ℤ
  adj = adjustment (length (chosen how h)) (A (ruler yesterday today) end) (B r.event (chosen how h) end)

  adjusted_small : mag adj < 2 ^ 63
  unfolding B
  adjusted_small =
      let own = ruler_most yesterday.readings today.readings end (day_small (r.event - 1)) (day_small r.event) in
      let each : (q : ℕ) → S r.event (chosen how h) q ≤ 4294967295 * length (chosen how h) = λ q. S_most r.event (chosen how h) q chosen-near in
      let sums = sum_of_each (S r.event (chosen how h)) (4294967295 * length (chosen how h)) each (places 12 (end - 12)) in
      mag_difference (length (chosen how h) * A (ruler yesterday today) end) (B r.event (chosen how h) end) (2 ^ 63)
      (omega (arith, mul-le-mul_right (A (ruler yesterday today) end) chosen-few, own))
      (omega (arith, chosen-few, rw length-places at sums))

  parts_most : (b : Bool) (n : ℕ) → n ≤ 5 → cond b 1 12 * n ≤ 60
  parts_most true n e = omega arith
  parts_most false n e = omega arith

  answer_near : (x : ℤ) → mag x < 2 ^ 63 → Near (closing (chose (days_of (chosen how h)) (reach how h) (some (baseline_at r (chosen how h) x))))
  unfolding closing baseline_at
  answer_near x e =
      record {
        days = days_small r.event early (chosen how h) chosen-near;
        reach = reach-small;
        denominator = parts_most (is_average r) (length (chosen how h)) chosen-few;
        adjusted = e;
      }

  closing-near : Near (closing (outcome how h))
  unfolding closing outcome method_of method_by baseline adjusting_by adjusting
  closing-near = go (is_short how h) (eqb (how.taken (length (window how h))) 0) (is_average r) (eqb end 0)
    where
      go : (x y v z : Bool) → Near (closing (cond x (short (whole_reach how)) (cond y (few (length (window how h)) (reach how h))
          (chose (days_of (chosen how h)) (reach how h) (baseline_by r (chosen how h) (cond v (some (pos 0)) (cond z none (some adj))))))))
      go true y v z = one_small (whole_reach how) whole_small
      go false true v z = two_small (length (window how h)) (reach how h) (omega (arith, window_ten (group moves) r h)) reach-small
      go false false true z = answer_near (pos 0) (omega arith)
      go false false false true = one_small (reach how h) reach-small
      go false false false false = answer_near adj adjusted_small

  table_small : all carry_small (table_refusals t) ≡ true
  unfolding table_refusals all carry_small
  table_small =
      let mark : leading good_mark t.marks ≤ 4294967295 = omega (arith, leading_most good_mark t.marks) in
      let reading : leading good_reading t.readings ≤ 4294967295 = omega (arith, leading_most good_reading t.readings) in
      rw (le-leb (leading good_mark t.marks) 4294967295 mark, le-leb (leading good_reading t.readings) 4294967295 reading)

  request_small : (room : ℕ) → all carry_small (request_refusals (history t) r room) ≡ true
  unfolding request_refusals all carry_small
  request_small room = refl

  list_small : all carry_small (list_refusals moves) ≡ true
  unfolding list_refusals all carry_small
  list_small = refl

  by_near : (room : ℕ) → Near (by_list moves (history t) r room)
  unfolding by_list methodology
  by_near room = first_near (list_refusals moves) _ list_small (first_near (request_refusals (history t) r room) _ (request_small room) closing-near)

  pub verdict-near : (room : ℕ) → Near (verdict moves t r room)
  unfolding verdict
  verdict-near room = first_near (table_refusals t) _ table_small (by_near room)
