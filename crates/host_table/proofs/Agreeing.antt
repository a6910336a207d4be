-- Rooms that agree with a history have the same working.
use Prim.Native.Nat.{ℕ, ◌+◌, ◌-◌, ◌≤◌, ◌<◌, min}
use mathlib.Core.Path.{◌≡◌, refl, sym, ap, ap₂, ◌∙◌}
use mathlib.Core.Bool.{Bool, true, false, not, cond, ◌&&◌, ◌||◌}
use mathlib.Core.List.{List, [], ◌∷◌, ◌++◌}
use mathlib.Core.Logic.{⊎_elim}
use mathlib.Core.Option.{Option, none, some}
use native.Mathlib.Omega.{arith}
use borrow.Author.Tests.{not-true, leb-true, le-leb, lt-leb, lt-ltb}
use lib.ListN.{length}
use lib.Dec.{leb, ltb, eqb}
use lib.IntN.{ℤ}
use Rattle.base_lists.specs.Lists.{all}
use Rattle.base_lists.proofs.Bools.{bool_cases, clash, and_left, and_right, lt-or-le}
use Rattle.calendar_groups.specs.declared.Group.{Group}
use Rattle.method.specs.declared.Request.{Request}
use Rattle.method.specs.Table.{Day, History, held, present}
use Rattle.method.specs.Ruler.{ruler_end}
use Rattle.method.specs.Relevant.{group_number}
use Rattle.method.specs.Eligible.{event_sum}
use Rattle.method.specs.Adjustment.{Baseline, ruler, adjustment_end, is_average, S, A, B}
use Rattle.method.specs.Rules.{method_by}
use Rattle.method.specs.Method.{Method, window, is_short, chosen}
use Rattle.method.specs.Requested.{method_of}
use Rattle.method.proofs.Histories.{held_first, held_last, is_held}
use Rattle.method_laws.proofs.Requested.{lawful}
use Rattle.method_laws.proofs.Stable.{yesterday_held}
use Rattle.method_working.specs.declared.Reason.TheVariants.{NotHeld}
use Rattle.method_working.specs.Working.{reason_of, reason, event_quarters, summed, by_rank, rank, is_chosen, chooses, along, ends, adjusts, answers}
use Rattle.method_working.specs.Sheet.{sheet_of, adjustment_shown, numerator_shown}
use Rattle.engine_rooms.specs.declared.Directory.{Directory}
use Rattle.engine_rooms.specs.Rooms.{held_rooms, room_history}
use Rattle.engine_rooms.specs.Agree.{Agree}
use Rattle.engine_choice.proofs.Rooms.{same_window, same_short, same_day, rooms_seen, rooms_begin}
use Rattle.std.specs.Prelude.{Option as Perhaps, Some}
use Rattle.host_answer.specs.Names.{told, told_if, row_from}
use Rattle.host_working.specs.Told.{reason_number, told_of, as_number, window_numbers, adjustment_numbers, day_numbers, quarter_numbers, working_row}

-- a number is told alike where the tests are the same, and the numbers are where they hold
told_same : {b c : Bool} {x y : Perhaps ℤ} → b ≡ c → (c ≡ true → x ≡ y) → told_if b x ≡ told_if c y
told_same {b} {c} {x} {y} e f = ap (λ (d : Bool). told_if d x) e ∙ go c f
  where
    go : (d : Bool) → (d ≡ true → x ≡ y) → told_if d x ≡ told_if d y
    go true g = g refl
    go false g = refl

module _ (group : ℕ → Group) {r : Request} {rooms : Directory} {readings : List ℕ} {h : History Day} (agree : Agree r rooms readings h)
    (holds : held h r.event ≡ true) where
  abbrev shown : History Day
  shown = room_history r rooms readings

  abbrev how : Method Day (Option Baseline)
  how = method_of group r

  windows : window how shown ≡ window how h
  windows = same_window how shown h (rooms_seen group agree holds) (rooms_begin group agree holds)

  shorts : is_short how shown ≡ is_short how h
  shorts = same_short how shown h (rooms_seen group agree holds) (rooms_begin group agree holds)

  chosens : chosen how shown ≡ chosen how h
  unfolding chosen
  chosens = rw windows

  choosings : chooses group r shown ≡ chooses group r h
  unfolding chooses
  choosings = rw (shorts, windows)

  ranked : by_rank group r shown ≡ by_rank group r h
  unfolding by_rank
  ranked = rw windows

  -- a day of the look-back is held in the rooms where it is in the history, and holds the same there
  width_is : rooms.held ≡ min 46 (r.event + 1 - h.first)
  width_is = rw holds at agree.width

  module _ (back : ℕ) (most : back ≤ 45) (within : back ≤ r.event) where
    held_there : held shown (r.event - back) ≡ held h (r.event - back)
    held_there = ⊎_elim (λ e. some e ∙ sym e) (λ e. none e ∙ sym e) (bool_cases (held h (r.event - back)))
      where
        first_is : shown.first ≡ r.event + 1 - held_rooms r rooms
        first_is = unfold room_history in refl

        count_is : shown.count ≡ held_rooms r rooms
        count_is = unfold room_history in refl

        wide : held_rooms r rooms ≡ min (min 46 (r.event + 1 - h.first)) (min 45 r.event + 1)
        wide = unfold held_rooms in ap (λ n. min n (min 45 r.event + 1)) width_is

        first_held : h.first ≤ r.event
        first_held = held_first h r.event holds

        some : held h (r.event - back) ≡ true → held shown (r.event - back) ≡ true
        some e =
            let f = held_first h (r.event - back) e in
            is_held shown (r.event - back) (omega (arith, first_is, wide, first_held)) (omega (arith, first_is, count_is, wide, first_held))

        none : held h (r.event - back) ≡ false → held shown (r.event - back) ≡ false
        none e =
            ⊎_elim
            (λ (t : held shown (r.event - back) ≡ true).
            absurd (clash (is_held h (r.event - back) (omega (arith, held_first shown (r.event - back) t, first_is, wide, first_held))
            (omega (arith, held_last h r.event holds))) e))
            (λ (f : held shown (r.event - back) ≡ false). f) (bool_cases (held shown (r.event - back)))

    day_there : held h (r.event - back) ≡ true → shown.day (r.event - back) ≡ h.day (r.event - back)
    unfolding room_history
    day_there e = same_day group agree holds back (omega (arith, held_first h (r.event - back) e)) most

    held_same : cond (not (held shown (r.event - back))) NotHeld (reason_of (shown.day (r.event - back)))
        ≡ cond (not (held h (r.event - back))) NotHeld (reason_of (h.day (r.event - back)))
    held_same = rw held_there (go (held h (r.event - back)) refl)
      where
        go : (b : Bool) → held h (r.event - back) ≡ b
            → cond (not b) NotHeld (reason_of (shown.day (r.event - back))) ≡ cond (not b) NotHeld (reason_of (h.day (r.event - back)))
        go true e = ap reason_of (day_there e)
        go false e = refl

    reasons_within : reason group r shown back ≡ reason group r h back
    unfolding reason
    reasons_within = rw held_same

    sums_within : summed r shown back ≡ summed r h back
    unfolding summed
    sums_within = rw (le-leb back r.event within, held_there) (go (held h (r.event - back)) refl)
      where
        sum : Bool → Day → Option ℕ
        sum b day = cond (b && all present (event_quarters r day)) (some (event_sum r day)) none

        go : (b : Bool) → held h (r.event - back) ≡ b → sum b (shown.day (r.event - back)) ≡ sum b (h.day (r.event - back))
        go true e = ap (sum true) (day_there e)
        go false e = refl

  -- and a day below 0 has neither readings nor another reason
  module _ (back : ℕ) (most : back ≤ 45) where
    reasons : reason group r shown back ≡ reason group r h back
    unfolding reason
    reasons = ⊎_elim early (reasons_within back most) (lt-or-le r.event back)
      where
        early : r.event < back → reason group r shown back ≡ reason group r h back
        early o = let e : ltb r.event back ≡ true = lt-ltb r.event back o in rw e

    sums : summed r shown back ≡ summed r h back
    unfolding summed
    sums = ⊎_elim early (sums_within back most) (lt-or-le r.event back)
      where
        early : r.event < back → summed r shown back ≡ summed r h back
        early o = let e : leb back r.event ≡ false = lt-leb back r.event o in rw e

  ranks : (back : ℕ) → rank group r shown back ≡ rank group r h back
  unfolding rank
  ranks back = rw ranked

  choices : (back : ℕ) → is_chosen group r shown back ≡ is_chosen group r h back
  unfolding is_chosen
  choices back = rw chosens

  -- where days are chosen D-1 is held, and the ruler is the same
  module _ (some_chosen : chooses group r h ≡ true) where
    before : (0 < r.event) × (held h (r.event - 1) ≡ true)
    unfolding chooses method_of method_by
    before =
        yesterday_held how (lawful group r) h holds
        (not-true (eqb (how.taken (length (window how h))) 0) (and_right (not (is_short how h)) (not (eqb (how.taken (length (window how h))) 0)) some_chosen))

    rulers : along r shown ≡ along r h
    rulers =
        let zero_back : r.event - 0 ≡ r.event = omega arith in
        ap₂ ruler (day_there 1 (omega arith) (omega (arith, before.0)) before.1) (rw zero_back at (day_there 0 (omega arith) (omega arith) (rw zero_back holds)))

    ends_same : ends r shown ≡ ends r h
    unfolding ends
    ends_same = ap (adjustment_end r) rulers

    numerators : (t : ℕ) → numerator_shown r (sheet_of group r shown) t ≡ numerator_shown r (sheet_of group r h) t
    unfolding numerator_shown adjustment_shown sheet_of
    numerators t = rw (windows, chosens, rulers, ends_same)

  adjustings : adjusts group r shown ≡ adjusts group r h
  unfolding adjusts
  adjustings = rw choosings (go (chooses group r h) refl)
    where
      go : (b : Bool) → chooses group r h ≡ b
          → (b && not (is_average r) && not (eqb (ends r shown) 0)) ≡ (b && not (is_average r) && not (eqb (ends r h) 0))
      go true e = rw (ends_same e)
      go false e = refl

  answerings : answers group r shown ≡ answers group r h
  unfolding answers
  answerings = rw choosings (go (chooses group r h) refl)
    where
      go : (b : Bool) → chooses group r h ≡ b
          → (b && (is_average r || not (eqb (ends r shown) 0))) ≡ (b && (is_average r || not (eqb (ends r h) 0)))
      go true e = rw (ends_same e)
      go false e = refl

  adjusts-chooses : adjusts group r h ≡ true → chooses group r h ≡ true
  unfolding adjusts
  adjusts-chooses e = and_left (chooses group r h) (not (is_average r)) (and_left (chooses group r h && not (is_average r)) (not (eqb (ends r h) 0)) e)

  answers-chooses : answers group r h ≡ true → chooses group r h ≡ true
  unfolding answers
  answers-chooses e = and_left (chooses group r h) (is_average r || not (eqb (ends r h) 0)) e

  -- ---- the rows
  of_window : window_numbers group r shown ≡ window_numbers group r h
  unfolding window_numbers
  of_window =
      λ i. told (group_number (group r.event)) ∷ told how.most ∷
      told_if (not (shorts i)) (told (length (windows i))) ∷ told_if (not (shorts i)) (told (how.passed (length (windows i)))) ∷
      told_if (not (shorts i)) (told (how.taken (length (windows i)))) ∷ []

  of_adjustment : adjustment_numbers group r shown ≡ adjustment_numbers group r h
  unfolding adjustment_numbers
  of_adjustment =
      λ i. told_same adjustings (λ e. ap told (ends_same (adjusts-chooses e))) i ∷
      told_same adjustings (λ e. ap₂ (λ l n. told (A l n)) (rulers (adjusts-chooses e)) (ends_same (adjusts-chooses e))) i ∷
      told_same adjustings (λ e. ap₂ (λ l n. told (B r.event l n)) chosens (ends_same (adjusts-chooses e))) i ∷ []

  of_day : (back : ℕ) → day_numbers group r shown back ≡ day_numbers group r h back
  unfolding day_numbers
  of_day back =
      λ i. told_if ((leb 1 back && leb back 45) && leb back r.event) (told (r.event - back)) ∷
      told_if ((leb 1 back && leb back 45) && leb back r.event) (told (group_number (group (r.event - back)))) ∷
      told_same refl (λ e. ap (λ x. told (reason_number x)) (reasons back (most e))) i ∷ told_same refl (λ e. ap told_of (sums back (most e))) i ∷
      told_if ((leb 1 back && leb back 45) && not (shorts i)) (told (ranks back i)) ∷ told_if ((leb 1 back && leb back 45) && not (shorts i)) (Some (as_number (choices back i))) ∷ []
    where
      most : (leb 1 back && leb back 45) ≡ true → back ≤ 45
      most e = leb-true back 45 (and_right (leb 1 back) (leb back 45) e)

  of_quarter : (t : ℕ) → quarter_numbers group r shown t ≡ quarter_numbers group r h t
  unfolding quarter_numbers
  of_quarter t =
      λ i. told_if (choosings i && ltb t (ruler_end r.event)) (told (S r.event (chosens i) t)) ∷
      told_same (ap (λ b. b && leb r.s t && ltb t r.e) answerings)
      (λ e. ap Some (numerators (answers-chooses (and_left (answers group r h) (leb r.s t) (and_left (answers group r h && leb r.s t) (ltb t r.e) e))) t)) i ∷ []

  pub same_working : (at : ℕ) → working_row group r shown at ≡ working_row group r h at
  unfolding working_row
  same_working at = λ i. row_from 25 (of_window i ++ of_adjustment i ++ of_day at i ++ of_quarter at i)
