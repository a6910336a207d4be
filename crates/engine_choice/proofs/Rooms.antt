-- A directory whose rooms say of the days before an event what a history holds gives the same outcome.
use Prim.Native.Nat.{ℕ, ◌+◌, ◌-◌, ◌≤◌, ◌<◌, min}
use mathlib.Core.Path.{◌≡◌, sym, ap, ◌∙◌}
use mathlib.Core.Bool.{Bool, true, false, ◌&&◌}
use mathlib.Core.List.{List}
use mathlib.Core.Logic.{⊎_elim}
use native.Mathlib.Omega.{arith}
use lib.ListN.{length}
use lib.Dec.{ltb}
use Rattle.base_lists.specs.Lists.{keep, any, member}
use Rattle.base_lists.proofs.Keep.{kept_member, map_same}
use Rattle.calendar_groups.specs.declared.Group.{Group}
use Rattle.method.specs.declared.Request.{Request}
use Rattle.method.specs.Table.{Day, History, held}
use Rattle.method.specs.Relevant.{days_before, relevant}
use Rattle.method.specs.Method.{Method, seen, eligibles, window, whole_reach, is_short, outcome}
use Rattle.method.specs.Rules.{method_by}
use Rattle.method.specs.Requested.{rules_of, method_of}
use Rattle.method_laws.proofs.LookBack.{days_before_is}
use Rattle.method.proofs.Histories.{held_first, held_last}
use Rattle.method_laws.proofs.Stable.{window_of_seen, outcome_same}
use Rattle.method_laws.proofs.Requested.{lawful}
use Rattle.base_lists.proofs.Bools.{bool_cases, same_test}
use Rattle.engine_rooms.specs.declared.Directory.{Directory}
use Rattle.engine_rooms.specs.Rooms.{held_rooms, room_history}
use Rattle.engine_rooms.specs.Agree.{Agree}
use Rattle.engine_rooms.proofs.Held.{event_held, event_not}
use Rattle.engine_look_back.specs.Steps.{nearest, rooms_of, rooms_before}
use Rattle.engine_look_back.proofs.Days.{seen-nearest}
use Rattle.engine_relevant.proofs.Reaching.{short_of_reach, reach_most}
use Rattle.engine_choice.proofs.WholeChoice.{before_first, not_after, seen_rooms}

-- two histories that show the same days, and both or neither of which begins after a relevant day
module _ {A O : Type 0} (m : Method A O) (h l : History A) (sees : seen m h ≡ seen m l)
    (begins : any (λ d. ltb d h.first) m.relevant ≡ any (λ d. ltb d l.first) m.relevant) where
  pub same_window : window m h ≡ window m l
  same_window = window_of_seen m l h sees

  pub same_short : is_short m h ≡ is_short m l
  unfolding is_short eligibles
  same_short i = ltb (length (keep (λ (p : ℕ × A). m.eligible p.1) (sees i))) m.most && begins i

module _ (test : ℕ → Bool) (r : Request) where
  -- days that hold the same are seen alike
  pub nearest_same : (f g : ℕ → Day) (k : ℕ) → ((i : ℕ) → i ≤ k → f (r.event - i) ≡ g (r.event - i)) → nearest test r f k ≡ nearest test r g k
  unfolding nearest
  nearest_same f g k same =
      map_same {B = ℕ × Day} (λ d. (d, f d)) (λ d. (d, g d)) (keep test (days_before k r.event)) each
    where
      each : (d : ℕ) → member d (keep test (days_before k r.event)) ≡ true → ◌≡◌ {A = ℕ × Day} (d, f d) (d, g d)
      each d m =
          let i = (days_before_is k r.event d).0 (kept_member test (days_before k r.event) d m) in
          let e : r.event - (r.event - d) ≡ d = omega arith in
          let o : r.event - d ≤ k = omega arith in
          ap (λ (x : Day). (d, x)) (rw e at (same (r.event - d) o))

width_before : (r : Request) (rooms : Directory) (first : ℕ) → first ≤ r.event → rooms.held ≡ min 46 (r.event + 1 - first)
    → rooms_before r rooms ≡ min 45 (r.event - first)
unfolding rooms_before held_rooms
width_before r rooms first o e = rw e (least r.event first o)
  where
    least : (event first : ℕ) → first ≤ event → min (min 46 (event + 1 - first)) (min 45 event + 1) - 1 ≡ min 45 (event - first)
    least event first o =
        let k : event + 1 - first ≡ event - first + 1 = omega arith in
        rw k (omega arith)

module _ (group : ℕ → Group) {r : Request} {rooms : Directory} {readings : List ℕ} {h : History Day} (agree : Agree r rooms readings h) where
  -- the event day is held in the rooms where it is in the history
  pub rooms-held : held (room_history r rooms readings) r.event ≡ held h r.event
  rooms-held = ⊎_elim (λ e. some e ∙ sym e) (λ e. none e ∙ sym e) (bool_cases (held h r.event))
    where
      some : held h r.event ≡ true → held (room_history r rooms readings) r.event ≡ true
      some e = event_held r rooms readings (λ n. omega (arith, rw e at agree.width, held_first h r.event e))

      none : held h r.event ≡ false → held (room_history r rooms readings) r.event ≡ false
      none e = event_not r rooms readings (rw e at agree.width)

  module _ (holds : held h r.event ≡ true) where
    width_is : rooms.held ≡ min 46 (r.event + 1 - h.first)
    width_is = rw holds at agree.width

    before_is : rooms_before r rooms ≡ min 45 (r.event - h.first)
    before_is = width_before r rooms h.first (held_first h r.event holds) width_is

    pub same_day : (i : ℕ) → i ≤ r.event - h.first → i ≤ 45 → rooms_of r rooms readings (r.event - i) ≡ h.day (r.event - i)
    same_day i o w =
        let e : r.event - (r.event - i) ≡ i = omega arith in
        rw e (agree.days i (omega (arith, width_is, held_first h r.event holds)))

    pub rooms_seen : seen (method_of group r) (room_history r rooms readings) ≡ seen (method_of group r) h
    unfolding method_of
    rooms_seen =
        seen_rooms group r rooms readings (rules_of (group r.event) r) ∙ ap (nearest (relevant group r) r (rooms_of r rooms readings)) before_is
        ∙ nearest_same (relevant group r) r (rooms_of r rooms readings) h.day (min 45 (r.event - h.first)) (λ i o. same_day i (omega arith) (omega arith))
        ∙ sym (seen-nearest group r h (rules_of (group r.event) r) (omega (arith, held_last h r.event holds)))

    pub rooms_begin : any (λ d. ltb d (room_history r rooms readings).first) (method_of group r).relevant ≡ any (λ d. ltb d h.first) (method_of group r).relevant
    rooms_begin =
        short_of_reach group r (room_history r rooms readings).first (not_after r rooms readings)
        ∙ rw (before_first r rooms readings, before_is)
        (within (whole_reach (method_of group r)) (reach_most group r))
        ∙ sym (short_of_reach group r h.first (omega (arith, held_first h r.event holds)))
      where
        within : (far : ℕ) → far ≤ 45 → ltb (min 45 (r.event - h.first)) far ≡ ltb (r.event - h.first) far
        within far o = same_test (min 45 (r.event - h.first)) far (r.event - h.first) far (omega arith) (omega arith)

    pub rooms_outcome : outcome (method_of group r) (room_history r rooms readings) ≡ outcome (method_of group r) h
    unfolding method_of method_by
    rooms_outcome =
        outcome_same (method_of group r) (lawful group r) h holds (room_history r rooms readings)
        (same_short (method_of group r) (room_history r rooms readings) h rooms_seen rooms_begin)
        (same_window (method_of group r) (room_history r rooms readings) h rooms_seen rooms_begin)
        (λ days some e. rw (yesterday some e, today))
      where
        today : (room_history r rooms readings).day r.event ≡ h.day r.event
        today = unfold room_history in let e : r.event - 0 ≡ r.event = omega arith in rw e at (same_day 0 (omega arith) (omega arith))

        yesterday : 0 < r.event → held h (r.event - 1) ≡ true → (room_history r rooms readings).day (r.event - 1) ≡ h.day (r.event - 1)
        yesterday some e = unfold room_history in same_day 1 (omega (arith, held_first h (r.event - 1) e)) (omega arith)
