-- The refusals of an event whatever days are held, and what is told of it: one law for each way out of the code.
use Prim.Native.Nat.{ℕ, ◌-◌, ◌≤◌, min}
use mathlib.Core.Path.{◌≡◌, refl, sym, ap, ◌∙◌}
use mathlib.Core.Bool.{Bool, true, false, not, cond, ◌||◌}
use mathlib.Core.List.{List, [], ◌∷◌}
use native.Mathlib.Omega.{arith}
use borrow.Author.Tests.{le-ltb}
use lib.Dec.{ltb}
use lib.IntN.{ℤ}
use Rattle.std.specs.Prelude.{Option, Some, None, Result, Ok, Err}
use Rattle.std.specs.List.{reduce, filter_map}
use Rattle.base_lists.specs.Lists.{any}
use Rattle.calendar_groups.specs.Holidays.{good_moves}
use Rattle.method.specs.declared.Request.{Request}
use Rattle.method.specs.declared.Refusal.{Refusal}
use Rattle.method.specs.declared.Refusal.TheVariants.{BadMoves, BadRequest, NotYetParticipating, NoRoom}
use Rattle.method.specs.Table.{Day, History, held, most_quarters}
use Rattle.method.specs.Method.{whole_reach}
use Rattle.method.specs.Rules.{method_by}
use Rattle.method.specs.Requested.{method_of}
use Rattle.method.specs.Verdict.{good_request, request_refusals, list_refusals}
use Rattle.method.proofs.Ruler.{day_most}
use Rattle.engine_refusals.specs.Steps.{tested}
use Rattle.engine_refusals.proofs.FirstRefusal.{passed_next, good_request_lem}
use Rattle.file_record.specs.declared.Shape.{Shape}
use Rattle.file_record.specs.Reader.{list_in, read_file}
use Rattle.file_record.specs.Steps.{table_within, event_within}
use Rattle.file_record.proofs.Events.{within_is}
use Rattle.file_record.proofs.Lengths.{table_within_lem}
use Rattle.file_days.specs.Steps.{holds_day}
use Rattle.file_days.proofs.Days.{holding_is}
use Rattle.host_answer.specs.Names.{by_name, refusal_row, row_from, row_after}
use Rattle.host_answer.proofs.Refused.{row_passed, row_failed}
use Rattle.host_overlap.specs.Overlap.{overlap_tests, enough_days, numbers_of, overlap_numbers, row_at, overlap_row, is_asked, cut_from}
use Rattle.host_overlap.specs.Steps.{needed, needed_there}

-- refusals tested one after the other: whether one applies, and what is told after them
abbrev test : Bool × Refusal → Bool
test p = p.0

none_applies : (ts : List (Bool × Refusal)) → tested ts ≡ Ok tt → any test ts ≡ false
unfolding any
none_applies [] e = refl
none_applies (t ∷ ts) e = let w = passed_next t.0 t.1 ts e in rw w.0 (none_applies ts w.1)

one_applies : (ts : List (Bool × Refusal)) (w : Refusal) → tested ts ≡ Err w → any test ts ≡ true
unfolding any tested
one_applies [] w e = absurd (let z : ◌≡◌ {A = ℕ} 0 1 = cc in omega arith)
one_applies (t ∷ ts) w e = go t.0 e (one_applies ts w)
  where
    go : (b : Bool) → ◌≡◌ {A = Result (Unit {0}) Refusal} (cond b (Err t.1) (tested ts)) (Err w) → (tested ts ≡ Err w → any test ts ≡ true) → (b || any test ts) ≡ true
    go true e f = refl
    go false e f = f e

module _ (moves : List ℕ) (r : Request) where
  pub bad_list : good_moves moves ≡ false → ◌≡◌ {A = Result (Unit {0}) Refusal} (Err BadMoves) (tested (overlap_tests moves r))
  unfolding overlap_tests list_refusals tested
  bad_list e = rw e

  -- where the event day is held and there is room for any event, 4 and 6 are left of 4 to 7
  pub good_list : (h : History Day) → good_moves moves ≡ true → held h r.event ≡ true → tested (request_refusals h r most_quarters) ≡ tested (overlap_tests moves r)
  unfolding overlap_tests list_refusals request_refusals tested
  good_list h e holds = rw (e, holds) (go (good_request r) refl)
    where
      go : (b : Bool) → good_request r ≡ b
          → ◌≡◌ {A = Result (Unit {0}) Refusal} (cond (not b) (Err BadRequest) (cond (ltb r.event r.participation) (Err NotYetParticipating) (cond (ltb most_quarters (r.e - r.s)) (Err NoRoom) (Ok tt))))
          (cond (not b) (Err BadRequest) (cond (ltb r.event r.participation) (Err NotYetParticipating) (Ok tt)))
      go false g = refl
      go true g =
          let q = good_request_lem r g in
          rw (le-ltb most_quarters (r.e - r.s) (omega (arith, q.from, q.up_to, day_most r.event))) refl

  pub asked : tested (overlap_tests moves r) ≡ Ok tt → is_asked moves r ≡ true
  unfolding is_asked
  asked e = rw (none_applies (overlap_tests moves r) e) refl

  pub unasked : (w : Refusal) → tested (overlap_tests moves r) ≡ Err w → is_asked moves r ≡ false
  unfolding is_asked
  unasked w e = rw (one_applies (overlap_tests moves r) w e) refl

  -- the days that suffice begin at day 0 or later
  pub enough_event : enough_days moves r ≤ r.event
  unfolding whole_reach method_of method_by
  enough_event = omega arith

  pub needs_none : (w : Refusal) → tested (overlap_tests moves r) ≡ Err w → None ≡ needed moves r
  unfolding needed
  needs_none w e = rw (unasked w e)

  pub needs_some : {day far : ℕ} → tested (overlap_tests moves r) ≡ Ok tt → far ≡ enough_days moves r → day ≡ r.event - far → Some day ≡ needed moves r
  unfolding needed
  needs_some e f d = rw (asked e) (ap Some (rw (← f) d))

  -- what is told of it, refused and not
  module _ (name : ℕ) (there : Bool) (before : ℕ) where
    abbrev row : Option ℤ
    row = by_name (row_after (overlap_tests moves r) (row_from 41 (numbers_of there before (enough_days moves r) r.event))) name

    pub told_refused : (w : Refusal) {x : Option ℤ} → tested (overlap_tests moves r) ≡ Err w → x ≡ by_name (refusal_row w) name → x ≡ row
    told_refused w e h = rw (row_failed (overlap_tests moves r) w (row_from 41 (numbers_of there before (enough_days moves r) r.event)) e) h

    pub told_numbers : {t : Bool} {b far : ℕ} {x : Option ℤ} → tested (overlap_tests moves r) ≡ Ok tt → t ≡ there → b ≡ before → far ≡ enough_days moves r
        → x ≡ by_name (row_from 41 (numbers_of t b far r.event)) name → x ≡ row
    told_numbers e t b f h =
        rw (row_passed (overlap_tests moves r) (row_from 41 (numbers_of there before (enough_days moves r) r.event)) e) (rw (t, b, f) at h)

-- by a list that refusal 14 turns away no event needs a day
module _ (moves : List ℕ) (bad : good_moves moves ≡ false) where
  unneeded : (at : Result Request Refusal) → needed_there moves at ≡ None
  unfolding needed_there
  unneeded (Ok r) = sym (needs_none moves r BadMoves (sym (bad_list moves r bad)))
  unneeded (Err w) = refl

  all_unneeded : (at : ℕ → Result Request Refusal) (places : List ℕ) → filter_map (λ place. needed_there moves (at place)) places ≡ []
  all_unneeded at [] = refl
  all_unneeded at (place ∷ places) = rw (unneeded (at place)) (all_unneeded at places)

  pub none_needed : (at : ℕ → Result Request Refusal) (places : List ℕ) → None ≡ reduce min (filter_map (λ place. needed_there moves (at place)) places)
  none_needed at places = rw (all_unneeded at places) refl

pub cut_refused : (file : List ℕ) {w : Refusal} → read_file file ≡ Err w → None ≡ cut_from (read_file file) file
cut_refused file r = rw r

-- what is told of the event at a place
module _ (file : List ℕ) (place name : ℕ) {x : Option ℤ} where
  pub of_refused : {w : Refusal} → read_file file ≡ Err w → x ≡ by_name (refusal_row w) name → x ≡ by_name (overlap_row file place) name
  unfolding overlap_row
  of_refused r e = rw r e

  module _ {shape : Shape} (r : read_file file ≡ Ok shape) where
    pub of_place : {found at : Result Request Refusal} → found ≡ event_within shape file place → found ≡ at → x ≡ by_name (row_at at file) name → x ≡ by_name (overlap_row file place) name
    unfolding overlap_row
    of_place f a e = e ∙ ap (λ (at : Result Request Refusal). by_name (row_at at file) name) (sym a ∙ f ∙ within_is file place r)

    -- an event, by the days of the shape and the list that was loaded
    pub of_event : (q : Request) {moves : List ℕ} → moves ≡ list_in file
        → x ≡ by_name (row_after (overlap_tests moves q) (row_from 41 (numbers_of (holds_day shape q.event) (q.event - shape.first) (enough_days moves q) q.event))) name
        → x ≡ by_name (row_at (Ok q) file) name
    unfolding overlap_numbers table_within
    of_event q m e = rw (← m, ← table_within_lem file r, holding_is shape file q.event) e
