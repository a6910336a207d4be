-- What is told of the overlap suffices.
use Prim.Native.Nat.{ℕ, zero, suc, ◌+◌, ◌-◌, ◌≤◌, ◌<◌}
use mathlib.Core.Path.{◌≡◌, refl, sym, ap, ◌∙◌}
use mathlib.Core.Bool.{Bool, true, false, not, ◌||◌}
use mathlib.Core.List.{List, [], ◌∷◌, map}
use mathlib.Core.Logic.{⊎_elim}
use native.Mathlib.Omega.{arith}
use lib.Dec.{ltb}
use lib.IntN.{ℤ}
use Rattle.std.specs.Prelude.{Option, None, Result, Ok}
use Rattle.base_lists.specs.Lists.{keep, all, any, member, least_of, places}
use Rattle.base_lists.proofs.Bools.{clash, bool_cases, lt-or-le}
use Rattle.base_lists.proofs.Keep.{member_head, member_tail, member_cases, keep_yes, keep_no, least_of_top, least_of-member}
use Rattle.calendar_groups.specs.Holidays.{good_moves, group}
use Rattle.method.specs.declared.Request.{Request}
use Rattle.method.specs.declared.Refusal.{Refusal}
use Rattle.method.specs.Table.{Table, Day, History, held, history}
use Rattle.method.specs.Method.{is_short, whole_reach}
use Rattle.method.specs.Rules.{method_by}
use Rattle.method.specs.Requested.{method_of}
use Rattle.method.specs.Verdict.{Reply, first_of, table_refusals, request_refusals, good_request, methodology, list_refusals, by_list, verdict}
use Rattle.method.specs.CutTables.{is_margin}
use Rattle.method_laws.proofs.Short.{whole_enough, reach_whole}
use Rattle.method_laws.proofs.Replies.{test, other, early_other, none_early, earlier_cases, hidden, margin_is}
use Rattle.method_laws.proofs.ByList.{by_bad}
use Rattle.file_record.specs.declared.Shape.{Shape}
use Rattle.file_record.specs.Reader.{read_file, list_in, request_at}
use Rattle.host_answer.specs.Names.{told}
use Rattle.host_overlap.specs.Overlap.{overlap_tests, needed_from, is_asked, needed_days, least_told, cut_from}
use Rattle.host_overlap.specs.Laws.{Laws}

enough : (moves : List ℕ) (r : Request) (h : History Day) → h.first ≤ needed_from moves r → is_short (method_of (group moves) r) h ≡ false
unfolding whole_reach method_of method_by
enough moves r h e = whole_enough (method_of (group moves) r) h (reach_whole (method_of (group moves) r) h (omega arith) (omega arith))

-- refusals that are not 8, before a reply that is not
behind : (rs : List (Bool × Refusal)) (x : Reply) → all (other is_margin) rs ≡ true → is_margin x ≡ false → is_margin (first_of rs x) ≡ false
behind rs x o e = ⊎_elim (early_other is_margin rs x o) (λ n. ap is_margin (none_early rs x n) ∙ e) (bool_cases (any test rs))

module _ (moves : List ℕ) (r : Request) (t : Table) (room : ℕ) where
  of_table : is_margin (by_list moves (history t) r room) ≡ false → is_margin (verdict moves t r room) ≡ false
  unfolding verdict table_refusals all
  of_table e = behind (table_refusals t) (by_list moves (history t) r room) refl e

  of_list : is_margin (methodology (group moves) (history t) r room) ≡ false → is_margin (verdict moves t r room) ≡ false
  unfolding by_list list_refusals all
  of_list e = of_table (behind (list_refusals moves) (methodology (group moves) (history t) r room) refl e)

  no_margin : t.first ≤ needed_from moves r → is_margin (verdict moves t r room) ≡ false
  no_margin e =
      of_list
      (⊎_elim (hidden (group moves) t r room) (λ n. margin_is (group moves) t r room n ∙ enough moves r (history t) e) (earlier_cases t r room))

  -- a request that is refused whatever days are held
  unasked : is_asked moves r ≡ false → is_margin (verdict moves t r room) ≡ false
  unfolding is_asked overlap_tests list_refusals any
  unasked e = go (good_moves moves) refl e
    where
      go : (g : Bool) → good_moves moves ≡ g → not (not g || (not (good_request r) || (ltb r.event r.participation || false))) ≡ false
          → is_margin (verdict moves t r room) ≡ false
      go false g f = of_table (ap is_margin (by_bad moves (history t) r room g))
      go true g f = of_list (hidden (group moves) t r room (unfold request_refusals in later (good_request r) (ltb r.event r.participation) (held (history t) r.event) (ltb room (r.e - r.s)) f))
        where
          later : (a b x y : Bool) → not (not a || (b || false)) ≡ false → (not a || (not x || (b || (y || false)))) ≡ true
          later true true true y f = refl
          later true true false y f = refl
          later true false x y f = absurd (clash refl f)
          later false b x y f = refl

-- the least of some days is none above any of them
least_under : (days : List ℕ) (d x : ℕ) → least_told days ≡ told d → member x days ≡ true → d ≤ x
unfolding least_told
least_under [] d x e m = absurd (clash m (unfold member in refl))
least_under (y ∷ days) d x e m =
    let is : least_of y days ≡ d = cc in
    ⊎_elim (λ z. omega (arith, least_of_top y days)) (λ n. omega (arith, least_of-member y days x n)) (member_cases x y days m)

least_none : (days : List ℕ) (x : ℕ) → least_told days ≡ None → member x days ≡ false
unfolding least_told
least_none [] x e = unfold member in refl
least_none (y ∷ days) x e = let z : ◌≡◌ {A = ℕ} 0 1 = cc in absurd (omega arith)

-- a request that is asked is among those that the days are of
among : (moves : List ℕ) (request : ℕ → Request) (place count first : ℕ) → first ≤ place → place < first + count → is_asked moves (request place) ≡ true
    → member (needed_from moves (request place)) (needed_days moves (map request (places count first))) ≡ true
unfolding needed_days places
among moves request place zero first low high a = absurd (omega arith)
among moves request place (suc count) first low high a =
    ⊎_elim (λ h. later (among moves request place count (suc first) (omega arith) (omega arith) a)) here (lt-or-le first place)
  where
    rest : List Request
    rest = map request (places count (suc first))

    day : ℕ
    day = needed_from moves (request place)

    here : place ≤ first → member day (map (needed_from moves) (keep (is_asked moves) (request first ∷ rest))) ≡ true
    here h =
        let same : place ≡ first = omega arith in
        let b : is_asked moves (request first) ≡ true = rw same at a in
        rw (same, keep_yes (is_asked moves) (request first) rest b) (member_head (needed_from moves (request first)) (map (needed_from moves) (keep (is_asked moves) rest)))

    later : member day (map (needed_from moves) (keep (is_asked moves) rest)) ≡ true
        → member day (map (needed_from moves) (keep (is_asked moves) (request first ∷ rest))) ≡ true
    later m =
        ⊎_elim
        (λ y. rw (keep_yes (is_asked moves) (request first) rest y)
        (member_tail day (needed_from moves (request first)) (map (needed_from moves) (keep (is_asked moves) rest)) m))
        (λ n. rw (keep_no (is_asked moves) (request first) rest n) m) (bool_cases (is_asked moves (request first)))

module _ (file : List ℕ) (shape : Shape) (accepted : read_file file ≡ Ok shape) (place : ℕ) (there : place < shape.events) (t : Table) (room : ℕ) where
  abbrev days : List ℕ
  days = needed_days (list_in file) (map (request_at file) (places shape.events 0))

  its : is_asked (list_in file) (request_at file place) ≡ true → member (needed_from (list_in file) (request_at file place)) days ≡ true
  its a = among (list_in file) (request_at file) place shape.events 0 (omega arith) (omega arith) a

  read_is : {x : Option ℤ} → cut_from (read_file file) file ≡ x → least_told days ≡ x
  read_is e = ap (λ (read : Result Shape Refusal). cut_from read file) (sym accepted) ∙ e

  by_asking : (is_asked (list_in file) (request_at file place) ≡ true → is_margin (verdict (list_in file) t (request_at file place) room) ≡ false)
      → is_margin (verdict (list_in file) t (request_at file place) room) ≡ false
  by_asking f = ⊎_elim f (unasked (list_in file) (request_at file place) t room) (bool_cases (is_asked (list_in file) (request_at file place)))

  cut : (d : ℕ) → cut_from (read_file file) file ≡ told d → t.first ≤ d → is_margin (verdict (list_in file) t (request_at file place) room) ≡ false
  cut d e f =
      by_asking
      (λ a. no_margin (list_in file) (request_at file place) t room
      (omega (arith, f, least_under days d (needed_from (list_in file) (request_at file place)) (read_is e) (its a))))

  uncut : cut_from (read_file file) file ≡ None → is_margin (verdict (list_in file) t (request_at file place) room) ≡ false
  uncut e = by_asking (λ a. absurd (clash (its a) (least_none days (needed_from (list_in file) (request_at file place)) (read_is e))))

pub laws : Laws
laws =
    record {
      enough = enough;
      no_margin = no_margin;
      cut = λ file shape r d e place h t room f. cut file shape r place h t room d e f;
      uncut = λ file shape r e place h t room. uncut file shape r place h t room e;
    }
