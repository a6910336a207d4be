-- The least of the days from which the events of a file need days on.
use Prim.Native.Nat.{ℕ, zero, suc, ◌+◌, ◌≤◌, ◌<◌, min}
use mathlib.Core.Path.{◌≡◌, refl, sym, ap, ◌∙◌}
use mathlib.Core.Bool.{Bool, true, false, cond}
use mathlib.Core.List.{List, [], ◌∷◌, map}
use native.Mathlib.Numerals.{add-one}
use native.Mathlib.Omega.{arith}
use borrow.Author.Tests.{lt-ltb}
use Rattle.std.specs.Prelude.{Option, Some, None, Ok}
use Rattle.std.specs.List.{fold, reduce, filter_map, cons_option, range_with_len}
use Rattle.base_lists.specs.Lists.{keep, least_of, places}
use Rattle.method.specs.declared.Request.{Request}
use Rattle.file_record.specs.declared.Shape.{Shape}
use Rattle.file_record.specs.Reader.{read_file, list_in, request_at}
use Rattle.file_record.specs.Steps.{event_within}
use Rattle.file_record.proofs.Events.{within_is}
use Rattle.host_answer.specs.Names.{told}
use Rattle.host_overlap.specs.Overlap.{needed_from, is_asked, needed_days, least_told, cut_from}
use Rattle.host_overlap.specs.Steps.{needed, needed_there}

-- ---- the least of some days
least_of-min : (d top : ℕ) (days : List ℕ) → least_of (min d top) days ≡ min d (least_of top days)
unfolding least_of
least_of-min d top [] = refl
least_of-min d top (x ∷ days) = omega (arith, least_of-min d top days)

fold_least : (top : ℕ) (days : List ℕ) → fold min top days ≡ least_of top days
unfolding least_of
fold_least top [] = refl
fold_least top (x ∷ days) =
    let swapped : min top x ≡ min x top = omega arith in
    fold_least (min top x) days ∙ rw swapped (least_of-min x top days)

least_some : (days : List ℕ) {d : ℕ} → reduce min days ≡ Some d → told d ≡ least_told days
unfolding least_told
least_some [] e = absurd (let z : ◌≡◌ {A = ℕ} 0 1 = cc in omega arith)
least_some (x ∷ days) {d} e = let is : d ≡ fold min x days = cc in ap told (is ∙ fold_least x days)

least_none : (days : List ℕ) → reduce min days ≡ None → None ≡ least_told days
unfolding least_told
least_none [] e = refl
least_none (x ∷ days) e = absurd (let z : ◌≡◌ {A = ℕ} 0 1 = cc in omega arith)

-- ---- the days of a file's events
module _ (file : List ℕ) {shape : Shape} (r : read_file file ≡ Ok shape) where
  event_in : (place : ℕ) → place < shape.events → event_within shape file place ≡ Ok (request_at file place)
  event_in place h = within_is file place r ∙ rw (r, lt-ltb place shape.events h) refl

  module _ (moves : List ℕ) where
    abbrev there : ℕ → Option ℕ
    there place = needed_there moves (event_within shape file place)

    days_is : (count first : ℕ) → first + count ≤ shape.events → filter_map there (range_with_len first count) ≡ needed_days moves (map (request_at file) (places count first))
    unfolding needed_days places needed_there needed keep
    days_is zero first h = refl
    days_is (suc count) first h =
        rw (event_in first (omega arith), add-one first) (go (is_asked moves (request_at file first)) _ (days_is count (suc first) (omega arith)))
      where
        go : (b : Bool) (asked : List Request) {rest : List ℕ} → rest ≡ map (needed_from moves) asked
            → cons_option (cond b (Some (needed_from moves (request_at file first))) None) rest ≡ map (needed_from moves) (cond b (request_at file first ∷ asked) asked)
        go true asked e = ap (λ l. needed_from moves (request_at file first) ∷ l) e
        go false asked e = e

  module _ {moves : List ℕ} (m : moves ≡ list_in file) {least : Option ℕ}
      (d : least ≡ reduce min (filter_map (λ place. needed_there moves (event_within shape file place)) (range_with_len 0 shape.events))) where
    least_is : least ≡ reduce min (needed_days (list_in file) (map (request_at file) (places shape.events 0)))
    least_is = d ∙ rw (← m) (ap (reduce min) (days_is moves shape.events 0 (omega arith)))

    pub cut_some : {day : ℕ} → least ≡ Some day → told day ≡ cut_from (read_file file) file
    cut_some e = rw r (least_some _ (sym least_is ∙ e))

    pub cut_none : least ≡ None → None ≡ cut_from (read_file file) file
    cut_none e = rw r (least_none _ (sym least_is ∙ e))
