-- Room for numerators: with a day's there is always enough.
use Prim.Native.Nat.{ℕ, ◌-◌, ◌≤◌}
use mathlib.Core.Path.{◌≡◌, ap}
use mathlib.Core.Bool.{Bool, true, false, not, cond}
use mathlib.Core.List.{List}
use mathlib.Core.Option.{Option, none, some}
use mathlib.Core.Logic.{⊎_elim}
use native.Mathlib.Omega.{arith}
use borrow.Author.Tests.{le-ltb}
use lib.Dec.{ltb}
use Rattle.base_lists.specs.Lists.{all, leading}
use Rattle.base_lists.proofs.Bools.{bool_cases}
use Rattle.calendar_groups.specs.Holidays.{good_moves, group}
use Rattle.method.specs.declared.Request.{Request}
use Rattle.method.specs.declared.Refusal.{Refusal}
use Rattle.method.specs.declared.Refusal.TheVariants.{BadTable, BadMark, BadReading, NotHeld, NotYetParticipating, NoRoom, BadMoves}
use Rattle.method.specs.Table.{Table, most_quarters, good_mark, good_reading, held, history, is_extract}
use Rattle.method.specs.Method.{Outcome, short, few, chose, outcome}
use Rattle.method.specs.Adjustment.{Baseline}
use Rattle.method.specs.Requested.{method_of}
use Rattle.method.specs.Verdict.{Reply, refused, number, good_request, table_refusals, request_refusals, closing, first_of, methodology, list_refusals, by_list, verdict}
use Rattle.method.proofs.Ruler.{day_most}
use Rattle.engine_refusals.proofs.FirstRefusal.{good_request_lem}

-- refusal 7 does not come where another test comes first, nor from what the days give
module _ (b : Bool) (w : Refusal) (reply : Reply) where
  tested_before : (number w ≡ 7 → ⊥) → (reply ≡ refused NoRoom → ⊥) → cond b (refused w) reply ≡ refused NoRoom → ⊥
  tested_before n g e = go b e
    where
      go : (b : Bool) → cond b (refused w) reply ≡ refused NoRoom → ⊥
      go true e = let k : w ≡ NoRoom = cc in n (ap number k)
      go false e = g e

closing_never : (o : Outcome (Option Baseline)) → closing o ≡ refused NoRoom → ⊥
unfolding closing
closing_never (short days) e = let z : ◌≡◌ {A = ℕ} 0 1 = cc in omega arith
closing_never (few size reach) e = let z : ◌≡◌ {A = ℕ} 0 1 = cc in omega arith
closing_never (chose days reach none) e = let z : ◌≡◌ {A = ℕ} 0 1 = cc in omega arith
closing_never (chose days reach (some b)) e = let z : ◌≡◌ {A = ℕ} 0 1 = cc in omega arith

-- with room for a day's quarters refusal 7 never comes
pub room_enough : (r : Request) (moves : List ℕ) (t : Table) → verdict moves t r most_quarters ≡ refused NoRoom → ⊥
unfolding verdict by_list list_refusals methodology table_refusals request_refusals first_of
room_enough r moves t =
    tested_before (not (is_extract t)) BadTable _ (λ n. omega arith)
    (tested_before (not (all good_mark t.marks)) (BadMark (leading good_mark t.marks)) _ (λ n. omega arith)
    (tested_before (not (all good_reading t.readings)) (BadReading (leading good_reading t.readings)) _ (λ n. omega arith)
    (tested_before (not (good_moves moves)) BadMoves _ (λ n. omega arith)
    (⊎_elim good bad (bool_cases (good_request r))))))
  where
    good : good_request r ≡ true → methodology (group moves) (history t) r most_quarters ≡ refused NoRoom → ⊥
    good g =
        let k = good_request_lem r g in
        let o : r.e - r.s ≤ most_quarters = omega (arith, k.up_to, k.from, day_most r.event) in
        rw (g, le-ltb most_quarters (r.e - r.s) o)
        (tested_before (not (held (history t) r.event)) NotHeld _ (λ n. omega arith)
        (tested_before (ltb r.event r.participation) NotYetParticipating _ (λ n. omega arith)
        (closing_never (outcome (method_of (group moves) r) (history t)))))

    bad : good_request r ≡ false → methodology (group moves) (history t) r most_quarters ≡ refused NoRoom → ⊥
    bad g = rw g (λ e. let z : ◌≡◌ {A = ℕ} 0 1 = cc in omega arith)
