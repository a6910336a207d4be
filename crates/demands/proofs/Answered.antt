-- What an answer says of the rows, of the chosen days and of the numerators.
use Prim.Native.Nat.{ℕ, ◌-◌, ◌*◌, ◌≤◌}
use mathlib.Core.Path.{◌≡◌, refl, ◌∙◌}
use mathlib.Core.Bool.{Bool, true, false, cond, true≢false, ◌&&◌, ◌||◌}
use mathlib.Core.List.{List, [], ◌∷◌}
use native.Mathlib.Omega.{arith}
use lib.Dec.{leb, ltb, eqb}
use lib.ListN.{length, length-map}
use Rattle.base_lists.specs.Lists.{any, member}
use Rattle.base_lists.proofs.Bools.{or_none_left, or_none_right}
use Rattle.calendar_groups.specs.Holidays.{group}
use Rattle.calendar_groups.specs.declared.Group.{Group}
use Rattle.calendar_groups.specs.declared.Group.TheVariants.{Weekday, Saturday, HolidayGroup}
use Rattle.method.specs.declared.Request.{Request}
use Rattle.method.specs.declared.Refusal.{Refusal}
use Rattle.method.specs.Table.{Table, history}
use Rattle.method.specs.Adjustment.{is_average}
use Rattle.method.specs.HighXofY.{N, high_x_of_y}
use Rattle.method.specs.AverageXofY.{seven_days, averaged, average_x_of_y}
use Rattle.method.specs.Requested.{rules_of, method_of}
use Rattle.engine_rules.proofs.Followed.{followed}
use Rattle.engine_choice.proofs.Followed.{taken_chosen}
use Rattle.base_lists.proofs.Places.{length-places}
use Rattle.demands.specs.Calls.{Call, over_table, of_file, moves, extract, request, per_quarter, room}
use Rattle.demands.specs.Rows.{window_of, count_of, n_of, numerators_of, day_rows, earlier, rows, applies}
use Rattle.demands.proofs.Passing.{none_after}
use Rattle.demands.proofs.Tests.{few_is}

second_row : (p q : Bool × Refusal) (rest : List (Bool × Refusal)) → any applies (p ∷ q ∷ rest) ≡ false → q.0 ≡ false
unfolding any
second_row p q rest e = or_none_left q.0 (any applies rest) (or_none_right p.0 (q.0 || any applies rest) e)

-- where none of 8 to 10 applies, some days are taken of the window; so where no row does
taken_some : (moves : List ℕ) (t : Table) (r : Request) → any applies (day_rows moves t r) ≡ false
    → eqb ((rules_of (group moves r.event) r).taken (length (window_of moves t r))) 0 ≡ false
unfolding day_rows
taken_some moves t r e = few_is (group moves r.event) r (length (window_of moves t r)) ∙ second_row _ _ _ e

-- as many are chosen as are taken: no rules take days that are not there
count_chosen : (moves : List ℕ) (t : Table) (r : Request) → count_of moves t r ≡ (rules_of (group moves r.event) r).taken (length (window_of moves t r))
unfolding method_of
count_chosen moves t r = taken_chosen (followed (group moves r.event) r) (group moves) (history t)

-- High X of Y takes N, and Average X of Y two or one
module _ (g : Group) (r : Request) (size : ℕ) where
  high_taken : is_average r ≡ false → eqb ((rules_of g r).taken size) 0 ≡ false → (rules_of g r).taken size ≡ N g
  unfolding rules_of high_x_of_y
  high_taken v e = rw v (go (ltb size (N g)) (rw v at e))
    where
      go : (b : Bool) → eqb (cond b 0 (N g)) 0 ≡ false → cond b 0 (N g) ≡ N g
      go true f = absurd (true≢false f)
      go false f = refl

  two_or_one : (a b : Bool) → eqb (cond a 2 (cond b 1 0)) 0 ≡ false → member (1 * cond a 2 (cond b 1 0)) (2 ∷ 1 ∷ []) ≡ true
  unfolding member
  two_or_one true b e = refl
  two_or_one false true e = refl
  two_or_one false false e = absurd (true≢false e)

  two_alone : (a : Bool) → eqb (cond a 2 0) 0 ≡ false → member (1 * cond a 2 0) (2 ∷ 1 ∷ []) ≡ true
  unfolding member
  two_alone true e = refl
  two_alone false e = absurd (true≢false e)

  average_taken : is_average r ≡ true → eqb ((rules_of g r).taken size) 0 ≡ false → member (1 * (rules_of g r).taken size) (2 ∷ 1 ∷ []) ≡ true
  unfolding rules_of average_x_of_y
  average_taken v e = rw v (go g (rw v at e))
    where
      go : (g : Group) → eqb (averaged g r size) 0 ≡ false → member (1 * averaged g r size) (2 ∷ 1 ∷ []) ≡ true
      go Weekday f = two_alone (leb 4 size || (leb 2 size && seven_days r)) f
      go Saturday f = two_or_one (leb 2 size) (leb 1 size && seven_days r) f
      go HolidayGroup f = two_or_one (leb 2 size) (leb 1 size && seven_days r) f

module _ (c : Call) (size : ℕ) (e : any applies (rows c size) ≡ false) where
  its : eqb ((rules_of (group (moves c) (request c).event) (request c)).taken (length (window_of (moves c) (extract c) (request c)))) 0 ≡ false
  unfolding rows
  its = taken_some (moves c) (extract c) (request c) (none_after (earlier c size) (day_rows (moves c) (extract c) (request c)) e)

  pub high_count : is_average (request c) ≡ false → count_of (moves c) (extract c) (request c) ≡ n_of (moves c) (request c)
  high_count v =
      count_chosen (moves c) (extract c) (request c)
      ∙ high_taken (group (moves c) (request c).event) (request c) (length (window_of (moves c) (extract c) (request c))) v its

  pub over_2_or_1 : is_average (request c) ≡ true → member (1 * count_of (moves c) (extract c) (request c)) (2 ∷ 1 ∷ []) ≡ true
  over_2_or_1 v =
      rw (count_chosen (moves c) (extract c) (request c))
      (average_taken (group (moves c) (request c).event) (request c) (length (window_of (moves c) (extract c) (request c))) v its)

pub numerators_count : (moves : List ℕ) (t : Table) (r : Request) → length (numerators_of moves t r) ≡ r.e - r.s
unfolding numerators_of
numerators_count moves t r = simp (length-map, length-places)

pub over_60_or_24 : (g : Group) → member (12 * N g) (60 ∷ 24 ∷ []) ≡ true
unfolding member
over_60_or_24 Weekday = refl
over_60_or_24 Saturday = refl
over_60_or_24 HolidayGroup = refl

-- room for the quarters as numerators is room for them as they stand
pub quarters_fit : (c : Call) (out : List ℕ) → (request c).e - (request c).s ≤ room c out → per_quarter c * ((request c).e - (request c).s) ≤ length out
quarters_fit (over_table list t r) out e = omega arith
quarters_fit (of_file file place) out e = omega arith
