-- Which rows did not apply, by the number of a call's result; and what its extract and its request are where they did not.
use Prim.Native.Nat.{ℕ}
use mathlib.Core.Path.{◌≡◌, refl, ◌∙◌}
use mathlib.Core.Bool.{Bool, true, false, ◌||◌}
use mathlib.Core.List.{List, [], ◌∷◌, ◌++◌}
use mathlib.Core.Logic.{⊎_elim}
use lib.Dec.{eqb}
use lib.ListN.{length}
use Rattle.base_lists.specs.Lists.{all, any, member}
use Rattle.base_lists.proofs.Bools.{bool_cases, clash, or_none_left, or_none_right}
use Rattle.calendar_groups.specs.Holidays.{good_moves}
use Rattle.method.specs.declared.Refusal.{Refusal}
use Rattle.method.specs.Table.{Table, held, history, is_extract}
use Rattle.method.specs.Verdict.{Reply, answered, first_of, verdict, well_formed}
use Rattle.method.specs.CutTables.{NoneEarlier}
use Rattle.method_laws.proofs.ByList.{none_of_list}
use Rattle.method_laws.proofs.Replies.{test, other, none_early, early_other}
use Rattle.method_laws.proofs.Extract.{none_of_table}
use Rattle.method_laws.proofs.NoPart.{known}
use Rattle.engine_refusals.proofs.FirstRefusal.{first_append}
use Rattle.demands.specs.Calls.{Call, over_table, of_file, moves, extract, request, per_quarter, room}
use Rattle.demands.specs.Rows.{file_rows, table_rows, list_rows, request_rows, day_rows, earlier, rows, applies, answer_over}
use Rattle.demands.proofs.Moves.{list_rows_lem}
use Rattle.demands.proofs.Rows.{table_rows_lem, request_rows_lem}
use Rattle.demands.proofs.Results.{reply_of, room_test, over_extract, number_in}

-- none of rows and of others applies
pub none_before : (xs ys : List (Bool × Refusal)) → any applies (xs ++ ys) ≡ false → any applies xs ≡ false
unfolding any
none_before [] ys e = refl
none_before (x ∷ xs) ys e =
    rw (or_none_left x.0 (any applies (xs ++ ys)) e) (none_before xs ys (or_none_right x.0 (any applies (xs ++ ys)) e))

pub none_after : (xs ys : List (Bool × Refusal)) → any applies (xs ++ ys) ≡ false → any applies ys ≡ false
unfolding any
none_after [] ys e = e
none_after (x ∷ xs) ys e = none_after xs ys (or_none_right x.0 (any applies (xs ++ ys)) e)

-- a reply of another kind than all these refusals: none of them applies
pub passes : (q : Reply → Bool) (rs : List (Bool × Refusal)) (x : Reply) → all (other q) rs ≡ true → q (first_of rs x) ≡ true
    → any applies rs ≡ false
passes q rs x o e = ⊎_elim (λ y. absurd (clash e (early_other q rs x o y))) (λ n. n) (bool_cases (any test rs))

-- the reply is the verdict over a well-formed extract
pub record OverFormed (c : Call) (out : List ℕ) : Type 0 where
  pub its : reply_of c out ≡ verdict (moves c) (extract c) (request c) (room c out)
  pub is_one : is_extract (extract c) ≡ true
  pub well : well_formed (extract c) ≡ true

-- so it is where none of 11, 12 and 1 to 3 applies
pub over_formed : (c : Call) (out : List ℕ) → any applies (file_rows c) ≡ false → any applies (table_rows (extract c)) ≡ false → OverFormed c out
over_formed c out n m =
    let is = none_of_table (extract c) (rw table_rows_lem at m) in
    record { its = over_extract c out ∙ none_early (file_rows c) _ n; is_one = is.0; well = is.1 }

-- and no refusal before 8 applies: the list is good, and the event is held
pub record Late (c : Call) (out : List ℕ) : Type 0 where
  pub over : OverFormed c out
  pub good : good_moves (moves c) ≡ true
  pub none : NoneEarlier (extract c) (request c) (room c out)
  pub holds : held (history (extract c)) (request c).event ≡ true

pub late : (c : Call) (out : List ℕ) → any applies (earlier c (length out)) ≡ false → Late c out
unfolding earlier
late c out n =
    record {
      over = over_formed c out (none_before (file_rows c) _ n) (none_before (table_rows t) (list_rows (moves c) ++ asked) (none_after (file_rows c) _ n));
      good = none_of_list (moves c) (rw list_rows_lem at (none_before (list_rows (moves c)) asked later));
      none = none;
      holds = (known t (request c) (room c out) none).1;
    }
  where
    t : Table
    t = extract c

    asked : List (Bool × Refusal)
    asked = request_rows t (request c) (per_quarter c) (length out)

    later : any applies (list_rows (moves c) ++ asked) ≡ false
    later = none_after (table_rows t) (list_rows (moves c) ++ asked) (none_after (file_rows c) _ n)

    none : NoneEarlier t (request c) (room c out)
    none =
        rw (request_rows_lem t (request c) (per_quarter c) (length out) (room c out) (room_test c out)) at
        (none_after (list_rows (moves c)) asked later)

-- so it is where the result is 0 or 8 to 10
abbrev pub is_late : Reply → Bool
is_late x = member (number_in x) (0 ∷ 8 ∷ 9 ∷ 10 ∷ [])

late_other : (c : Call) (size : ℕ) → all (other is_late) (earlier c size) ≡ true
unfolding earlier file_rows table_rows list_rows request_rows all member
late_other (over_table list t r) size = refl
late_other (of_file file place) size = refl

pub none_earlier : (c : Call) (out : List ℕ) → is_late (reply_of c out) ≡ true → any applies (earlier c (length out)) ≡ false
unfolding rows
none_earlier c out e =
    passes is_late (earlier c (length out)) (first_of (day_rows (moves c) (extract c) (request c)) last) (late_other c (length out))
    (rw (first_append (earlier c (length out)) (day_rows (moves c) (extract c) (request c)) last) at e)
  where
    last : Reply
    last = answered (answer_over (moves c) (extract c) (request c))

-- a settled reply is one of these
pub settled_late : (n : ℕ) → member n (0 ∷ 9 ∷ 10 ∷ []) ≡ true → member n (0 ∷ 8 ∷ 9 ∷ 10 ∷ []) ≡ true
unfolding member
settled_late n e = go (eqb n 0) (eqb n 8) (eqb n 9 || (eqb n 10 || false)) e
  where
    go : (a b x : Bool) → (a || x) ≡ true → (a || (b || x)) ≡ true
    go true b x e = refl
    go false true x e = refl
    go false false x e = e
