-- What the contract of a call says of its result and its output, by the reply.
use Prim.Native.Nat.{ℕ, ◌-◌, ◌*◌}
use mathlib.Core.Path.{◌≡◌, refl, sym, subst, ◌∙◌}
use mathlib.Core.Bool.{Bool}
use mathlib.Core.List.{List, [], ◌∷◌, ◌++◌}
use native.Mathlib.Omega.{arith}
use native.Mathlib.Nat.{one-mul}
use lib.ListN.{length, drop}
use lib.Dec.{ltb, eqb}
use Rattle.std.specs.Prelude.{Result, Ok, Err, IsOk}
use Rattle.base_lists.specs.Lists.{member}
use Rattle.method.specs.declared.Request.{Request}
use Rattle.method.specs.declared.Refusal.{Refusal}
use Rattle.method.specs.declared.Refusal.TheVariants.{BadFile, NoEvent, BadTable, BadMark, BadReading, BadRequest, NotHeld}
use Rattle.method.specs.declared.Refusal.TheVariants.{NotYetParticipating, NoRoom, MarginTooShort, TooFew, NoAdjustmentWindow, Unwritable, BadMoves}
use Rattle.method.specs.Table.{Table}
use Rattle.method.specs.Verdict.{Reply, Answer as Numbers, refused, answered, number, first_of, verdict, written}
use Rattle.method.specs.CutTables.{is_margin, is_settled, reported as reported_in}
use Rattle.engine_refusals.proofs.FirstRefusal.{first_append}
use Rattle.file_record.specs.Reader.{request_at}
use Rattle.engine_answer.specs.declared.Answer.{Answer}
use Rattle.engine_answer.specs.Answer.{in_five, answer_of, Answers}
use Rattle.table_bytes.specs.Output.{AnswersInBytes, bytes_written}
use Rattle.table_bytes.proofs.Laws.{below_four}
use Rattle.file_baseline.specs.Reply.{file_reply}
use Rattle.demands.specs.Calls.{Call, over_table, of_file, moves, extract, request, per_quarter, stand, room, Gets, result, reported}
use Rattle.demands.specs.Rows.{file_rows, table_rows, list_rows, request_rows, day_rows, earlier, rows, answer_over}
use Rattle.demands.proofs.Rows.{verdict_rows, file_rows_lem}
use Rattle.base_bytes.proofs.Bytes.{reading_length}

-- the reply of a call by its rows
abbrev pub reply_of : Call → List ℕ → Reply
reply_of c out = first_of (rows c (length out)) (answered (answer_over (moves c) (extract c) (request c)))

-- the test of 7 in numerators
pub room_test : (c : Call) (out : List ℕ)
    → ltb (length out) (per_quarter c * ((request c).e - (request c).s)) ≡ ltb (room c out) ((request c).e - (request c).s)
room_test (over_table list t r) out = rw one-mul
room_test (of_file file place) out = sym (below_four (length out) ((request_at file place).e - (request_at file place).s))

-- it is that of 11 and 12, and then the verdict over its extract
pub over_extract : (c : Call) (out : List ℕ) → reply_of c out ≡ first_of (file_rows c) (verdict (moves c) (extract c) (request c) (room c out))
unfolding rows earlier
over_extract c out =
    rw (
      first_append (file_rows c ++ (table_rows t ++ (list_rows (moves c) ++ asked))) (day_rows (moves c) t r) (answered (answer_over (moves c) t r)),
      first_append (file_rows c) (table_rows t ++ (list_rows (moves c) ++ asked)) last,
      first_append (table_rows t) (list_rows (moves c) ++ asked) last,
      first_append (list_rows (moves c)) asked last,
      verdict_rows (moves c) t r (per_quarter c) (length out) (room c out) (room_test c out),
    )
  where
    t : Table
    t = extract c

    r : Request
    r = request c

    asked : List (Bool × Refusal)
    asked = request_rows t r (per_quarter c) (length out)

    last : Reply
    last = first_of (day_rows (moves c) t r) (answered (answer_over (moves c) t r))

pub gets_same : (c : Call) (a : Result Answer Refusal) (out after : List ℕ) {x y : Reply} → x ≡ y → Gets c x a out after → Gets c y a out after
gets_same c a out after e g = subst (λ (z : Reply). Gets c z a out after) e g

-- what the contract of a call says
abbrev pub Gives : Call → Result Answer Refusal → List ℕ → List ℕ → Type 0
Gives (over_table list t r) a out after = Answers (verdict list t r (length out)) a out after
Gives (of_file file place) a out after = AnswersInBytes (file_reply file place (length out)) a out after

pub gives_gets : (c : Call) (a : Result Answer Refusal) (out after : List ℕ) → Gives c a out after → Gets c (reply_of c out) a out after
unfolding file_rows first_of
gives_gets (over_table list t r) a out after g = gets_same (over_table list t r) a out after (sym (over_extract (over_table list t r) out)) g
gives_gets (of_file file place) a out after g =
    gets_same (of_file file place) a out after (file_rows_lem file place (length out) ∙ sym (over_extract (of_file file place) out)) g

-- ---- the result
pub gets_answer : (c : Call) (a : Result Answer Refusal) (out after : List ℕ) (x : Reply) → Gets c x a out after → a ≡ answer_of x
gets_answer (over_table list t r) a out after x g = g.answer
gets_answer (of_file file place) a out after x g = g.answer

pub is_refused : (x : Reply) (w : Refusal) → answer_of x ≡ Err w → x ≡ refused w
unfolding answer_of
is_refused (refused v) w e = cc
is_refused (answered n) w e = let z : ◌≡◌ {A = ℕ} 0 1 = cc in absurd (omega arith)

pub is_answered : (x : Reply) → IsOk (answer_of x) → (n : Numbers) × (x ≡ answered n)
unfolding answer_of
is_answered (refused v) e = let z : ◌≡◌ {A = ℕ} 0 1 = cc in absurd (omega arith)
is_answered (answered n) e = (n, refl)

pub given_refused : (w : Refusal) → answer_of (refused w) ≡ Err w
unfolding answer_of
given_refused w = refl

pub given_answered : (n : Numbers) → IsOk (answer_of (answered n))
unfolding answer_of
given_answered n = refl

-- what an answer has of numbers
abbrev pub given_of : Numbers → Answer
given_of n =
    record {
      chosen = record { days = in_five n.days; count = length n.days; reach = n.reach };
      denominator = n.denominator;
      adjustment = n.adjusted;
    }

pub is_given : {x : Answer} (n : Numbers) → Ok x ≡ answer_of (answered n) → x ≡ given_of n
unfolding answer_of
is_given n e = cc

-- 0, or the number of the refusal
abbrev pub number_in : Reply → ℕ
number_in (refused w) = number w
number_in (answered n) = 0

pub result_is : (x : Reply) → result (answer_of x) ≡ number_in x
unfolding answer_of
result_is (refused w) = refl
result_is (answered n) = refl

pub reported_is : (x : Reply) → reported (answer_of x) ≡ reported_in x
unfolding answer_of
reported_is (refused w) = refl
reported_is (answered n) = refl

pub settled_is : (x : Reply) → member (number_in x) (0 ∷ 9 ∷ 10 ∷ []) ≡ is_settled x
unfolding member
settled_is (answered n) = refl
settled_is (refused (BadFile k)) = refl
settled_is (refused NoEvent) = refl
settled_is (refused BadTable) = refl
settled_is (refused (BadMark k)) = refl
settled_is (refused (BadReading k)) = refl
settled_is (refused BadRequest) = refl
settled_is (refused NotHeld) = refl
settled_is (refused NotYetParticipating) = refl
settled_is (refused NoRoom) = refl
settled_is (refused (MarginTooShort k)) = refl
settled_is (refused (TooFew n k)) = refl
settled_is (refused (NoAdjustmentWindow k)) = refl
settled_is (refused Unwritable) = refl
settled_is (refused BadMoves) = refl

pub margin_is : (x : Reply) → is_margin x ≡ eqb (number_in x) 8
margin_is (refused w) = refl
margin_is (answered n) = refl

-- ---- the output
pub gets_kept : (c : Call) (a : Result Answer Refusal) (out after : List ℕ) (w : Refusal) → Gets c (refused w) a out after → after ≡ out
unfolding written bytes_written
gets_kept (over_table list t r) a out after w g = g.output
gets_kept (of_file file place) a out after w g = g.output

pub gets_output : (c : Call) (a : Result Answer Refusal) (out after : List ℕ) (n : Numbers) → Gets c (answered n) a out after
    → after ≡ stand c n.numerators ++ drop (per_quarter c * length n.numerators) out
unfolding written bytes_written
gets_output (over_table list t r) a out after n g = rw one-mul g.output
gets_output (of_file file place) a out after n g = g.output

pub stand-length : (c : Call) (ns : List ℕ) → length (stand c ns) ≡ per_quarter c * length ns
stand-length (over_table list t r) ns = sym (one-mul (length ns))
stand-length (of_file file place) ns = reading_length ns
