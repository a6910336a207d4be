-- The demands at the entries for C, from what their contracts say.
use Prim.Native.Nat.{ℕ, ◌-◌}
use mathlib.Core.Path.{◌≡◌, refl, sym, ap, ◌∙◌}
use mathlib.Core.Bool.{Bool, true, false, not, cond}
use mathlib.Core.List.{List, [], ◌∷◌}
use native.Mathlib.Omega.{arith}
use lib.ListN.{length, replicate}
use lib.Dec.{ltb, eqb}
use lib.IntN.{ℤ, pos}
use borrow.Author.Tests.{eq-eqb}
use Rattle.std.specs.Prelude.{Result}
use Rattle.base_lists.specs.Lists.{all}
use Rattle.base_lists.proofs.Unique.{unique}
use Rattle.calendar_groups.specs.Holidays.{group}
use Rattle.method.specs.declared.Request.{Request}
use Rattle.method.specs.declared.Refusal.{Refusal}
use Rattle.method.specs.declared.Refusal.TheVariants.{BadFile, NoEvent, BadTable, BadMark, BadReading, BadRequest, NotHeld}
use Rattle.method.specs.declared.Refusal.TheVariants.{NotYetParticipating, NoRoom, MarginTooShort, TooFew, NoAdjustmentWindow, Unwritable, BadMoves}
use Rattle.method.specs.Table.{Table, most_quarters, held, history}
use Rattle.method.specs.Method.{outcome}
use Rattle.method.specs.Requested.{method_of}
use Rattle.method.specs.Verdict.{Reply, refused, answered, number, good_request, table_refusals, request_refusals, closing, first_of, methodology, list_refusals, by_list, verdict}
use Rattle.method.specs.Verdict.{written}
use Rattle.method_laws.proofs.Replies.{other, none_early}
use Rattle.engine_answer.specs.declared.Answer.{Answer}
use Rattle.engine_answer.specs.Answer.{answer_of}
use Rattle.engine_answer.proofs.Laws.{answers_unique}
use Rattle.table_bytes.specs.Output.{bytes_written}
use Rattle.table_bytes.proofs.Laws.{answers_in_bytes_unique}
use Rattle.demands.proofs.Rooms.{room_enough}
use Rattle.file_baseline.specs.Reply.{file_reply}
use Rattle.host_answer.specs.Names.{by_name, refusal_row, row_from}
use Rattle.host_answer.specs.Telling.{answer_row, told_by}
use Rattle.host_entries.specs.Host.{or_nothing, most_bytes, FileCall, TableCall}
use Rattle.demands.specs.Calls.{Call, over_table, of_file, moves, extract, request, room, result}
use Rattle.demands.specs.Rows.{file_rows}
use Rattle.demands.specs.Demands.{Demands}
use Rattle.demands.specs.Entries.{EntryDemands, Tells}
use Rattle.demands.proofs.Rows.{file_rows_lem}
use Rattle.demands.proofs.Results.{reply_of, over_extract, gets_answer, number_in, result_is}
use Rattle.demands.proofs.Passing.{passes}
use Rattle.demands.proofs.Demands.{demands}

module _ {r : ℕ} {out after : List ℕ} where
  pub table_entry : (list : List ℕ) (t : Table) (q : Request) → TableCall (verdict list t q (length out)) r out after → EntryDemands (over_table list t q) r out after
  table_entry list t q e =
      record {
        answer = answer_of (verdict list t q (length out));
        meets = demands (over_table list t q) _ out after (record { answer = refl; output = e.output });
        number = e.result;
      }

  pub file_entry : (file : List ℕ) (place : ℕ) → FileCall (file_reply file place (length out)) r out after
      → EntryDemands (of_file file place) r out after
  file_entry file place e =
      record {
        answer = answer_of (file_reply file place (length out));
        meets = demands (of_file file place) _ out after (record { answer = refl; output = e.output });
        number = e.result;
      }

-- ---- what is told by name
abbrev is_seven : Reply → Bool
is_seven x = eqb (number_in x) 7

file_other : (c : Call) → all (other is_seven) (file_rows c) ≡ true
unfolding file_rows all
file_other (over_table list t r) = refl
file_other (of_file file place) = refl

-- 7 is the number of one refusal alone
seven_is : (w : Refusal) → number w ≡ 7 → w ≡ NoRoom
seven_is (BadFile k) e = absurd (omega arith)
seven_is NoEvent e = absurd (omega arith)
seven_is BadTable e = absurd (omega arith)
seven_is (BadMark k) e = absurd (omega arith)
seven_is (BadReading k) e = absurd (omega arith)
seven_is BadRequest e = absurd (omega arith)
seven_is NotHeld e = absurd (omega arith)
seven_is NotYetParticipating e = absurd (omega arith)
seven_is NoRoom e = refl
seven_is (MarginTooShort k) e = absurd (omega arith)
seven_is (TooFew n k) e = absurd (omega arith)
seven_is (NoAdjustmentWindow k) e = absurd (omega arith)
seven_is Unwritable e = absurd (omega arith)
seven_is BadMoves e = absurd (omega arith)

seven : (x : Reply) → number_in x ≡ 7 → x ≡ refused NoRoom
seven (refused w) e = ap refused (seven_is w e)
seven (answered n) e = absurd (omega arith)

-- the number that is told under the name 0
told_number : (x : Reply) → or_nothing (told_by (answer_of x) 0) ≡ pos 7 → number_in x ≡ 7
unfolding told_by answer_of by_name refusal_row answer_row row_from
told_number (refused w) e = cc
told_number (answered n) e = let z : ◌≡◌ {A = ℕ} 0 7 = cc in absurd (omega arith)

-- replies that are the same but for 7 are so after any rows
same_after : (rs : List (Bool × Refusal)) (x y : Reply) → ((number_in x ≡ 7 → ⊥) → x ≡ y) → (number_in (first_of rs x) ≡ 7 → ⊥)
    → first_of rs x ≡ first_of rs y
unfolding first_of
same_after [] x y e n = e n
same_after (row ∷ rs) x y e n = go row.0 n (same_after rs x y e)
  where
    go : (b : Bool) → (number_in (cond b (refused row.1) (first_of rs x)) ≡ 7 → ⊥)
        → ((number_in (first_of rs x) ≡ 7 → ⊥) → first_of rs x ≡ first_of rs y)
        → cond b (refused row.1) (first_of rs x) ≡ cond b (refused row.1) (first_of rs y)
    go true n ih = refl
    go false n ih = ih n

but_seven : (b : Bool) (x : Reply) → (number_in (cond b (refused NoRoom) x) ≡ 7 → ⊥) → cond b (refused NoRoom) x ≡ x
but_seven true x n = absurd (n refl)
but_seven false x n = refl

-- a verdict other than 7 is that of the other rows, whatever the room
module _ (list : List ℕ) (t : Table) (r : Request) where
  asked : List (Bool × Refusal)
  asked =
      (not (good_request r), BadRequest) ∷ (not (held (history t) r.event), NotHeld) ∷
      (ltb r.event r.participation, NotYetParticipating) ∷ []

  last : Reply
  last = closing (outcome (method_of (group list) r) (history t))

  any_room : (n : ℕ) → (number_in (verdict list t r n) ≡ 7 → ⊥) → verdict list t r n ≡ first_of (table_refusals t) (first_of (list_refusals list) (first_of asked last))
  unfolding verdict by_list methodology request_refusals asked last first_of
  any_room n differs =
      same_after (table_refusals t) (by_list list (history t) r n) (first_of (list_refusals list) (first_of asked last))
      (same_after (list_refusals list) (methodology (group list) (history t) r n) (first_of asked last)
      (same_after asked (cond (ltb n (r.e - r.s)) (refused NoRoom) last) last (but_seven (ltb n (r.e - r.s)) last))) differs

  not_seven : number_in (verdict list t r most_quarters) ≡ 7 → ⊥
  not_seven e = room_enough r list t (seven (verdict list t r most_quarters) e)

  -- and so with room for a day's quarters
  room_for_any : (n : ℕ) → (number_in (verdict list t r n) ≡ 7 → ⊥) → verdict list t r n ≡ verdict list t r most_quarters
  room_for_any n differs = any_room n differs ∙ sym (any_room most_quarters not_seven)

-- the reply of a call with room for any event
module _ (c : Call) where
  roomy : Reply
  roomy = first_of (file_rows c) (verdict (moves c) (extract c) (request c) most_quarters)

  same_reply : (out : List ℕ) → (number_in (reply_of c out) ≡ 7 → ⊥) → reply_of c out ≡ roomy
  unfolding roomy
  same_reply out differs =
      over_extract c out ∙
      same_after (file_rows c) (verdict (moves c) (extract c) (request c) (room c out)) (verdict (moves c) (extract c) (request c) most_quarters)
      (room_for_any (moves c) (extract c) (request c) (room c out)) (rw (over_extract c out) at differs)

  never : number_in roomy ≡ 7 → ⊥
  unfolding roomy
  never e =
      let n = passes is_seven (file_rows c) (verdict (moves c) (extract c) (request c) most_quarters) (file_other c) (eq-eqb (number_in roomy) 7 e) in
      not_seven (moves c) (extract c) (request c) (rw (none_early (file_rows c) (verdict (moves c) (extract c) (request c) most_quarters) n) at e)

  tells : (name : ℕ) {told : ℤ} → told ≡ or_nothing (told_by (answer_of roomy) name) → Tells c name told
  tells name e =
      record {
        same = λ a out after d differs.
            let is = gets_answer c a out after (reply_of c out) d.first.one in
            e ∙ ap (λ (x : Result Answer Refusal). or_nothing (told_by x name)) (sym (is ∙ ap answer_of (same_reply out (λ k. differs (ap result is ∙ result_is (reply_of c out) ∙ k)))));
        never_seven = λ z k. never (told_number roomy (sym (rw z at e) ∙ k));
      }

pub table_tells : (list : List ℕ) (t : Table) (r : Request) (name : ℕ) {told : ℤ} → told ≡ or_nothing (told_by (answer_of (verdict list t r most_quarters)) name) → Tells (over_table list t r) name told
unfolding roomy file_rows first_of
table_tells list t r name e = tells (over_table list t r) name e

pub file_tells : (file : List ℕ) (place name : ℕ) {told : ℤ} → told ≡ or_nothing (told_by (answer_of (file_reply file place most_bytes)) name)
    → Tells (of_file file place) name told
unfolding roomy
file_tells file place name e = tells (of_file file place) name (e ∙ ap (λ (x : Reply). or_nothing (told_by (answer_of x) name)) (file_rows_lem file place most_bytes))

-- ---- one result: no two differing results meet a contract
pub demands_unique : (c : Call) {a a' : Result Answer Refusal} {out after after' : List ℕ} → Demands c a out after → Demands c a' out after'
    → (a ≡ a') × (after ≡ after')
demands_unique (over_table list t r) p q = answers_unique p.first.one q.first.one
demands_unique (of_file file place) p q = answers_in_bytes_unique p.first.one q.first.one

pub entry_unique : (c : Call) {r r' : ℕ} {out after after' : List ℕ} → EntryDemands c r out after → EntryDemands c r' out after'
    → (r ≡ r') × (after ≡ after')
entry_unique c p q =
    let u = demands_unique c p.meets q.meets in
    (p.number ∙ ap result u.0 ∙ sym q.number, u.1)

-- a call with room for any event, whose answer is not 7
pub record Roomy (c : Call) : Type 0 where
  pub answer : Result Answer Refusal
  pub out : List ℕ
  pub after : List ℕ
  pub meets : Demands c answer out after
  pub differs : result answer ≡ 7 → ⊥

roomy_call : (c : Call) → Roomy c
unfolding roomy file_rows first_of
roomy_call (over_table list t r) =
    record {
      answer = answer_of (verdict list t r most_quarters);
      out = replicate most_quarters 0;
      after = written (verdict list t r most_quarters) (replicate most_quarters 0);
      meets = demands (over_table list t r) _ _ _ (record { answer = refl; output = refl });
      differs = λ e. never (over_table list t r) (sym (result_is (verdict list t r most_quarters)) ∙ e);
    }
roomy_call (of_file file place) =
    record {
      answer = answer_of (file_reply file place most_bytes);
      out = replicate most_bytes 0;
      after = bytes_written (file_reply file place most_bytes) (replicate most_bytes 0);
      meets = demands (of_file file place) _ _ _ (record { answer = refl; output = refl });
      differs = λ e.
          never (of_file file place)
          (sym (ap number_in (file_rows_lem file place most_bytes)) ∙ sym (result_is (file_reply file place most_bytes)) ∙ e);
    }

pub tells_unique : (c : Call) (name : ℕ) {x y : ℤ} → Tells c name x → Tells c name y → x ≡ y
tells_unique c name p q =
    let k = roomy_call c in
    unique (p.same k.answer k.out k.after k.meets k.differs) (q.same k.answer k.out k.after k.meets k.differs)
