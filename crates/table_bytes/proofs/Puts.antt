-- One law for each way out of the engine over a table with the numerators as bytes.
use Prim.Native.Nat.{ℕ, ◌-◌, ◌*◌, ◌/◌, ◌≤◌, min}
use mathlib.Core.Path.{◌≡◌, refl, sym, ap, ◌∙◌}
use mathlib.Core.List.{List}
use native.Mathlib.Omega.{arith}
use borrow.Author.Tests.{le-leb}
use lib.ListN.{length, take, drop, length-append}
use lib.Seq.{take_at}
use Rattle.std.specs.Prelude.{Result, Ok, Err}
use Rattle.base_lists.proofs.Places.{length_over}
use Rattle.calendar_groups.specs.Holidays.{group}
use Rattle.method.specs.declared.Request.{Request}
use Rattle.method.specs.declared.Refusal.{Refusal}
use Rattle.method.specs.Table.{Table, most_quarters, Day, History}
use Rattle.method.specs.Verdict.{Answer as MethodAnswer, Reply, refused, answered, by_list, written}
use Rattle.method_laws.proofs.ByList.{by_answered}
use Rattle.engine_rooms.specs.Rooms.{room_history}
use Rattle.engine_answer.specs.declared.Answer.{Answer}
use Rattle.engine_answer.specs.Answer.{answer_of, Answers}
use Rattle.engine_refusals.proofs.FirstRefusal.{GoodRequest}
use Rattle.method.proofs.Replies.{never_both}
use Rattle.engine_baseline.specs.Engine.{in_words, over_rooms}
use Rattle.engine_baseline.proofs.Answered.{sound}
use Rattle.table_directory.specs.Steps.{directory_of}
use Rattle.table_engine.specs.Steps.{over_table}
use Rattle.base_bytes.specs.PutFirst.{put_first}
use Rattle.base_bytes.specs.Bytes.{reading_bytes}
use Rattle.base_bytes.proofs.Bytes.{reading_length}
use Rattle.table_bytes.specs.Output.{bytes_written, AnswersInBytes}
use Rattle.table_bytes.proofs.Rooms.{room_same}

abbrev counted : Reply → ℕ
counted (refused w) = 0
counted (answered a) = length a.numerators

module _ (moves : List ℕ) (t : Table) (r : Request) where
  abbrev over : ℕ → Reply
  over room = over_table moves t r room

  abbrev shown : History Day
  shown = room_history r (directory_of t r.event) t.readings

  -- what an answer has
  record Has (room : ℕ) (a : MethodAnswer) : Type 0 where
    ranges : GoodRequest r
    enough : r.e - r.s ≤ room
    quarters : length a.numerators ≡ r.e - r.s

  has : (room : ℕ) {a : MethodAnswer} → over room ≡ answered a → Has room a
  unfolding over_table over_rooms in_words
  has room {a} e = go (by_list moves shown r room) refl e
    where
      go : (reply : Reply) → by_list moves shown r room ≡ reply → in_words r shown reply ≡ answered a → Has room a
      go (refused w) m x = absurd (never_both refl x)
      go (answered b) m x =
          let s = sound (group moves) shown r room (by_answered moves shown r room m) in
          record { ranges = s.ranges; enough = s.enough; quarters = sym (ap counted x) ∙ length_over _ (r.e - r.s) r.s }

  module _ (out : List ℕ) {given : Result Answer Refusal} (before : List ℕ) {after : List ℕ} (room : length before ≡ min (length out / 4) most_quarters)
      (q : Answers (over (length before)) given before after) where
    same : over (length before) ≡ over (length out / 4)
    same = ap over room ∙ room_same moves t r (length out / 4)

    answer_is : given ≡ answer_of (over (length out / 4))
    answer_is = q.answer ∙ ap answer_of same

    -- refused: the bytes are kept
    pub kept : {w : Refusal} {r : Result Answer Refusal} → given ≡ Err w → r ≡ Err w → AnswersInBytes (over (length out / 4)) r out out
    unfolding answer_of bytes_written
    kept {w} {r} g f = go (over (length out / 4)) (f ∙ sym g ∙ answer_is)
      where
        go : (reply : Reply) → r ≡ answer_of reply → AnswersInBytes reply r out out
        go (refused v) x = record { answer = x; output = refl }
        go (answered a) x = let z : ◌≡◌ {A = ℕ} 0 1 = cc in absurd (omega arith)

    -- the numerators, one for each of the event's quarters
    pub record Numerators (answer : Answer) : Type 0 where
      pub some : r.s ≤ r.e
      pub within : r.e - r.s ≤ length after
      pub size : length (take (r.e - r.s) after) ≡ r.e - r.s
      pub puts : {now : List ℕ} → now ≡ put_first (reading_bytes (take (r.e - r.s) after)) out → AnswersInBytes (over (length out / 4)) (Ok answer) out now

    pub numerators : {answer : Answer} → given ≡ Ok answer → Numerators answer
    unfolding answer_of written bytes_written put_first
    numerators {answer} g = go (over (length out / 4)) refl answer_is (q.output ∙ ap (λ (x : Reply). written x before) same)
      where
        go : (reply : Reply) → over (length out / 4) ≡ reply → given ≡ answer_of reply → after ≡ written reply before → Numerators answer
        go (refused w) v x y = let z : ◌≡◌ {A = ℕ} 0 1 = cc in absurd (omega arith)
        go (answered a) v x y =
            let its = has (length out / 4) v in
            let ranges = its.ranges in
            let fits = its.enough in
            let size = its.quarters in
            let rest = drop (length a.numerators) before in
            let first : take (r.e - r.s) after ≡ a.numerators = rw y (take_at a.numerators rest (r.e - r.s) size) in
            let long = reading_length a.numerators in
            let enough : 4 * length a.numerators ≤ length out = omega arith in
            record {
              some = omega arith;
              within = rw (y, length-append a.numerators rest) (omega arith);
              size = rw first size;
              puts = λ h. record { answer = rw v (sym g ∙ x); output = rw v (rw (first, long, le-leb (4 * length a.numerators) (length out) enough) at h) };
            }
