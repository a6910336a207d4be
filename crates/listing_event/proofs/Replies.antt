-- What a call gives back, and the lines that are written of it, are the lines of the reply.
use Prim.Native.Nat.{ℕ, ◌-◌, ◌≤◌, min}
use mathlib.Core.Path.{◌≡◌, refl, sym, ◌∙◌}
use mathlib.Core.List.{List, ◌++◌, append-nil}
use native.Mathlib.Omega.{arith}
use lib.ListN.{length, take, drop, replicate}
use lib.Seq.{take_at, take-take}
use Rattle.method.specs.declared.Request.{Request}
use Rattle.method.specs.declared.Refusal.{Refusal}
use Rattle.method.specs.Table.{Table, most_quarters}
use Rattle.method.specs.Verdict.{Answer as Numbers, Reply, refused, answered, written, verdict}
use Rattle.std.specs.Prelude.{Result, Ok, Err}
use Rattle.engine_answer.specs.declared.Answer.{Answer}
use Rattle.engine_answer.specs.Answer.{in_five, answer_of, Answers}
use Rattle.engine_baseline.proofs.Answered.{Sound}
use Rattle.table_baseline.proofs.Laws.{sound}
use Rattle.listing_lines.specs.Lines.{line_text, lines_text}
use Rattle.listing_lines.specs.Listing.{refusal_line, event_lines, replied_lines, event_text}
use Rattle.listing_event.specs.Steps.{answer_lines}

-- ---- refused
refusal_lines : (r : Request) (reply : Reply) {w : Refusal} → ◌≡◌ {A = Result Answer Refusal} (Err w) (answer_of reply)
    → line_text (refusal_line r w) ≡ lines_text (event_lines r reply)
unfolding answer_of lines_text event_lines
refusal_lines r (refused v) {w} e =
    let same : w ≡ v = cc in rw (same, append-nil (line_text (refusal_line r v)))
refusal_lines r (answered a) e = let z : ◌≡◌ {A = ℕ} 0 1 = cc in absurd (omega arith)

pub refusal_text : (moves : List ℕ) (t : Table) (r : Request) {result : Result Answer Refusal} {w : Refusal} {out after : List ℕ}
    → Answers (verdict moves t r most_quarters) result out after → result ≡ Err w → line_text (refusal_line r w) ≡ event_text moves t r
unfolding event_text replied_lines
refusal_text moves t r q g = refusal_lines r (verdict moves t r most_quarters) (sym g ∙ q.answer)

-- ---- answered
first_days : (days : List ℕ) → length days ≤ 5 → take (length days) (in_five days) ≡ days
first_days days h = rw (take-take (length days) 5 (days ++ replicate 5 0) h) (take_at days (replicate 5 0) (length days) refl)

first_written : (r : Request) (a : Numbers) (out : List ℕ) → Sound r most_quarters a → take (min (r.e - r.s) most_quarters) (written (answered a) out) ≡ a.numerators
unfolding written
first_written r a out s = take_at a.numerators (drop (length a.numerators) out) (min (r.e - r.s) most_quarters) (omega (arith, s.quarters, s.enough))

abbrev numbers_of : Numbers → Answer
numbers_of a =
    record {
      chosen = record { days = in_five a.days; count = length a.days; reach = a.reach };
      denominator = a.denominator;
      adjustment = a.adjusted;
    }

listed_as : (moves : List ℕ) (t : Table) (r : Request) (a : Numbers) (out : List ℕ) {answer : Answer} → verdict moves t r most_quarters ≡ answered a
    → Sound r most_quarters a → ◌≡◌ {A = Result Answer Refusal} (Ok answer) (answer_of (answered a))
    → lines_text (answer_lines r answer (written (answered a) out)) ≡ event_text moves t r
unfolding answer_of event_text replied_lines event_lines
listed_as moves t r a out {answer} e s g =
    let same : answer ≡ numbers_of a = cc in rw (same, e, first_days a.days s.few, first_written r a out s)

-- the lines that are written of an answer are those of the event
pub listed : (moves : List ℕ) (t : Table) (r : Request) {result : Result Answer Refusal} {answer : Answer} {out after : List ℕ}
    → Answers (verdict moves t r most_quarters) result out after → result ≡ Ok answer → lines_text (answer_lines r answer after) ≡ event_text moves t r
unfolding answer_of
listed moves t r {result} {answer} {out} {after} q g = go (verdict moves t r most_quarters) refl (sym g ∙ q.answer) q.output
  where
    go : (reply : Reply) → verdict moves t r most_quarters ≡ reply → ◌≡◌ {A = Result Answer Refusal} (Ok answer) (answer_of reply) → after ≡ written reply out
        → lines_text (answer_lines r answer after) ≡ event_text moves t r
    go (refused w) e x y = let z : ◌≡◌ {A = ℕ} 0 1 = cc in absurd (omega arith)
    go (answered a) e x y = rw y (listed_as moves t r a out e (sound moves t r most_quarters e) x)
