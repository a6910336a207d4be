-- What is told is of what was read, or of its refusal.
use Prim.Native.Nat.{ℕ, zero, suc, ◌+◌, ◌-◌, ◌<◌, ◌≤◌}
use mathlib.Core.Path.{◌≡◌, refl, sym, ap, ◌∙◌}
use mathlib.Core.List.{List}
use lib.ListN.{length}
use lib.IntN.{ℤ}
use Rattle.std.specs.Prelude.{Option, None, Result}
use native.Mathlib.Omega.{arith}
use mathlib.Core.Logic.{⊎_elim}
use Rattle.base_lists.proofs.Bools.{lt-or-le}
use Rattle.host_answer.proofs.Telling.{no_name}
use Rattle.method.specs.declared.Refusal.{Refusal}
use Rattle.file_record.specs.declared.Shape.{Shape}
use Rattle.file_record.specs.declared.Move.{Move}
use Rattle.method.specs.declared.Request.{Request}
use Rattle.host_answer.specs.Names.{by_name, row_from}
use Rattle.host_file.specs.OfFile.{shape_row, file_row, file_told, move_row, move_told, request_row, event_row, event_told}

pub of_read : {read read' : Result Shape Refusal} (name : ℕ) {x : Option ℤ} → read ≡ read' → x ≡ by_name (file_row read') name → x ≡ file_told read name
unfolding file_told
of_read name e h = h ∙ ap (λ (r : Result Shape Refusal). by_name (file_row r) name) (sym e)

pub of_move : {at at' : Result (Option Move) Refusal} (name : ℕ) {x : Option ℤ} → at ≡ at' → x ≡ by_name (move_row at') name → x ≡ move_told at name
unfolding move_told
of_move name e h = h ∙ ap (λ (a : Result (Option Move) Refusal). by_name (move_row a) name) (sym e)

pub of_event : {at at' : Result Request Refusal} (name : ℕ) {x : Option ℤ} → at ≡ at' → x ≡ by_name (event_row at') name → x ≡ event_told at name
unfolding event_told
of_event name e h = h ∙ ap (λ (a : Result Request Refusal). by_name (event_row a) name) (sym e)

-- the names that a row does not tell: those before its first, those of a gap before its last, and those past it
module _ (first : ℕ) (numbers : List (Option ℤ)) (named : 0 < first) (gap count : ℕ) (long : first + length numbers ≡ gap + count + 1)
    (inside : (k : ℕ) → k < count → None ≡ by_name (row_from first numbers) (gap + k)) where
  beside : (name : ℕ) → (name ≡ 0 → ⊥) → (first ≤ name → gap ≤ name) → (name ≡ gap + count → ⊥) → None ≡ by_name (row_from first numbers) name
  beside name z h n = ⊎_elim early (λ l. ⊎_elim (within l) late (lt-or-le name (gap + count + 1))) (lt-or-le name first)
    where
      some_name : 0 < name
      some_name = omega arith

      early : name < first → None ≡ by_name (row_from first numbers) name
      early k = no_name first numbers name named some_name (λ l. absurd (omega arith))

      late : gap + count + 1 ≤ name → None ≡ by_name (row_from first numbers) name
      late k = no_name first numbers name named some_name (λ l. omega arith)

      within : first ≤ name → name < gap + count + 1 → None ≡ by_name (row_from first numbers) name
      within l k =
          let later = h l in
          let other : name - gap < count = ⊎_elim (λ f. omega arith) (λ f. absurd (n (omega arith))) (lt-or-le name (gap + count)) in
          let is : gap + (name - gap) ≡ name = omega arith in
          rw (ap (by_name (row_from first numbers)) is) at (inside (name - gap) other)

-- none of the names of a file: in its gap are four of an event
of_an_event : (shape : Shape) (k : ℕ) → k < 4 → None ≡ by_name (shape_row shape) (17 + k)
unfolding by_name shape_row row_from
of_an_event shape zero h = refl
of_an_event shape (suc zero) h = refl
of_an_event shape (suc (suc zero)) h = refl
of_an_event shape (suc (suc (suc zero))) h = refl
of_an_event shape (suc (suc (suc (suc k)))) h = absurd (omega arith)

five : (name : ℕ) → (name ≡ 12 → ⊥) → (name ≡ 13 → ⊥) → (name ≡ 14 → ⊥) → (name ≡ 15 → ⊥) → (name ≡ 16 → ⊥) → 12 ≤ name → 17 ≤ name
five name a b c d e h = omega arith

pub no_name_of_a_file : (shape : Shape) (name : ℕ) → (name ≡ 0 → ⊥) → (name ≡ 12 → ⊥) → (name ≡ 13 → ⊥) → (name ≡ 14 → ⊥) → (name ≡ 15 → ⊥) → (name ≡ 16 → ⊥)
    → (name ≡ 21 → ⊥) → None ≡ by_name (shape_row shape) name
unfolding shape_row
no_name_of_a_file shape name z a b c d e n = beside 12 _ (omega arith) 17 4 refl (of_an_event shape) name z (five name a b c d e) n

-- none of the names of an event: in its gap are a file's moves, and the two of a move
of_moves : (r : Request) (k : ℕ) → k < 3 → None ≡ by_name (request_row r) (21 + k)
unfolding by_name request_row row_from
of_moves r zero h = refl
of_moves r (suc zero) h = refl
of_moves r (suc (suc zero)) h = refl
of_moves r (suc (suc (suc k))) h = absurd (omega arith)

four : (name : ℕ) → (name ≡ 17 → ⊥) → (name ≡ 18 → ⊥) → (name ≡ 19 → ⊥) → (name ≡ 20 → ⊥) → 17 ≤ name → 21 ≤ name
four name a b c d h = omega arith

pub no_name_of_an_event : (r : Request) (name : ℕ) → (name ≡ 0 → ⊥) → (name ≡ 17 → ⊥) → (name ≡ 18 → ⊥) → (name ≡ 19 → ⊥) → (name ≡ 20 → ⊥)
    → (name ≡ 24 → ⊥) → None ≡ by_name (request_row r) name
unfolding request_row
no_name_of_an_event r name z a b c d n = beside 17 _ (omega arith) 21 3 refl (of_moves r) name z (four name a b c d) n
