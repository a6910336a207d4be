-- What is told by name: one law for each way out of the code.
use Prim.Native.Nat.{ℕ, zero, suc, ◌+◌, ◌-◌, ◌≤◌, ◌<◌, min}
use mathlib.Core.Path.{◌≡◌, refl, sym, ap, ◌∙◌}
use mathlib.Core.List.{List, [], ◌∷◌, ◌++◌, map}
use mathlib.Core.Logic.{⊎_elim}
use native.Mathlib.Omega.{arith}
use lib.ListN.{length, get_or, take, replicate, length-map, length-take, length-replicate, length-append, get_or-eq_default, get_or-append, get_or-replicate}
use lib.Seq.{get_or-take}
use lib.IntN.{ℤ}
use Rattle.std.specs.Prelude.{Option, Some, None, Result}
use Rattle.base_lists.proofs.Bools.{lt-or-le}
use Rattle.method.specs.declared.Refusal.{Refusal}
use Rattle.method.specs.declared.Refusal.TheVariants.{BadFile, NoEvent, BadTable, BadMark, BadReading, BadRequest, NotHeld}
use Rattle.method.specs.declared.Refusal.TheVariants.{NotYetParticipating, NoRoom, MarginTooShort, TooFew, NoAdjustmentWindow, Unwritable, BadMoves}
use Rattle.method.specs.Verdict.{carries}
use Rattle.method.specs.Told.{in_two}
use Rattle.engine_answer.specs.declared.Answer.{Answer}
use Rattle.host_answer.specs.Names.{told, by_name, refusal_row, row_from}
use Rattle.host_answer.specs.Telling.{day_of_rank, answer_row, row_of, told_by}

-- past a row
pub past : (row : List (Option ℤ)) (name : ℕ) → length row ≤ name → None ≡ by_name row name
unfolding by_name
past row name h = sym (get_or-eq_default row None h)

-- one of the first `count` numbers, and what is past them
module _ (count : ℕ) (numbers : List ℕ) (place : ℕ) where
  pub number_past : min count (length numbers) ≤ place → None ≡ by_name (map told (take count numbers)) place
  number_past h =
      past (map told (take count numbers)) place (rw (length-map (take count numbers) told, length-take count numbers) h)

  pub number_there : place < count → place < length numbers → told (get_or numbers place 0) ≡ by_name (map told (take count numbers)) place
  unfolding by_name
  number_there h k =
      let within : place < length (take count numbers) = rw (length-take count numbers) (omega arith) in
      ap told (sym (get_or-take count numbers place 0 h)) ∙ sym (at_each (take count numbers) place within)
    where
      at_each : (l : List ℕ) (i : ℕ) → i < length l → get_or (map told l) i None ≡ told (get_or l i 0)
      at_each [] i o = absurd (omega arith)
      at_each (x ∷ l) zero o = refl
      at_each (x ∷ l) (suc i) o = at_each l i (omega arith)

-- the numbers that a refusal carries
two_at_most : (w : Refusal) → length (carries w) ≤ 2
two_at_most (BadFile place) = omega arith
two_at_most NoEvent = omega arith
two_at_most BadTable = omega arith
two_at_most (BadMark place) = omega arith
two_at_most (BadReading place) = omega arith
two_at_most BadRequest = omega arith
two_at_most NotHeld = omega arith
two_at_most NotYetParticipating = omega arith
two_at_most NoRoom = omega arith
two_at_most (MarginTooShort days) = omega arith
two_at_most (TooFew size reach) = omega arith
two_at_most (NoAdjustmentWindow reach) = omega arith
two_at_most Unwritable = omega arith
two_at_most BadMoves = omega arith

module _ (w : Refusal) {name : ℕ} where
  pub nothing_carried : 3 ≤ name → None ≡ by_name (refusal_row w) name
  nothing_carried h = past (refusal_row w) name (unfold refusal_row in rw (length-map (carries w) told) (omega (arith, two_at_most w)))

  module _ {two : List (Option ℕ)} (e : two ≡ in_two (carries w)) where
    pub first_carried : {x : ℕ} → name ≡ 1 → get_or two 0 None ≡ Some x → told x ≡ by_name (refusal_row w) name
    unfolding by_name refusal_row
    first_carried z f = rw z (go (carries w) (rw e at f))
      where
        go : (l : List ℕ) {x : ℕ} → get_or (in_two l) 0 None ≡ Some x → told x ≡ get_or (map told l) 0 None
        go [] f = cc
        go (y ∷ l) f = let is : y ≡ _ = cc in ap told (sym is)

    pub second_carried : {x : ℕ} → name ≡ 2 → get_or two 1 None ≡ Some x → told x ≡ by_name (refusal_row w) name
    unfolding by_name refusal_row
    second_carried z f = rw z (go (carries w) (rw e at f))
      where
        go : (l : List ℕ) {x : ℕ} → get_or (in_two l) 1 None ≡ Some x → told x ≡ get_or (map told l) 1 None
        go [] f = cc
        go (y ∷ []) f = cc
        go (y ∷ z ∷ l) f = let is : z ≡ _ = cc in ap told (sym is)

    pub no_first : name ≡ 1 → get_or two 0 None ≡ None → None ≡ by_name (refusal_row w) name
    unfolding by_name refusal_row
    no_first z f = rw z (go (carries w) (rw e at f))
      where
        go : (l : List ℕ) → ◌≡◌ {A = Option ℕ} (get_or (in_two l) 0 None) None → ◌≡◌ {A = Option ℤ} None (get_or (map told l) 0 None)
        go [] f = refl
        go (y ∷ l) f = cc

    pub no_second : name ≡ 2 → get_or two 1 None ≡ None → None ≡ by_name (refusal_row w) name
    unfolding by_name refusal_row
    no_second z f = rw z (go (carries w) (rw e at f))
      where
        go : (l : List ℕ) → ◌≡◌ {A = Option ℕ} (get_or (in_two l) 1 None) None → ◌≡◌ {A = Option ℤ} None (get_or (map told l) 1 None)
        go [] f = refl
        go (y ∷ []) f = refl
        go (y ∷ z ∷ l) f = cc

-- of what is not refused: a name that is neither 0 nor one of those from `first` on
pub no_name : (first : ℕ) (numbers : List (Option ℤ)) (name : ℕ) → 0 < first → 0 < name → (first ≤ name → first + length numbers ≤ name)
    → None ≡ by_name (row_from first numbers) name
unfolding by_name row_from
no_name first numbers zero f o h = absurd (omega arith)
no_name first numbers (suc name) f o h = ⊎_elim before after (lt-or-le (suc name) first)
  where
    unnamed : List (Option ℤ)
    unnamed = replicate (first - 1) None

    before : suc name < first → None ≡ get_or (unnamed ++ numbers) name None
    before k =
        let within : name < length unnamed = rw (length-replicate {A = Option ℤ} (first - 1) None) (omega arith) in
        sym (get_or-append unnamed numbers None name within ∙ get_or-replicate (first - 1) name None None (omega arith))

    after : first ≤ suc name → None ≡ get_or (unnamed ++ numbers) name None
    after k =
        let all = h k in
        sym (get_or-eq_default (unnamed ++ numbers) None (rw (length-append unnamed numbers, length-replicate {A = Option ℤ} (first - 1) None) (omega arith)))

-- the day of a rank
rank_told_lem : (a : Answer) (rank : ℕ) → rank < 5 → day_of_rank a.chosen rank ≡ by_name (answer_row a) (4 + rank)
unfolding by_name answer_row row_from
rank_told_lem a zero h = refl
rank_told_lem a (suc zero) h = refl
rank_told_lem a (suc (suc zero)) h = refl
rank_told_lem a (suc (suc (suc zero))) h = refl
rank_told_lem a (suc (suc (suc (suc zero)))) h = refl
rank_told_lem a (suc (suc (suc (suc (suc rank))))) h = absurd (omega arith)

pub day_told : (a : Answer) (name : ℕ) {x : Option ℤ} → 4 ≤ name → name ≤ 8 → x ≡ by_name (map told (take a.chosen.count a.chosen.days)) (name - 4)
    → x ≡ by_name (answer_row a) name
unfolding day_of_rank
day_told a name h k e =
    let n : 4 + (name - 4) ≡ name = omega arith in
    e ∙ (rw n at (rank_told_lem a (name - 4) (omega arith)))

-- what is told is of the answer, or of its refusal
pub by_answer : (a : Result Answer Refusal) (name : ℕ) {b : Result Answer Refusal} {x : Option ℤ} → a ≡ b → x ≡ by_name (row_of b) name → x ≡ told_by a name
unfolding told_by
by_answer a name e h = h ∙ ap (λ (b : Result Answer Refusal). by_name (row_of b) name) (sym e)
