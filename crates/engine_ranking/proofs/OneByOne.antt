-- Words put into a row one after the other: what is left to do is the rest of the words.
use Prim.Native.Nat.{ℕ, suc, min, ◌+◌, ◌<◌, ◌≤◌}
use mathlib.Core.Path.{◌≡◌, refl, sym, ◌∙◌}
use mathlib.Core.List.{List, [], ◌∷◌}
use mathlib.Core.Logic.{⊎_elim}
use native.Mathlib.Omega.{arith}
use native.Mathlib.Numerals.{add-one}
use lib.ListN.{take, drop, get_or, length, drop_of_length-le}
use lib.Seq.{drop-cons, take_all}
use Rattle.std.specs.Prelude.{Result, Ok, Err}
use Rattle.std.specs.Result.{OkIff, result_unwrap_or}
use Rattle.base_lists.proofs.Bools.{lt-or-le}
use Rattle.engine_ranking.specs.Steps.{pushed, insert_all}

pub insert_none : (row : List ℕ) → insert_all [] row ≡ row
unfolding insert_all
insert_none row = refl

pub insert_next : (x : ℕ) (xs row : List ℕ) → insert_all (x ∷ xs) row ≡ insert_all xs (pushed x row)
unfolding insert_all
insert_next x xs row = refl

-- `i` of the words are put in, and what is left gives the whole
module _ (words row : List ℕ) (i : ℕ) {whole : List ℕ} (left : insert_all (drop i words) row ≡ whole) where
  pub one_more : {next : List ℕ} → i < length words → next ≡ pushed (get_or words i 0) row → insert_all (drop (i + 1) words) next ≡ whole
  one_more {next} o e =
      rw (e, add-one) (sym (insert_next (get_or words i 0) (drop (suc i) words) row) ∙ (rw (drop-cons words i 0 o) at left))

  pub all_in : length words ≤ i → row ≡ whole
  all_in o = sym (insert_none row) ∙ (rw (drop_of_length-le words o) at left)

-- of ten words the first so many
pub first_of_ten : (words : List ℕ) {n : ℕ} (count : ℕ) → length words ≡ 10 → n ≡ min count 10 → take n words ≡ take count words
first_of_ten words count l e =
    ⊎_elim (λ (o : count < 10). let k : min count 10 ≡ count = omega arith in rw (e, k))
    (λ (o : 10 ≤ count). let k : min count 10 ≡ 10 = omega arith in rw (e, k) (take_all 10 words (omega arith) ∙ sym (take_all count words (omega arith))))
    (lt-or-le count 10)

-- a number that is counted as far as it goes
pub counted_to : {E : Type 0} (r : Result ℕ E) (n : ℕ) → OkIff r (n < 4294967296) n → result_unwrap_or r 4294967295 ≡ min n 4294967295
counted_to (Ok x) n (o, e) = omega arith
counted_to (Err e) n f = ⊎_elim (λ o. absurd (f o)) (λ o. omega arith) (lt-or-le n 4294967296)
