-- One pass over a row with a word in the hand. What the row will be stays the same at every step: the places passed, and then the rest with
-- the word in the hand pushed in.
use Prim.Native.Nat.{ℕ, suc, ◌+◌, ◌<◌, ◌≤◌, max, min}
use mathlib.Core.Path.{◌≡◌, sym, ◌∙◌}
use mathlib.Core.List.{List, ◌∷◌, ◌++◌, append-nil}
use native.Mathlib.Omega.{arith}
use native.Mathlib.Numerals.{add-one}
use lib.ListN.{take, drop, set, get_or, length, drop_of_length-le}
use lib.Seq.{drop-cons, take-suc-set, drop-set-lt, take_all, append_snoc}
use Rattle.engine_ranking.specs.Steps.{pushed}

pub keeps_hand : (w x : ℕ) (row : List ℕ) → x < w → pushed w (x ∷ row) ≡ w ∷ pushed x row
unfolding pushed
keeps_hand w x row h =
    let a : max w x ≡ w = omega arith in
    let b : min w x ≡ x = omega arith in
    rw (a, b)

pub keeps_own : (w x : ℕ) (row : List ℕ) → w ≤ x → pushed w (x ∷ row) ≡ x ∷ pushed w row
unfolding pushed
keeps_own w x row h =
    let a : max w x ≡ x = omega arith in
    let b : min w x ≡ w = omega arith in
    rw (a, b)

-- the first `i` places of a row are passed, with a word in the hand
module _ (row : List ℕ) (carry i : ℕ) {whole : List ℕ} (will : take i row ++ pushed carry (drop i row) ≡ whole) where
  pub next_passed : {high low : ℕ} → i < length row → high ≡ max carry (get_or row i 0) → low ≡ min carry (get_or row i 0)
      → take (i + 1) (set row i high) ++ pushed low (drop (i + 1) (set row i high)) ≡ whole
  unfolding pushed
  next_passed {high} {low} o e f =
      let k : i < suc i = omega arith in
      rw (add-one, take-suc-set row i high o, drop-set-lt (suc i) row i high k, e, f)
      (append_snoc (take i row) (max carry (get_or row i 0)) (pushed (min carry (get_or row i 0)) (drop (suc i) row))
      ∙ (rw (drop-cons row i 0 o) at will))

  pub all_passed : length row ≤ i → row ≡ whole
  unfolding pushed
  all_passed o = sym (append-nil row) ∙ (rw (take_all i row o, drop_of_length-le row o) at will)
