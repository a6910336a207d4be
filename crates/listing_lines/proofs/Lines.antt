-- The lines as they are written, piece by piece, are the lines as they are defined.
use Prim.Native.Nat.{ℕ, ◌≤◌, ◌<◌, min}
use mathlib.Core.Path.{◌≡◌, refl, sym, ◌∙◌}
use mathlib.Core.List.{List, [], ◌∷◌, ◌++◌, append_assoc, append-nil}
use mathlib.Core.Logic.{⊎_elim}
use native.Mathlib.Omega.{arith}
use lib.ListN.{length, take}
use lib.Seq.{take_all}
use Rattle.base_lists.proofs.Bools.{lt-or-le}
use Rattle.listing_lines.specs.Lines.{Field, space, newline, spaced, line_text}

-- fields in a row
spaced_both : (f g : List Field) → spaced (f ++ g) ≡ spaced f ++ spaced g
unfolding spaced
spaced_both [] g = refl
spaced_both (x ∷ f) g = simp (spaced_both f g, append_assoc)

-- a word and what stands after it, as the words of a piece have their spaces
pub word_and : (w n : List ℕ) → w ++ (space ∷ []) ++ n ≡ w ++ spaced (n ∷ [])
unfolding spaced
word_and w n = rw (append_assoc, append-nil)

pub spaced_word_and : (w n : List ℕ) → space ∷ w ++ (space ∷ []) ++ n ≡ spaced (w ∷ n ∷ [])
unfolding spaced
spaced_word_and w n = rw (append_assoc, append-nil)

pub next_is : (n : List ℕ) → space ∷ n ≡ spaced (n ∷ [])
unfolding spaced
next_is n = rw append-nil

pub fields_both : (f g : List Field) → spaced f ++ spaced g ≡ spaced (f ++ g)
fields_both f g = rw spaced_both

-- a line by its first field and the others in three parts
pub line_is : (f : Field) (a b c : List Field) → f ++ spaced a ++ spaced b ++ (spaced c ++ (newline ∷ [])) ≡ line_text (f ∷ a ++ b ++ c)
unfolding line_text
line_is f a b c = rw (spaced_both (a ++ b) c, spaced_both a b) (simp append_assoc)

pub four_parts : (f : Field) (a b c d : List Field)
    → f ++ spaced a ++ spaced b ++ spaced c ++ spaced d ++ (newline ∷ []) ≡ line_text (f ∷ a ++ b ++ c ++ d)
unfolding line_text
four_parts f a b c d = rw (spaced_both (a ++ b ++ c) d, spaced_both (a ++ b) c, spaced_both a b) (simp append_assoc)

-- a space before each of two fields is the space that parts them
pub three_fields : (a b c : List ℕ) → a ++ (space ∷ b) ++ (space ∷ c) ≡ a ++ spaced (b ∷ c ∷ [])
unfolding spaced
three_fields a b c = rw (append_assoc, append-nil)

-- the first of a list, no more than it has
pub take_least : (k n : ℕ) (l : List ℕ) → length l ≡ n → take (min k n) l ≡ take k l
take_least k n l size = ⊎_elim all some (lt-or-le n k)
  where
    all : n < k → take (min k n) l ≡ take k l
    all h = take_all (min k n) l (omega arith) ∙ sym (take_all k l (omega arith))

    some : k ≤ n → take (min k n) l ≡ take k l
    some h = let here : min k n ≡ k = omega arith in rw here
