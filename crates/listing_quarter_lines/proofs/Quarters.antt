-- The quarter lines, one by one.
use Prim.Native.Nat.{ℕ, ◌+◌, ◌≤◌, ◌<◌}
use mathlib.Core.Path.{◌≡◌}
use mathlib.Core.List.{List, [], ◌∷◌, ◌++◌}
use native.Mathlib.Numerals.{add-one}
use lib.ListN.{length, drop, get_or, drop_of_length-le}
use lib.Seq.{drop-cons}
use Rattle.base_digits.specs.Digits.{dec}
use Rattle.method.specs.Adjustment.{rounded}
use Rattle.listing_lines.specs.Lines.{spaced, newline, line_text, lines_text}
use Rattle.listing_lines.specs.Listing.{quarter_line, quarter_lines}
use Rattle.listing_lines.specs.WriteSteps.{Writes}
use Rattle.listing_lines.proofs.Writing.{Writing, writing_next, writing_end}

-- three numbers and the end of the line
pub quarter_is : (denominator t numerator kilowatts : ℕ) → kilowatts ≡ rounded numerator denominator
    → dec t ++ spaced (dec numerator ∷ dec kilowatts ∷ []) ++ (newline ∷ []) ≡ line_text (quarter_line denominator t numerator)
unfolding line_text quarter_line
quarter_is denominator t numerator kilowatts e = rw e

-- of the quarters of the numerators, those up to place `i` are written, and `u` is next
module _ {d : List ℕ} {at : ℕ} {t : List ℕ} {r : ℕ} {e : List ℕ} (denominator u : ℕ) (ns : List ℕ) (i : ℕ)
    (q : Writing d at t r e (lines_text (quarter_lines denominator u (drop i ns)))) where
  pub quarters_next : {s : ℕ} {f : List ℕ} → i < length ns → Writes e r (line_text (quarter_line denominator u (get_or ns i 0))) s f
      → Writing d at t s f (lines_text (quarter_lines denominator (u + 1) (drop (i + 1) ns)))
  unfolding lines_text quarter_lines
  quarters_next h w = rw (add-one i, add-one u) (writing_next (rw (drop-cons ns i 0 h) at q) w)

  pub quarters_end : length ns ≤ i → Writes d at t r e
  unfolding lines_text quarter_lines
  quarters_end h = writing_end (rw (drop_of_length-le ns h) at q)
