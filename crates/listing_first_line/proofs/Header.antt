-- The first line as it is written, piece by piece, is the line as it is defined.
use Prim.Native.Nat.{ℕ}
use mathlib.Core.Path.{◌≡◌}
use mathlib.Core.List.{List, [], ◌∷◌, ◌++◌, append_assoc}
use Rattle.base_lists.specs.Ascii.{ascii}
use Rattle.base_digits.specs.Digits.{dec}
use Rattle.file_record.specs.declared.Shape.{Shape}
use Rattle.listing_lines.specs.Lines.{space, newline, spaced, line_text}
use Rattle.listing_lines.specs.Listing.{header_line, refused_line}
use Rattle.listing_lines.proofs.Lines.{word_and, spaced_word_and, next_is, four_parts}

pub refused_is : (offset : ℕ) → ascii "file refused " ++ dec offset ++ (newline ∷ []) ≡ line_text (refused_line offset)
unfolding line_text spaced refused_line
refused_is offset = simp append_assoc

words_in_a_row : (w a b p f h n : List ℕ)
    → w ++ (space ∷ []) ++ p ++ (space ∷ a ++ (space ∷ []) ++ f) ++ (space ∷ b ++ (space ∷ []) ++ h) ++ (space ∷ n) ++ (newline ∷ [])
    ≡ line_text (w ∷ p ∷ a ∷ f ∷ b ∷ h ∷ n ∷ [])
words_in_a_row w a b p f h n =
    rw (word_and w p, spaced_word_and a f, spaced_word_and b h, next_is n) (four_parts w (p ∷ []) (a ∷ f ∷ []) (b ∷ h ∷ []) (n ∷ []))

pub header_is : (file : Shape)
    → ascii "portfolio " ++ dec file.portfolio ++ (ascii " from " ++ dec file.participation) ++ (ascii " held " ++ dec file.first)
    ++ (ascii " " ++ dec file.days) ++ (newline ∷ []) ≡ line_text (header_line file)
unfolding header_line
header_is file =
    words_in_a_row (ascii "portfolio") (ascii "from") (ascii "held") (dec file.portfolio) (dec file.participation) (dec file.first) (dec file.days)
