-- A text is lines, a line is fields: one space parts fields, and every line ends in a newline.
use Rattle.std.specs.Prelude.{ℕ, List, [], ◌∷◌, ◌++◌}

-- a field is a word or a number, as bytes
abbrev pub Field : Type 0
Field = List ℕ

abbrev pub Line : Type 0
Line = List Field

abbrev pub space : ℕ
space = 32

abbrev pub newline : ℕ
newline = 10

-- fields, each after a space
unfoldable pub spaced : List Field → List ℕ
spaced [] = []
spaced (f ∷ fields) = space ∷ f ++ spaced fields

unfoldable pub line_text : Line → List ℕ
line_text [] = newline ∷ []
line_text (f ∷ fields) = f ++ spaced fields ++ (newline ∷ [])

unfoldable pub lines_text : List Line → List ℕ
lines_text [] = []
lines_text (l ∷ lines) = line_text l ++ lines_text lines
