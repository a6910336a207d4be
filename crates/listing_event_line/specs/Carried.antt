-- A number that may be there, as a list.
use Rattle.std.specs.Prelude.{ℕ, List, [], ◌∷◌, Option, Some, None}

unfoldable pub there : Option ℕ → List ℕ
there None = []
there (Some n) = n ∷ []
