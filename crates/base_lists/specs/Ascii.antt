-- Texts as bytes.
use Rattle.std.specs.Prelude.{ℕ, List, [], ◌∷◌}
use Prim.Native.Char.{code}
use Prim.Native.String.{String, [] as empty, ◌∷◌ as ◌then◌}

-- the bytes of an ASCII text
abbrev pub ascii : String → List ℕ
ascii empty = []
ascii (c then text) = code c ∷ ascii text
