-- 01, "Record file, listing, host entry": numbers as bytes.
use Rattle.std.specs.Prelude.{ℕ, zero, suc, ◌/◌, ◌%◌, List, [], ◌∷◌, ◌++◌}

-- "numbers are little-endian": a number as `width` bytes, the lowest first
unfoldable pub bytes : ℕ → ℕ → List ℕ
bytes zero n = []
bytes (suc width) n = n % 256 ∷ bytes width (n / 256)

-- "readings of 4"
unfoldable pub reading_bytes : List ℕ → List ℕ
reading_bytes [] = []
reading_bytes (x ∷ xs) = bytes 4 x ++ reading_bytes xs
