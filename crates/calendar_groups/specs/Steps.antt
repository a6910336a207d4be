-- What the functions over a list of moves give to each other.
use Rattle.std.specs.Prelude.{ℕ, ◌/◌, length, Bool, true, ◌&&◌, List, [], ◌∷◌, ltb}
use Rattle.std.specs.Simd.{first_chunks}

-- the pairs of a list of moves; half a pair is none
abbrev pub pairs : List ℕ → List (List ℕ)
pairs moves = first_chunks 2 (length moves / 2) moves

-- each number of a list is below the next
unfoldable pub rising : List ℕ → Bool
rising [] = true
rising (a ∷ []) = true
rising (a ∷ b ∷ more) = ltb a b && rising (b ∷ more)
