-- Bytes that a loop stores one by one.
use Prim.Native.Nat.{ℕ, ◌≤◌}
use mathlib.Core.Path.{◌≡◌, ◌∙◌}
use mathlib.Core.List.{List}
use lib.ListN.{length, get_or}
use Rattle.std.proofs.lemmas.List.{map-id}
use Rattle.base_lists.proofs.Places.{Storing, storing_end, over_list}

-- where all are stored the part is the bytes
pub copied : {bytes part now : List ℕ} {i : ℕ} → length part ≡ length bytes → Storing (λ k. get_or bytes k 0) part now i → length now ≤ i → now ≡ bytes
copied {bytes} same w done = storing_end w done ∙ rw same (over_list (λ x. x) bytes ∙ map-id bytes)
