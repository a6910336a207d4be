-- Laws about the part that starts at a place.
use Prim.Native.Nat.{ℕ, ◌+◌, ◌*◌, ◌≤◌, ◌<◌}
use mathlib.Core.Path.{◌≡◌}
use mathlib.Core.Bool.{Bool, true, false, cond}
use mathlib.Core.List.{List, []}
use native.Mathlib.Omega.{arith}
use borrow.Author.Tests.{le-leb, lt-leb}
use lib.Dec.{leb}
use lib.ListN.{length, take, drop, length-take}
use Rattle.method.specs.Table.{size, most_quarters}
use Rattle.method.proofs.Tables.{size_most}
use Rattle.engine_rooms.specs.Rooms.{readings_at}
use Rattle.engine_rooms.specs.Steps.{readings_start, ReadingsAt}
use Rattle.base_lists.proofs.Unique.{unique}

-- it has at most `size` readings
pub part_few : (size : ℕ) (readings : List ℕ) (at : ℕ) → length (readings_at size readings at) ≤ size
unfolding readings_at
part_few size readings at = go (leb (at + size) (length readings))
  where
    go : (b : Bool) → length (cond b (take size (drop at readings)) []) ≤ size
    go true = rw length-take (omega arith)
    go false = omega arith

-- a day's part has no more readings than a day
pub part_most : (readings : List ℕ) (at d : ℕ) {k : ℕ} → k ≡ size d → length (readings_at k readings at) ≤ most_quarters
part_most readings at d {k} e = omega (arith, part_few k readings at, size_most d)

module _ {size : ℕ} {readings : List ℕ} {at : ℕ} {whole : ℕ × ℕ} {part : List ℕ} {stands : ℕ × ℕ} (block : stands.0 ≡ whole.0) where
  pub part_inside : at + size ≤ length readings → part ≡ take size (drop at readings) → stands.1 ≡ whole.1 + 4 * at → ReadingsAt size readings at whole part stands
  unfolding readings_at readings_start
  part_inside h l b =
      let e = le-leb (at + size) (length readings) h in record { list = rw e l; block = block; byte = rw e b }

  pub part_past : length readings < at + size → part ≡ [] → stands.1 ≡ whole.1 → ReadingsAt size readings at whole part stands
  unfolding readings_at readings_start
  part_past h l b =
      let e = lt-leb (at + size) (length readings) h in record { list = rw e l; block = block; byte = rw e (omega arith) }

-- no two parts meet the contract
pub part_unique : {size : ℕ} {readings : List ℕ} {at : ℕ} {whole : ℕ × ℕ} {part part' : List ℕ} {stands stands' : ℕ × ℕ} → ReadingsAt size readings at whole part stands
    → ReadingsAt size readings at whole part' stands'
    → (part ≡ part') × (stands.0 ≡ stands'.0) × (stands.1 ≡ stands'.1)
part_unique p q = (unique p.list q.list, unique p.block q.block, unique p.byte q.byte)
