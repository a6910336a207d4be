-- No two results meet the contract of `is_extract`, and no two parts that of `day_part`.
use Prim.Native.Nat.{ℕ}
use mathlib.Core.Path.{◌≡◌}
use mathlib.Core.Bool.{Bool}
use mathlib.Core.List.{List}
use lib.ListN.{length, replicate, length-replicate}
use Rattle.base_lists.proofs.Unique.{unique}
use Rattle.method.specs.Table.{Table, is_extract}
use Rattle.table_days.specs.Lent.{table_of}
use Rattle.table_days.specs.Part.{DayPart}

-- a result that is the same whatever so many readings are, is one result: there are so many, for every number
pub count_unique : {A : Type 0} (f : List ℕ → A) (count : ℕ) {r r' : A} → ((readings : List ℕ) → length readings ≡ count → r ≡ f readings)
    → ((readings : List ℕ) → length readings ≡ count → r' ≡ f readings) → r ≡ r'
count_unique f count p q =
    let counted = length-replicate {A = ℕ} count 0 in
    unique (p (replicate count 0) counted) (q (replicate count 0) counted)

pub extract_unique : (first : ℕ) (marks : List ℕ) (count : ℕ) {r r' : Bool}
    → ((readings : List ℕ) → length readings ≡ count → r ≡ is_extract (table_of first marks readings))
    → ((readings : List ℕ) → length readings ≡ count → r' ≡ is_extract (table_of first marks readings)) → r ≡ r'
extract_unique first marks count = count_unique (λ readings. is_extract (table_of first marks readings)) count

pub part_unique : {t : Table} {day : ℕ} {whole : ℕ × ℕ} {part part' : List ℕ} {at at' : ℕ × ℕ} → DayPart t day whole part at
    → DayPart t day whole part' at'
    → (part ≡ part') × (at.0 ≡ at'.0) × (at.1 ≡ at'.1)
part_unique p q = (unique p.list q.list, unique p.block q.block, unique p.byte q.byte)
