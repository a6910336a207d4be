-- No two results meet the contract of `of_marks`.
use Prim.Native.Nat.{ℕ}
use mathlib.Core.Path.{◌≡◌}
use mathlib.Core.List.{List}
use lib.ListN.{length, take}
use Rattle.method.specs.Verdict.{table_refusals}
use Rattle.std.specs.Prelude.{Result}
use Rattle.method.specs.declared.Refusal.{Refusal}
use Rattle.engine_refusals.specs.Steps.{tested}
use Rattle.table_days.specs.Lent.{table_of}
use Rattle.table_days.proofs.Laws.{count_unique}

pub marks_unique : (first : ℕ) (marks : List ℕ) (count : ℕ) {r r' : Result (Unit {0}) Refusal}
    → ((readings : List ℕ) → length readings ≡ count → r ≡ tested (take 2 (table_refusals (table_of first marks readings))))
    → ((readings : List ℕ) → length readings ≡ count → r' ≡ tested (take 2 (table_refusals (table_of first marks readings)))) → r ≡ r'
marks_unique first marks count = count_unique (λ readings. tested (take 2 (table_refusals (table_of first marks readings)))) count
