-- The same days in another order, by computation of the definitions.
use mathlib.Core.Path.{◌≡◌, refl, ap}
use mathlib.Core.Bool.{true}
use Prim.Native.Nat.{ℕ, ◌+◌, ◌≤◌}
use native.Mathlib.Omega.{arith}
use lib.ListN.{get_or}
use Rattle.method.specs.Table.{Table, held_days, day_of, held, history}
use Rattle.method.specs.Verdict.{well_formed}
use Rattle.method.specs.CutTables.{LongerFormed}
use Rattle.method.specs.AnotherOrder.{AnotherOrder, last_saturday, saturdays}
use Rattle.method.proofs.Histories.{held_first, held_last}
use Rattle.method.proofs.Checks.{definitions}

-- a well-formed table that holds day 6972 as `last_saturday` does
longer : (l : Table) → well_formed l ≡ true → l.first ≤ 6972 → 6973 ≤ l.first + held_days l → day_of l 6972 ≡ day_of last_saturday 6972
    → LongerFormed l last_saturday
unfolding definitions
longer l formed starts ends same =
    record { formed = formed; longer = record { starts = starts; ends = ends; agrees = agrees } }
  where
    agrees : (d : ℕ) → held (history last_saturday) d ≡ true → day_of l d ≡ day_of last_saturday d
    agrees d e =
        let it : d ≡ 6972 = omega (arith, held_first (history last_saturday) d e, held_last (history last_saturday) d e) in
        rw it same

eligible_longer : LongerFormed (saturdays 0) last_saturday
unfolding definitions
eligible_longer = longer (saturdays 0) refl (omega arith) (omega arith) refl

spare_longer : LongerFormed (saturdays 1) last_saturday
unfolding definitions
spare_longer = longer (saturdays 1) refl (omega arith) (omega arith) refl

pub another_order : AnotherOrder
unfolding definitions
another_order =
    record {
      margin = refl;
      eligible_longer = eligible_longer;
      eligible_window = refl;
      spare_longer = spare_longer;
      spare_window = refl;
      undecided = record {
        one = saturdays 0;
        other = saturdays 1;
        one_longer = eligible_longer;
        other_longer = spare_longer;
        differ = λ e. let nearest : ◌≡◌ {A = ℕ} 6965 6958 = ap (λ l. get_or l 0 0) e in omega arith;
      };
    }
