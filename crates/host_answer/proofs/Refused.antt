-- A row after refusals, by what their tests come to.
use Prim.Native.Nat.{ℕ}
use mathlib.Core.Path.{◌≡◌, refl}
use mathlib.Core.Bool.{Bool, true, false, cond}
use mathlib.Core.List.{List, [], ◌∷◌, ◌++◌}
use native.Mathlib.Omega.{arith}
use lib.IntN.{ℤ}
use Rattle.std.specs.Prelude.{Option, Result, Ok, Err}
use Rattle.method.specs.declared.Refusal.{Refusal}
use Rattle.engine_refusals.specs.Steps.{tested}
use Rattle.engine_refusals.proofs.FirstRefusal.{passed_next}
use Rattle.host_answer.specs.Names.{refusal_row, row_after}

pub row_append : (a b : List (Bool × Refusal)) (row : List (Option ℤ)) → row_after (a ++ b) row ≡ row_after a (row_after b row)
unfolding row_after
row_append [] b row = refl
row_append (t ∷ ts) b row = rw (row_append ts b row)

pub row_passed : (ts : List (Bool × Refusal)) (row : List (Option ℤ)) → tested ts ≡ Ok tt → row_after ts row ≡ row
unfolding row_after
row_passed [] row e = refl
row_passed (t ∷ ts) row e = let w = passed_next t.0 t.1 ts e in rw w.0 (row_passed ts row w.1)

pub row_failed : (ts : List (Bool × Refusal)) (w : Refusal) (row : List (Option ℤ)) → tested ts ≡ Err w → row_after ts row ≡ refusal_row w
unfolding row_after tested
row_failed [] w row e = absurd (let z : ◌≡◌ {A = ℕ} 0 1 = cc in omega arith)
row_failed (t ∷ ts) w row e = go t.0 e (row_failed ts w row)
  where
    go : (b : Bool) → ◌≡◌ {A = Result (Unit {0}) Refusal} (cond b (Err t.1) (tested ts)) (Err w) → (tested ts ≡ Err w → row_after ts row ≡ refusal_row w)
        → cond b (refusal_row t.1) (row_after ts row) ≡ refusal_row w
    go true e f = cc
    go false e f = f e
