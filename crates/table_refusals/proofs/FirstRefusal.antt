-- The first refusal of a table: what the tests in code's form say of `tested`, and what a table that passes shows.
use Prim.Native.Nat.{ℕ, zero, suc, ◌≤◌, ◌<◌}
use mathlib.Core.Path.{◌≡◌}
use mathlib.Core.Bool.{Bool, true, false, cond}
use mathlib.Core.List.{List, [], ◌∷◌}
use native.Mathlib.Omega.{arith}
use borrow.Author.Tests.{eq-eqb, ne_eqb, not-false}
use lib.ListN.{length, take}
use Rattle.base_lists.specs.Lists.{all, leading}
use Rattle.base_lists.proofs.Leading.{all-leading, leading_most}
use Rattle.method.specs.declared.Refusal.{Refusal}
use Rattle.method.specs.declared.Refusal.TheVariants.{BadTable, BadMark, BadReading}
use Rattle.method.specs.Table.{Table, good_mark, good_reading, is_extract}
use Rattle.method.specs.Verdict.{table_refusals}
use Rattle.std.specs.Prelude.{Ok, Err}
use Rattle.engine_refusals.specs.Steps.{tested}
use Rattle.engine_refusals.proofs.FirstRefusal.{passed_next}

-- what fails first among the first `n` tests fails first of all
pub taken_failed : (n : ℕ) (ts : List (Bool × Refusal)) (w : Refusal) → tested (take n ts) ≡ Err w → tested ts ≡ Err w
unfolding tested
taken_failed zero ts w e = absurd (let z : ◌≡◌ {A = ℕ} 0 1 = cc in omega arith)
taken_failed (suc n) [] w e = e
taken_failed (suc n) (t ∷ ts) w e = go t.0 e (taken_failed n ts w)
  where
    go : (b : Bool) → cond b (Err t.1) (tested (take n ts)) ≡ Err w → (tested (take n ts) ≡ Err w → tested ts ≡ Err w)
        → cond b (Err t.1) (tested ts) ≡ Err w
    go true e f = e
    go false e f = f e

module _ (t : Table) where
  -- what a table that passes shows
  pub record Good : Type 0 where
    pub extract : is_extract t ≡ true
    pub marks : all good_mark t.marks ≡ true
    pub readings : all good_reading t.readings ≡ true

  pub table_passed : tested (table_refusals t) ≡ Ok tt → Good
  unfolding table_refusals
  table_passed e =
      let a = passed_next _ _ _ e in
      let b = passed_next _ _ _ a.1 in
      let c = passed_next _ _ _ b.1 in
      record {
        extract = not-false (is_extract t) a.0;
        marks = not-false (all good_mark t.marks) b.0;
        readings = not-false
            (all good_reading t.readings) c.0;
      }

  -- 1 and 2, by each way out of the code
  pub bad_table : is_extract t ≡ false → Err BadTable ≡ tested (take 2 (table_refusals t))
  unfolding table_refusals tested
  bad_table e = rw e

  module _ (extract : is_extract t ≡ true) {m : ℕ} (mark : m ≡ leading good_mark t.marks) where
    pub bad_mark : m < length t.marks → Err (BadMark m) ≡ tested (take 2 (table_refusals t))
    unfolding table_refusals tested
    bad_mark h = rw (extract, all-leading good_mark t.marks, ← mark, ne_eqb m (length t.marks) (λ e. omega arith))

    pub good_marks : length t.marks ≤ m → Ok tt ≡ tested (take 2 (table_refusals t))
    unfolding table_refusals tested
    good_marks h =
        rw (
          extract,
          all-leading good_mark t.marks,
          eq-eqb (leading good_mark t.marks) (length t.marks) (omega (arith, leading_most good_mark t.marks)),
        )

  -- a table that 1 or 2 turns away is turned away by it
  pub refused_early : {w : Refusal} → tested (take 2 (table_refusals t)) ≡ Err w → tested (table_refusals t) ≡ Err w
  refused_early {w = w} e = taken_failed 2 (table_refusals t) w e

  -- what a table shows that neither turns away, and 3 by each way out of the code
  module _ (early : tested (take 2 (table_refusals t)) ≡ Ok tt) where
    pub early_passed : (is_extract t ≡ true) × (all good_mark t.marks ≡ true)
    unfolding table_refusals
    early_passed =
        let a = passed_next _ _ _ early in
        let b = passed_next _ _ _ a.1 in
        (not-false (is_extract t) a.0, not-false (all good_mark t.marks) b.0)

    module _ {k : ℕ} (place : k ≡ leading good_reading t.readings) where
      pub bad_reading : k < length t.readings → Err (BadReading k) ≡ tested (table_refusals t)
      unfolding table_refusals tested
      bad_reading h = rw (
        early_passed.0,
        early_passed.1,
        all-leading good_reading t.readings,
        ← place,
        ne_eqb k (length t.readings)
            (λ e. omega arith),
      )

      pub good_readings : length t.readings ≤ k → Ok tt ≡ tested (table_refusals t)
      unfolding table_refusals tested
      good_readings h =
          rw (
            early_passed.0,
            early_passed.1,
            all-leading good_reading t.readings,
            eq-eqb (leading good_reading t.readings) (length t.readings) (omega (arith, leading_most good_reading t.readings)),
          )
