-- What every answer over a lent table has.
use Prim.Native.Nat.{ℕ}
use mathlib.Core.Path.{◌≡◌}
use mathlib.Core.Bool.{true}
use mathlib.Core.List.{List}
use lib.Dec.{leb}
use Rattle.base_lists.specs.Lists.{all}
use Rattle.calendar_groups.specs.Holidays.{group}
use Rattle.method.specs.declared.Request.{Request}
use Rattle.method.specs.Table.{Table, history}
use Rattle.method.specs.Verdict.{Answer, answered, table_refusals, methodology, by_list, verdict}
use Rattle.method_laws.proofs.ByList.{by_answered}
use Rattle.std.specs.Prelude.{Ok}
use Rattle.engine_refusals.specs.Steps.{tested}
use Rattle.engine_refusals.proofs.Replies.{answered_past}
use Rattle.table_refusals.proofs.FirstRefusal.{table_passed}
use Rattle.engine_baseline.proofs.Answered.{Sound, sound as sound_over}
use Rattle.engine_baseline.proofs.Exact.{numerators_most}
use Rattle.table_baseline.proofs.Tables.{good_days}

module _ (moves : List ℕ) (t : Table) (r : Request) (room : ℕ) {a : Answer} (e : verdict moves t r room ≡ answered a) where
  past : (tested (table_refusals t) ≡ Ok tt) × (by_list moves (history t) r room ≡ answered a)
  unfolding verdict
  past = answered_past (table_refusals t) (by_list moves (history t) r room) e

  by_method : methodology (group moves) (history t) r room ≡ answered a
  by_method = by_answered moves (history t) r room past.1

  pub sound : Sound r room a
  sound = sound_over (group moves) (history t) r room by_method

  numbers_most : all (λ x. leb x 1200000000) a.numerators ≡ true
  numbers_most = numerators_most (history t) (good_days t (table_passed t past.0)) (group moves) r room by_method

-- "The answer holds the numerators, never above 1,200,000,000"
pub never_above : (moves : List ℕ) (t : Table) (r : Request) (room : ℕ) (a : Answer) → verdict moves t r room ≡ answered a
    → all (λ x. leb x 1200000000) a.numerators ≡ true
never_above moves t r room a e = numbers_most moves t r room e
