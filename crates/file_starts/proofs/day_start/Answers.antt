-- `file_starts::day_start` meets its contract.
use native.Mathlib.Omega.{arith}
use Rattle.method.proofs.Tables.{offset_most}
use Rattle.file_record.proofs.Starts.{day_start_is}
use Rattle.file_starts.proofs.day_start.Goals as goal

pub overflow_mul-result-2 : goal.overflow_mul-result-2
overflow_mul-result-2 c = let a = c.args in omega (arith, c.offset.ensures, offset_most a.first a.k a.k (omega arith))

pub overflow_add-result-2 : goal.overflow_add-result-2
overflow_add-result-2 c = let a = c.args in omega (arith, c.offset.ensures, offset_most a.first a.k a.k (omega arith))

pub returns-clause-start : goal.returns-clause-start
returns-clause-start c = let a = c.args in omega (arith, c.offset.ensures, day_start_is a.base a.first a.k)

pub returns-clause-most : goal.returns-clause-most
returns-clause-most c = let a = c.args in omega (arith, c.offset.ensures, offset_most a.first a.k a.k (omega arith))
