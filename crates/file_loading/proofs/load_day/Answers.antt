-- `file_loading::load_day` meets its contract: each number is that of four bytes.
use native.Mathlib.Omega.{arith}
use Rattle.std.proofs.Common.{rules}
use Rattle.file_record.proofs.Lengths.{numbers_read}
use Rattle.file_loading.proofs.load_day.Goals as goal

pub returns : goal.returns
returns c = numbers_read _ _ _ (search rules) (omega arith) c.read_u32_into.ensures
