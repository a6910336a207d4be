-- `base_bytes::put_numbers` meets its contract: the bytes of the numbers take the place of as many.
use native.Mathlib.Omega.{arith}
use Rattle.base_bytes.proofs.Bytes.{numbers_put, numbers_kept}
use Rattle.base_bytes.proofs.put_numbers.Goals as goal

pub returns-then-out-numbers : goal.returns-then-out-numbers
returns-then-out-numbers c = let a = c.args in numbers_kept a.numbers.now a.out.now c.if-out-numbers.true

pub returns : goal.returns
returns c = let a = c.args in numbers_put a.numbers.now a.out.now c.write_u32_into.ensures (omega arith)
