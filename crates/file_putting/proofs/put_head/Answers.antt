-- `file_putting::put_head` meets its contract: its four bytes take the place of the first four.
use Rattle.std.proofs.Common.{rules}
use Rattle.file_putting.proofs.Putting.{head_is}
use Rattle.file_putting.proofs.put_head.Goals as goal

pub returns : goal.returns
returns c = let a = c.args in head_is a.out.now _ _ a.number c.requires (search rules)
