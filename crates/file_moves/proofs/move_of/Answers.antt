-- `file_moves::move_of` meets its contract.
use Rattle.std.proofs.Common.{rules, ◌∙◌}
use Rattle.file_record.proofs.Numbers.{read_two}
use Rattle.file_moves.proofs.move_of.Goals as goal

pub returns : goal.returns
returns c =
    let mv = c.args.mv.now in
    let old = c.from.ensures ∙ c.read_u16.ensures ∙ read_two 2 _ mv (search rules) in
    let new = c.from-2.ensures ∙ c.read_u16-2.ensures ∙ read_two 4 _ mv (search rules) in
    rw (old, new)
