-- `file_moves::move_at` meets its contract: a refusal of the file goes through, and else the file has the shape that was read.
use mathlib.Core.Path.{sym, ap, ◌∙◌}
use Rattle.std.specs.Prelude.{Ok}
use Rattle.file_moves.proofs.Moves.{within_is}
use Rattle.file_moves.proofs.move_at.Goals as goal

pub returns : goal.returns
returns c =
    let a = c.args in
    ap Ok c.move_within.ensures ∙ within_is a.file.now a.place (sym c.read_file.ensures ∙ c.in_ok-shape.was)
