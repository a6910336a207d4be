-- `file_days::mark` meets its contract: the file has the shape that was read.
use Rattle.std.proofs.Common.{rules, ◌≡◌, sym, ◌∙◌}
use Rattle.std.specs.Prelude.{Ok}
use Rattle.file_days.proofs.Days.{days_within, mark_is}
use Rattle.file_days.proofs.mark.Goals as goal

pub mark_within-requires : goal.mark_within-requires
mark_within-requires c =
    let read : c.read_file.result ≡ Ok c.in_ok-shape.shape = search rules in
    days_within c.args.file.now (sym c.read_file.ensures ∙ read)

pub returns : goal.returns
returns c =
    let read : c.read_file.result ≡ Ok c.in_ok-shape.shape = search rules in
    c.mark_within.ensures ∙ mark_is c.args.file.now (sym c.read_file.ensures ∙ read) c.args.day
