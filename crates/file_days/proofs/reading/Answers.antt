-- `file_days::reading` meets its contract: the file has the shape that was read.
use Rattle.std.proofs.Common.{rules, ◌≡◌, sym, ◌∙◌}
use Rattle.std.specs.Prelude.{Ok}
use Rattle.file_days.proofs.Days.{days_within, reading_is}
use Rattle.file_days.proofs.reading.Goals as goal

pub reading_within-requires : goal.reading_within-requires
reading_within-requires c =
    let read : c.read_file.result ≡ Ok c.in_ok-shape.shape = search rules in
    days_within c.args.file.now (sym c.read_file.ensures ∙ read)

pub returns : goal.returns
returns c =
    let read : c.read_file.result ≡ Ok c.in_ok-shape.shape = search rules in
    c.reading_within.ensures ∙ reading_is c.args.file.now (sym c.read_file.ensures ∙ read) c.args.day c.args.quarter
