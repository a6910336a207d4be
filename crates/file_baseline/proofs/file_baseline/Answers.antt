-- `file_baseline::file_baseline` meets its contract: 11 and 12 go through, and a file that is read has the shape it was read as.
use mathlib.Core.Path.{sym, ◌∙◌}
use lib.ListN.{length}
use Rattle.std.proofs.Common.{rules}
use Rattle.file_record.proofs.Events.{within_is}
use Rattle.table_bytes.proofs.Laws.{refuses}
use Rattle.file_baseline.proofs.Files.{refused_file, refused_there, event_there}
use Rattle.file_baseline.proofs.file_baseline.Goals as goal

pub returns-in_err-shape : goal.returns-in_err-shape
returns-in_err-shape c =
    let a = c.args in
    refuses _ c.in_err-shape.field-0.0 _ _ (refused_file a.file.now a.place (length a.out.now) (sym c.read_file.ensures ∙ c.in_err-shape.was)) (search rules)

pub returns-in_err-request : goal.returns-in_err-request
returns-in_err-request c =
    let a = c.args in
    let at = c.event_within.ensures ∙ within_is a.file.now a.place (sym c.read_file.ensures ∙ c.in_ok-shape.was) in
    refuses _ c.in_err-request.field-0.0 _ _ (refused_there a.file.now a.place (length a.out.now) at c.in_err-request.was) (search rules)

pub returns : goal.returns
returns c =
    let a = c.args in
    let at = c.event_within.ensures ∙ within_is a.file.now a.place (sym c.read_file.ensures ∙ c.in_ok-shape.was) in
    rw (← event_there a.file.now a.place (length a.out.now) at c.in_ok-request.was) at c.event_baseline.ensures
