-- `table_days::is_extract` meets its contract: what passes the first tests is decided by the last.
use mathlib.Core.Path.{◌∙◌}
use Rattle.table_days.specs.Lent.{table_of}
use Rattle.table_days.proofs.Extracts.{matched}
use Rattle.table_days.proofs.is_extract.Goals as goal

pub returns-clause-extract : goal.returns-clause-extract
returns-clause-extract c = λ readings counted.
    matched (table_of c.args.first c.args.marks.now readings) c.if-days-gt128.false c.if-days-eq0.false
    (counted ∙ c.if-count-offset.false ∙ c.offset.ensures)
