-- `host_table::tell_extract` meets its contract: the working over the rooms of the table's directory.
use mathlib.Core.Path.{sym, ◌∙◌}
use Rattle.std.proofs.Common.{rules}
use Rattle.table_days.specs.Lent.{lent}
use Rattle.host_table.proofs.Tests.{working_told}
use Rattle.host_table.proofs.tell_extract.Goals as goal

pub returns-in-Ok : goal.returns-in-Ok
returns-in-Ok c =
    let a = c.args in
    let rooms = c.directory-rooms.ensures a.table.now.readings.now in
    working_told a.moves.now (lent a.table.now) a.request a.at a.name c.requires (search rules)
    (rw rooms at (sym (c.of_request.ensures.first a.table.now.readings.now) ∙ c.in-Ok.is)) (rw rooms at c.tell_working.ensures)
