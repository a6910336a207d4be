-- `program_list::list` meets its contract: the listing always fits, and is that of every such input.
use Rattle.program_list.proofs.Printing.{printed, never_refused}
use Rattle.program_list.proofs.list.Goals as goal

pub returns-in-Ok : goal.returns-in-Ok
returns-in-Ok c =
    let a = c.args in
    let r = c.requires in
    printed a.bytes.now a.count r.0 r.1 c.type_inv.bytes c.listing.ensures r.2 c.in-Ok.is

pub returns-in-Err : goal.returns-in-Err
returns-in-Err c =
    let a = c.args in
    let r = c.requires in
    never_refused a.bytes.now a.count r.0 r.1 c.type_inv.bytes c.listing.ensures r.2 c.in-Err.is
