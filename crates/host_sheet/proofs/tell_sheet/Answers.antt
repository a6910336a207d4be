-- `host_sheet::tell_sheet` meets its contract.
use mathlib.Core.Path.{sym, ◌∙◌}
use Rattle.host_sheet.proofs.Places.{refused_there, event_there}
use Rattle.host_sheet.proofs.tell_sheet.Goals as goal

pub returns-in-Err : goal.returns-in-Err
returns-in-Err c =
    let a = c.args in
    refused_there a.file.now a.place a.at a.name c.read_file.ensures c.in-Err.is c.tell_refusal-in-Err.ensures

pub returns-in-Err-event_within : goal.returns-in-Err-event_within
returns-in-Err-event_within c =
    let a = c.args in
    event_there a.file.now a.place a.at a.name (sym c.read_file.ensures ∙ c.in-Ok.is) c.event_within.ensures c.in-Err-event_within.is
    c.tell_refusal.ensures

pub returns-in-Ok-event_within : goal.returns-in-Ok-event_within
returns-in-Ok-event_within c =
    let a = c.args in
    event_there a.file.now a.place a.at a.name (sym c.read_file.ensures ∙ c.in-Ok.is) c.event_within.ensures c.in-Ok-event_within.is
    c.tell_event.ensures
