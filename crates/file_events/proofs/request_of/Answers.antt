-- `file_events::request_of` meets its contract.
use Rattle.std.proofs.Common.{rules, ◌∙◌}
use Rattle.file_record.proofs.Numbers.{read_two}
use Rattle.file_record.proofs.Events.{event_read}
use Rattle.file_events.proofs.request_of.Goals as goal

pub returns : goal.returns
returns c =
    let a = c.args in
    let day = c.from.ensures ∙ c.read_u16.ensures ∙ read_two 2 _ a.ev.now (search rules) in
    event_read a.ev.now a.participation day c.from-2.ensures c.from-3.ensures c.from-4.ensures c.from-5.ensures
