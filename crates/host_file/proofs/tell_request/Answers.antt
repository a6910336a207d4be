-- `host_file::tell_request` meets its contract: a name that is none of an event's.
use Rattle.host_file.proofs.Ways.{no_name_of_an_event}
use Rattle.host_file.proofs.tell_request.Goals as goal

pub returns-in_default : goal.returns-in_default
returns-in_default c =
    let n = c.in_default.in_default-own.rest in
    no_name_of_an_event c.args.request c.args.name n.0.0.0.0.0.1 n.0.0.0.0.1 n.0.0.0.1 n.0.0.1 n.0.1 n.1
