-- `listing_whole::put_event` meets its contract: the event is there, and its lines are those of its own place.
use Rattle.listing_whole.proofs.Holding.{its_lines, never_refused}
use Rattle.listing_whole.proofs.put_event.Goals as goal

pub returns-in-Ok : goal.returns-in-Ok
returns-in-Ok c =
    its_lines c.requires.0 c.requires.1 _ c.event_within.ensures c.in-Ok.is c.event.ensures

pub returns-in-Err : goal.returns-in-Err
returns-in-Err c = never_refused c.requires.0 c.requires.1 c.event_within.ensures c.in-Err.is
