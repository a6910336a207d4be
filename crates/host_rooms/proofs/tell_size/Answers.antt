-- `host_rooms::tell_size` meets its contract: where 8 is given, and the ranks passed over.
use Rattle.host_answer.specs.Names.{by_name}
use Rattle.host_rooms.specs.Steps.{window_row}
use Rattle.host_rooms.proofs.Rows.{short_told}
use Rattle.host_rooms.proofs.tell_size.Goals as goal

pub returns-then-window : goal.returns-then-window
returns-then-window c = short_told c.args.window c.if-window.true c.args.place c.if-place-eq-MOST.false

pub returns-in-2 : goal.returns-in-2
unfolding by_name window_row
returns-in-2 c = rw (c.in-2.is, c.if-window.false) c.told-in-2.ensures
