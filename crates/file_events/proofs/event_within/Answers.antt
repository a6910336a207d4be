-- `file_events::event_within` meets its contract: one law for each way out.
use Rattle.std.proofs.Common.{rules, arith, ◌≡◌, ◌∙◌, ◌+◌, ◌-◌, ◌*◌, ◌≤◌, ap, take, drop, length, List, ℕ}
use Rattle.file_record.specs.Reader.{ev_length, event_of, request_of}
use Rattle.file_record.proofs.Events.{within_past, within_cut, within_there, event_cut}
use Rattle.file_events.proofs.event_within.Goals as goal

pub returns-then-place-shape : goal.returns-then-place-shape
returns-then-place-shape c = let a = c.args in within_past a.shape a.file.now a.place (omega arith)

pub returns-in_default : goal.returns-in_default
returns-in_default c =
    let a = c.args in
    within_cut a.shape a.file.now a.place (rw c.base.ensures at c.day_start.ensures.start) (omega arith) (search rules)

pub returns : goal.returns
returns c =
    let a = c.args in
    let at = c.day_start.result + ev_length * a.place in
    let room : at + ev_length ≤ length a.file.now = search rules in
    let its : c.in-Some.ev.now ≡ take (at + ev_length - at) (drop at a.file.now) = search rules in
    let request = c.request_of.ensures ∙ ap (λ (l : List ℕ). request_of a.shape.participation (event_of l)) its
    ∙ ap (request_of a.shape.participation) (event_cut (at + ev_length - at) (drop at a.file.now) (omega arith)) in
    within_there a.shape a.file.now a.place (rw c.base.ensures at c.day_start.ensures.start) (omega arith) room request
