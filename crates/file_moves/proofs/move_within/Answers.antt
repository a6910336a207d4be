-- `file_moves::move_within` meets its contract: one law for each way out.
use Rattle.std.proofs.Common.{rules, arith, ◌≡◌, ◌∙◌, ◌+◌, ◌-◌, ◌≤◌, ap, take, drop, length}
use Rattle.file_record.specs.Reader.{mv_length}
use Rattle.file_moves.specs.Steps.{move_of}
use Rattle.file_moves.proofs.Moves.{within_past, within_cut, within_there, said_old, said_new}
use Rattle.file_moves.proofs.move_within.Goals as goal

pub returns-then-place-shape : goal.returns-then-place-shape
returns-then-place-shape c = let a = c.args in within_past a.shape a.file.now a.place (omega arith)

pub returns-in_default : goal.returns-in_default
returns-in_default c = let a = c.args in within_cut a.shape a.file.now a.place (omega arith) (search rules)

pub returns : goal.returns
returns c =
    let a = c.args in
    let at = c.move_start-at.result in
    let room : at + mv_length ≤ length a.file.now = search rules in
    let its : c.in-Some.mv.now ≡ take (at + mv_length - at) (drop at a.file.now) = search rules in
    let said = c.move_of.ensures ∙ ap move_of its in
    let old = said_old at (at + mv_length - at) a.file.now said (omega arith) in
    let new = said_new at (at + mv_length - at) a.file.now said (omega arith) in
    within_there a.shape a.file.now a.place (omega arith) (omega (arith, room)) c.move_start-at.ensures old new
