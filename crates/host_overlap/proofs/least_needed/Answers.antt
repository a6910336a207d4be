-- `host_overlap::least_needed` meets its contract: none, where there is no event or the list is none; else the check finds it.
use mathlib.Core.Path.{refl, sym, ◌∙◌}
use Rattle.file_record.specs.Steps.{event_within}
use Rattle.host_overlap.proofs.Ways.{none_needed}
use Rattle.host_overlap.proofs.least_needed.Goals as goal

pub returns-then-shape-eq0 : goal.returns-then-shape-eq0
returns-then-shape-eq0 c = rw c.if-shape-eq0.true refl

pub returns-then-not-is_good_list : goal.returns-then-not-is_good_list
returns-then-not-is_good_list c =
    let a = c.args in
    none_needed a.moves.now (sym c.is_good_list.ensures ∙ c.if-not-is_good_list.true) (λ place. event_within a.shape a.file.now place) _
