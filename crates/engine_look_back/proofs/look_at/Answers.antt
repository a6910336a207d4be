-- `engine_look_back::look_at` meets its contract: one law a way out.
use mathlib.Core.Path.{refl, sym, ◌∙◌}
use borrow.Author.Rules.{rules}
use Rattle.engine_rooms.specs.Rooms.{room_day}
use Rattle.engine_look_back.proofs.Judging.{judged_in}
use Rattle.engine_look_back.proofs.Looking.{adds_none, adds_needless, adds_eligible, adds_spare, adds_neither}
use Rattle.engine_look_back.proofs.look_at.Goals as goal
use Rattle.engine_look_back.proofs.look_at.Goals.{then-is_needless-via-then-is_needless, then-is_needless-via-else-is_needless+then-not-relevant}

pub returns-then-is_needless : goal.returns-then-is_needless
unfolding room_day
returns-then-is_needless c =
    elim c.then-is_needless.branch [
      | then-is_needless-via-then-is_needless w ↦ adds_needless _ _ c.requires.next refl (sym c.is_needless.ensures ∙ w.if-is_needless.true)
      | then-is_needless-via-else-is_needless+then-not-relevant w ↦ adds_none _ _ c.requires.next refl (sym w.relevant.ensures ∙ w.if-not-relevant.true)
    ]

pub returns-in-Some-Eligible : goal.returns-in-Some-Eligible
unfolding room_day
returns-in-Some-Eligible c =
    let judged = judged_in _ c.requires.next c.part-part.ensures.part.list c.part-part.ensures.few (λ i. search rules) c.judge.ensures in
    adds_eligible _ _ c.requires.next refl (search rules) (judged ∙ search rules) c.insert.ensures.words c.insert.ensures.count

pub returns-in-Some-Spare : goal.returns-in-Some-Spare
unfolding room_day
returns-in-Some-Spare c =
    let judged = judged_in _ c.requires.next c.part-part.ensures.part.list c.part-part.ensures.few (λ i. search rules) c.judge.ensures in
    adds_spare _ _ c.requires.next refl (search rules) (search rules) (judged ∙ search rules) c.add_spare.ensures.words c.add_spare.ensures.count

pub returns-in-None : goal.returns-in-None
unfolding room_day
returns-in-None c =
    let judged = judged_in _ c.requires.next c.part-part.ensures.part.list c.part-part.ensures.few (λ i. search rules) c.judge.ensures in
    adds_neither _ _ c.requires.next refl (search rules) (judged ∙ c.in-None.is)
