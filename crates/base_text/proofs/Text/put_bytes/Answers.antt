-- `base_text::Text::put_bytes` meets its contract: the three ways out (`past`, `too_long`, `all_in`).
use Rattle.base_text.proofs.Pieces.{past, too_long, all_in}
use Rattle.base_text.proofs.Text.put_bytes.Goals as goal
use Rattle.base_text.proofs.Text.put_bytes.Goals.{then-end-self, else-end-self}

pub returns-then-self-clause-puts : goal.returns-then-self-clause-puts
returns-then-self-clause-puts c = past _ _ _ c.if-self.true

pub returns-clause-puts : goal.returns-clause-puts
returns-clause-puts c = elim c.if-end-self.branch [
  | then-end-self w ↦ rw (w.self-is, w.copy.ensures) (all_in _ _ _ w.if-end-self.true)
  | else-end-self w ↦ rw w.self-is (too_long _ _ _ c.if-self.false w.if-end-self.false)
]
