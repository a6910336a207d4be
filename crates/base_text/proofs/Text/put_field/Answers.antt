-- `base_text::Text::put_field` meets its contract: the three ways out (`both_past`, `neither`, `both_in`).
use mathlib.Core.Path.{◌∙◌}
use native.Mathlib.Omega.{arith}
use Rattle.base_digits.proofs.Std.{dec_is}
use Rattle.base_text.proofs.Pieces.{both_past, neither, both_in}
use Rattle.base_text.proofs.Text.put_field.Goals as goal

pub returns-then-self-clause-puts : goal.returns-then-self-clause-puts
returns-then-self-clause-puts c = both_past _ c.if-self.true

pub returns-then-behind-self-clause-puts : goal.returns-then-behind-self-clause-puts
returns-then-behind-self-clause-puts c =
    let digits = c.as_bytes.ensures.value ∙ c.format.ensures.text ∙ dec_is c.args.n (omega arith) in
    rw (← digits) (both_in _ c.if-self.false c.put_bytes.ensures.puts c.if-behind-self.true c.put_bytes-then-behind-self.ensures.puts)

pub returns-else-behind-self-clause-puts : goal.returns-else-behind-self-clause-puts
returns-else-behind-self-clause-puts c =
    let digits = c.as_bytes.ensures.value ∙ c.format.ensures.text ∙ dec_is c.args.n (omega arith) in
    rw (← digits) (neither _ c.if-self.false c.put_bytes.ensures.puts c.if-behind-self.false)
