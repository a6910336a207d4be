-- `base_text::Text::put_signed` meets its contract: what `itoa` writes is what is put.
use mathlib.Core.Path.{◌∙◌}
use Rattle.base_digits.proofs.Std.{word_is}
use Rattle.base_text.proofs.Text.put_signed.Goals as goal

pub returns-clause-puts : goal.returns-clause-puts
returns-clause-puts c =
    rw (c.as_bytes.ensures.value ∙ c.format.ensures.text ∙ word_is c.args.z c.ranges.z) at c.put_bytes.ensures.puts
