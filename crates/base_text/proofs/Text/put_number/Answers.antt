-- `base_text::Text::put_number` meets its contract: no label and the number are the number.
use Rattle.base_text.proofs.Pieces.{no_label}
use Rattle.base_text.proofs.Text.put_number.Goals as goal

pub returns-clause-puts : goal.returns-clause-puts
returns-clause-puts c = no_label c.put_field.ensures.puts
