-- `file_reading::number` meets its contract.
use Rattle.std.proofs.Common.{rules, sym, ◌∙◌, ◌+◌, ◌-◌, length}
use Rattle.file_record.proofs.Numbers.{number_drop, read_two}
use Rattle.file_reading.proofs.number.Goals as goal

pub returns-clause-value : goal.returns-clause-value
returns-clause-value c =
    let a = c.args in
    c.from.ensures ∙ c.read_u16.ensures ∙ read_two (a.at + 2) (length a.file.now - (a.at + 2)) a.file.now (search rules) ∙ sym (number_drop 2 a.at 2 a.file.now)
