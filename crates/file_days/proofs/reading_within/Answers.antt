-- `file_days::reading_within` meets its contract: a day that is held, a quarter past its last, and a day that is not held.
use Rattle.std.proofs.Common.{rules, arith, ◌+◌, ◌*◌, ap, ◌∙◌, ℕ, ◌-◌, length}
use Rattle.file_record.specs.Reader.{number_at}
use Rattle.file_record.proofs.Numbers.{read_four}
use Rattle.file_days.proofs.Days.{held_within, reading_there, reading_past, reading_none}
use Rattle.file_days.proofs.reading_within.Goals as goal
use Rattle.file_days.proofs.reading_within.Goals.{then-not-holds-via-then-not-holds, then-not-holds-via-else-not-holds+then-size-quarter}

pub returns-then-not-holds : goal.returns-then-not-holds
returns-then-not-holds c = let a = c.args in elim c.then-not-holds.branch [
  | then-not-holds-via-then-not-holds w ↦ reading_none a.shape a.file.now a.day a.quarter (search rules)
  | then-not-holds-via-else-not-holds+then-size-quarter w ↦ reading_past a.shape a.file.now a.day a.quarter (search rules) (omega (arith, w.size.ensures, w.if-size-quarter.true))
]

pub returns : goal.returns
returns c =
    let a = c.args in
    let read = c.read_u32.ensures ∙ read_four (c.start.result + 6 + 4 * a.quarter) (length a.file.now - (c.start.result + 6 + 4 * a.quarter)) a.file.now (search (rules, held_within)) in
    reading_there a.shape a.file.now a.day a.quarter (search rules) (omega (arith, c.size.ensures, c.if-size-quarter.false))
    (read ∙ ap (λ (n : ℕ). number_at 4 (n + 6 + 4 * a.quarter) a.file.now) c.start.ensures)
