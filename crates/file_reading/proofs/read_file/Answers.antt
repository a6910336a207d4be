-- `file_reading::read_file` meets its contract: one law for each way out.
use Rattle.std.proofs.Common.{rules, ◌∙◌, ◌≡◌, true, ◌-◌, length}
use Rattle.base_lists.specs.Ascii.{ascii}
use Rattle.file_record.specs.Reader.{is_record, first_in, pf_length}
use Rattle.file_record.proofs.Numbers.{read_four}
use Rattle.file_record.proofs.Counts.{moves_counted, events_counted}
use Rattle.file_record.proofs.Files.{base_from, first_from, file_foreign, file_good, file_bad}
use Rattle.file_reading.proofs.read_file.Goals as goal

pub returns-then-not-is_record : goal.returns-then-not-is_record
returns-then-not-is_record c = file_foreign c.args.file.now (search rules)

pub returns-then-end-file : goal.returns-then-end-file
returns-then-end-file c =
    let file = c.args.file.now in
    let opens : is_record pf_length (ascii "PF") file ≡ true = search rules in
    let moves = c.count_moves-moves.ensures.counted ∙ moves_counted file in
    let base = base_from file moves c.move_start-base.ensures in
    let first : c.first_in-first.result ≡ first_in file = first_from file base (search rules) in
    let days = c.count_days-days.ensures.counted in
    let events = c.count_events-events.ensures.counted ∙ events_counted file _ in
    file_bad file moves c.move_start-base.ensures first days c.day_start-start.ensures.start events opens (search rules)

pub returns : goal.returns
returns c =
    let file = c.args.file.now in
    let opens : is_record pf_length (ascii "PF") file ≡ true = search rules in
    let moves = c.count_moves-moves.ensures.counted ∙ moves_counted file in
    let base = base_from file moves c.move_start-base.ensures in
    let first : c.first_in-first.result ≡ first_in file = first_from file base (search rules) in
    let days = c.count_days-days.ensures.counted in
    let events = c.count_events-events.ensures.counted ∙ events_counted file _ in
    let portfolio = c.read_u32.ensures ∙ read_four 4 (length file - 4) file (search rules) in
    file_good file moves c.move_start-base.ensures first days c.day_start-start.ensures.start events opens c.if-end-file.false c.number.ensures.value portfolio
