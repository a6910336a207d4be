-- `file_baseline::of_file` meets its contract: 1 and 2 as for any table, and 3 from the first bad reading.
use mathlib.Core.Path.{sym, ◌∙◌, ◌≡◌}
use native.Mathlib.Omega.{arith}
use Rattle.std.proofs.Common.{rules}
use Rattle.std.specs.Prelude.{Err}
use Rattle.table_refusals.proofs.FirstRefusal.{refused_early, bad_reading, good_readings}
use Rattle.file_record.specs.Reader.{table_in}
use Rattle.file_baseline.proofs.Files.{of_early, its_count, bad_few}
use Rattle.file_baseline.proofs.of_file.Goals as goal

pub overflow_cast-result : goal.overflow_cast-result
overflow_cast-result c = omega (arith, c.first_bad_reading-reading.ensures, bad_few c.requires.0.laid_down)

pub returns-in_err-of_marks : goal.returns-in_err-of_marks
returns-in_err-of_marks c =
    let early = of_early c.requires.0.laid_down c.requires.1 c.offset-count.ensures c.of_marks.ensures.first in
    let e : c.from_residual.result ≡ Err c.in_err-of_marks.field-0.0 = search rules in
    e ∙ sym (refused_early (table_in c.args.file.now) (early ∙ c.in_err-of_marks.was))

pub returns-then-reading-count : goal.returns-then-reading-count
returns-then-reading-count c =
    let early = of_early c.requires.0.laid_down c.requires.1 c.offset-count.ensures c.of_marks.ensures.first in
    bad_reading (table_in c.args.file.now) (early ∙ c.in_ok-of_marks.was) c.first_bad_reading-reading.ensures (omega (arith, its_count c.requires.0.laid_down, c.offset-count.ensures, c.if-reading-count.true))

pub returns : goal.returns
returns c =
    let early = of_early c.requires.0.laid_down c.requires.1 c.offset-count.ensures c.of_marks.ensures.first in
    good_readings (table_in c.args.file.now) (early ∙ c.in_ok-of_marks.was) c.first_bad_reading-reading.ensures (omega (arith, its_count c.requires.0.laid_down, c.offset-count.ensures, c.if-reading-count.false))
