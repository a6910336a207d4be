-- `table_bytes::through_numbers` meets its contract: a refusal keeps the bytes, and an answer's numerators are put (`Numerators`).
use mathlib.Core.Path.{sym}
use Rattle.std.proofs.Common.{rules}
use Rattle.table_bytes.proofs.Puts.{kept, numerators}
use Rattle.table_bytes.proofs.through_numbers.Goals as goal

pub overflow_sub-quarters : goal.overflow_sub-quarters
overflow_sub-quarters c =
    (numerators _ _ _ c.args.out.now c.args.numerators.now c.requires c.over_table.ensures c.in_ok-answer.was).some

pub slice_bounds-put_numbers-end : goal.slice_bounds-put_numbers-end
slice_bounds-put_numbers-end c =
    (numerators _ _ _ c.args.out.now c.args.numerators.now c.requires c.over_table.ensures c.in_ok-answer.was).within

pub returns-in_err-answer : goal.returns-in_err-answer
returns-in_err-answer c = kept _ _ _ c.args.out.now c.args.numerators.now c.requires c.over_table.ensures c.in_err-answer.was (search rules)

pub returns : goal.returns
returns c =
    (numerators _ _ _ c.args.out.now c.args.numerators.now c.requires c.over_table.ensures c.in_ok-answer.was).puts c.put_numbers.ensures

pub slice_bounds-put_numbers-end-2 : goal.slice_bounds-put_numbers-end-2
slice_bounds-put_numbers-end-2 c =
    sym (numerators _ _ _ c.args.out.now c.args.numerators.now c.requires c.over_table.ensures c.in_ok-answer.was).size
