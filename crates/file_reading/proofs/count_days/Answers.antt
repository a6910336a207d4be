use Rattle.std.proofs.Common.{◌≡◌, ◌+◌, ◌-◌, ◌∙◌, arith, take, drop, length}
use Prim.Native.Nat.{ℕ, suc}
use mathlib.Core.Path.{refl, sym, ap}
use native.Mathlib.Nat.{add-zero, zero-add}
use lib.Seq.{take_all}
use lib.ListN.{length-drop}
use Rattle.std.proofs.lemmas.List.{drop_min}
use Rattle.file_record.specs.Reader.{run, is_dy_of, dy_length, days_from}
use Rattle.file_record.proofs.Runs.{run_more, run_stops, run_most}
use Rattle.file_record.proofs.Records.{day_whole}
use Rattle.file_reading.proofs.count_days.Goals as goal

pub loop-days-init : goal.loop-days-init
unfolding days_from
loop-days-init c =
    let file = c.args.file.now in
    let m = c.min.result in
    let same : drop m file ≡ drop c.args.base file = ap (λ (k : ℕ). drop k file) c.min.ensures ∙ drop_min c.args.base file in
    let whole : take (length file - m) (drop m file) ≡ drop c.args.base file = take_all (length file - m) (drop m file) (omega (arith, length-drop m file)) ∙ same in
    rw (whole, add-zero, zero-add) refl

pub returns-then-not-is_day_of-clause-counted : goal.returns-then-not-is_day_of-clause-counted
returns-then-not-is_day_of-clause-counted c =
    let l = c.loop-days in
    let none = run_stops is_dy_of dy_length (128 - l.days) (c.args.first + l.days) l.rest.now (sym c.is_day_of.ensures ∙ c.if-not-is_day_of.true) in
    omega (arith, none, l.invariant)

pub loop-days-preserved : goal.loop-days-preserved
loop-days-preserved c =
    let l = c.loop-days in
    let left = l.rest.now in
    let day = c.args.first + l.days in
    let n = c.day_length.result in
    let some : 128 - l.days ≡ suc (127 - l.days) = omega (arith, c.loop-days-test.true) in
    let rest : 128 - (l.days + 1) ≡ 127 - l.days = omega arith in
    let next : c.args.first + (l.days + 1) ≡ suc day = omega arith in
    let before = rw some at l.invariant in
    let more = run_more is_dy_of dy_length (127 - l.days) day left (sym c.is_day_of.ensures ∙ c.if-not-is_day_of.false) in
    let behind : take (length left - n) (drop n left) ≡ drop (dy_length day) left =
    take_all (length left - n) (drop n left) (omega (arith, length-drop n left)) ∙ ap (λ (k : ℕ). drop k left) c.day_length.ensures.value in
    rw (behind, rest, next) (omega (arith, before, more))

pub returns-clause-counted : goal.returns-clause-counted
returns-clause-counted c =
    let l = c.loop-days in
    let all : l.days ≡ 128 = omega (arith, c.loop-days-test.false, l.auto.days-end) in
    omega (arith, all, l.invariant, run_most is_dy_of dy_length (128 - l.days) (c.args.first + l.days) l.rest.now)
