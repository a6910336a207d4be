use Prim.Native.Nat.{ℕ, ◌+◌, ◌-◌}
use mathlib.Core.Path.{◌≡◌, refl, sym, ◌∙◌, ap}
use native.Mathlib.Omega.{arith}
use lib.ListN.{length, take, drop, length-append, length-take, length-drop}
use Rattle.base_lists.specs.Lists.{leading}
use Rattle.method.specs.Table.{size, good_reading}
use Rattle.method.proofs.Tables.{size_most}
use Rattle.file_record.specs.Reader.{numbers}
use Rattle.file_loading.proofs.Loading.{inside, passing_none, passing_stops, passing_more, passing_end, part_size}
use Rattle.file_loading.proofs.pass_days.Goals as goal

pub loop-k-init : goal.loop-k-init
loop-k-init c = (passing_none c.args.shape c.args.span c.args.file.now c.requires.low, refl)

pub overflow_sub-size : goal.overflow_sub-size
overflow_sub-size c =
    let l = c.loop-k in
    (part_size c.args.shape c.args.span c.args.file.now l.invariant.0.low c.loop-k-test.true c.place-start.ensures c.place.ensures).0

pub overflow_add-at : goal.overflow_add-at
overflow_add-at c =
    let i = inside c.args.shape c.args.span c.args.file.now c.requires c.loop-k.invariant.0.low c.loop-k-test.true c.base-base.ensures c.day_start-at.ensures.start c.place-start.ensures c.place.ensures in
    omega (arith, i.day)

pub slice_bounds-day-end : goal.slice_bounds-day-end
slice_bounds-day-end c =
    let i = inside c.args.shape c.args.span c.args.file.now c.requires c.loop-k.invariant.0.low c.loop-k-test.true c.base-base.ensures c.day_start-at.ensures.start c.place-start.ensures c.place.ensures in
    omega (arith, i.part, size_most (c.args.shape.first + c.loop-k.k), c.loop-k.invariant.1)

pub slice_bounds-pass_day-end : goal.slice_bounds-pass_day-end
slice_bounds-pass_day-end c =
    let i = inside c.args.shape c.args.span c.args.file.now c.requires c.loop-k.invariant.0.low c.loop-k-test.true c.base-base.ensures c.day_start-at.ensures.start c.place-start.ensures c.place.ensures in
    let whole : length (take (c.place.result - c.place-start.result) c.loop-k.day) ≡ size (c.args.shape.first + c.loop-k.k) = rw length-take (omega (arith, i.part, size_most (c.args.shape.first + c.loop-k.k), c.loop-k.invariant.1)) in
    i.part ∙ sym whole

pub pass_day-good-requires : goal.pass_day-good-requires
pass_day-good-requires c =
    let i = inside c.args.shape c.args.span c.args.file.now c.requires c.loop-k.invariant.0.low c.loop-k-test.true c.base-base.ensures c.day_start-at.ensures.start c.place-start.ensures c.place.ensures in
    let whole : length (take (c.place.result - c.place-start.result) c.loop-k.day) ≡ size (c.args.shape.first + c.loop-k.k) = rw length-take (omega (arith, i.part, size_most (c.args.shape.first + c.loop-k.k), c.loop-k.invariant.1)) in
    omega (arith, i.day, whole)

pub returns-then-good-size : goal.returns-then-good-size
returns-then-good-size c =
    let i = inside c.args.shape c.args.span c.args.file.now c.requires c.loop-k.invariant.0.low c.loop-k-test.true c.base-base.ensures c.day_start-at.ensures.start c.place-start.ensures c.place.ensures in
    let starts = ap (λ (n : ℕ). n + 6) i.starts in
    let whole : length (take (c.place.result - c.place-start.result) c.loop-k.day) ≡ size (c.args.shape.first + c.loop-k.k) = rw length-take (omega (arith, i.part, size_most (c.args.shape.first + c.loop-k.k), c.loop-k.invariant.1)) in
    let good = c.pass_day-good.ensures.value ∙ ap (λ (n : ℕ). leading good_reading (numbers n (drop (c.day_start-at.result + 6) c.args.file.now))) whole in
    let a = c.args in
    let l = c.loop-k in
    rw c.place-start.ensures
    (passing_stops a.shape a.span a.file.now l.invariant.0 c.loop-k-test.true starts good (omega (arith, c.if-good-size.true, i.part)))

pub loop-k-preserved : goal.loop-k-preserved
loop-k-preserved c =
    let i = inside c.args.shape c.args.span c.args.file.now c.requires c.loop-k.invariant.0.low c.loop-k-test.true c.base-base.ensures c.day_start-at.ensures.start c.place-start.ensures c.place.ensures in
    let starts = ap (λ (n : ℕ). n + 6) i.starts in
    let whole : length (take (c.place.result - c.place-start.result) c.loop-k.day) ≡ size (c.args.shape.first + c.loop-k.k) = rw length-take (omega (arith, i.part, size_most (c.args.shape.first + c.loop-k.k), c.loop-k.invariant.1)) in
    let good = c.pass_day-good.ensures.value ∙ ap (λ (n : ℕ). leading good_reading (numbers n (drop (c.day_start-at.result + 6) c.args.file.now))) whole in
    let a = c.args in
    let l = c.loop-k in (
      passing_more a.shape a.span a.file.now l.invariant.0 c.loop-k-test.true starts good (omega (arith, i.part)),
      rw (length-append, c.pass_day-good.ensures.day_len_unchanged, whole, length-drop) (omega (arith, i.part, size_most (a.shape.first + l.k), l.invariant.1)),
    )

pub returns : goal.returns
returns c =
    let a = c.args in
    c.place-2.ensures ∙ passing_end a.shape a.span a.file.now c.loop-k.invariant.0 (omega arith)
