-- `engine_numerators::write` meets its contract: the law is `written`.
use Rattle.std.proofs.Common.{◌<◌, ◌^◌, length, arith}
use borrow.Author.Rules.{sfits_of}
use lib.Signed.{mag}
use mir.Syntax.{w64}
use mir.ValLaws.{to_z-of_z}
use Rattle.engine_numerators.proofs.Windows.{all-small, ruler_most, written}
use Rattle.engine_numerators.proofs.write.Goals as goal

pub adjustment-adjustment-requires : goal.adjustment-adjustment-requires
adjustment-adjustment-requires c =
    let a = c.args in
    omega (
      arith,
      c.window_sum-own.ensures,
      ruler_most a.yesterday.now a.today.now a.chosen.end (all-small a.yesterday.now c.type_inv.yesterday)
          (all-small a.today.now c.type_inv.today),
    )

pub returns : goal.returns
returns c =
    let a = c.args in
    let near : mag c.adjustment-adjustment.result < 2 ^ 63 = omega (arith, c.adjustment-adjustment.ensures.bound) in
    let back = to_z-of_z w64 c.adjustment-adjustment.result (sfits_of near) in
    rw back (written a.readings.now a.chosen a.yesterday.now a.today.now (length a.out.now) c.window_sum-own.ensures c.adjustment-adjustment.ensures.value
    (rw c.starts.ensures.list at c.sum_days.ensures) (rw back at c.floor.ensures))
