-- `file_loading::first_bad_reading` meets its contract: one law for each way out.
use mathlib.Core.Path.{sym, ◌∙◌}
use Rattle.file_loading.proofs.Loading.{stands_is, bad_in, bad_empty, bad_none}
use Rattle.file_loading.proofs.first_bad_reading.Goals as goal
use Rattle.file_loading.proofs.first_bad_reading.Goals.{then-span-via-then-span, then-span-via-else-span+then-not-stands}

pub returns-then-span : goal.returns-then-span
returns-then-span c = let a = c.args in elim c.then-span.branch [
  | then-span-via-then-span w ↦ bad_empty a.shape a.span a.file.now w.if-span.true
  | then-span-via-else-span+then-not-stands w ↦ bad_none a.shape a.span a.file.now (sym w.stands.ensures ∙ w.if-not-stands.true)
]

pub pass_days-requires : goal.pass_days-requires
pass_days-requires c =
    let a = c.args in
    stands_is a.shape a.span a.file.now (sym c.stands.ensures ∙ c.if-not-stands.false)

pub returns : goal.returns
returns c =
    let a = c.args in
    c.pass_days.ensures ∙ bad_in a.shape a.span a.file.now (sym c.stands.ensures ∙ c.if-not-stands.false)
