use mathlib.Core.Bool.{not}
use lib.ListN.{length, take, drop}
use Rattle.std.proofs.Common.{◌-◌, ◌∙◌, rules, tests}
use Rattle.std.proofs.lemmas.Iterator.{YieldsList-from_slice}
use Rattle.std.proofs.lemmas.Iterator.Search.{position_from_yields_List}
use Rattle.std.proofs.lemmas.Iterator.Adapters.{position_from-zero}
use Rattle.method.specs.Table.{good_reading}
use Rattle.day_readings.proofs.Joining.{first_bad, after}
use Rattle.day_readings.proofs.first_bad_reading.Goals as goal

pub returns : goal.returns
returns c =
    let xs = c.args.readings.now in
    let start = c.good_blocks-start.result in
    let rest = take (length xs - start) (drop start xs) in
    let place = position_from_yields_List (λ x. not (good_reading x)) _ _ _ c.position-bad.ensures.ran (YieldsList-from_slice rest (search rules)) (λ x b q k. search (rules, tests)) ∙ position_from-zero _ rest in
    after xs start c.good_blocks-start.ensures (rw place at c.unwrap_or.ensures ∙ first_bad rest)
