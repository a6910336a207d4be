-- `engine_baseline::baseline_over` meets its contract: each way out is a law of `Steps` or `Chain`. What was found of the list is searched for.
use mathlib.Core.Path.{sym, ◌∙◌}
use Rattle.std.proofs.Common.{rules}
use Rattle.method.proofs.Asked.{asked_average, asked_high}
use Rattle.engine_answer.proofs.Laws.{refuses}
use Rattle.engine_baseline.proofs.Steps.{found_so, over_bad, over_refused}
use Rattle.engine_baseline.proofs.Chain.{is_ready, over_unchosen, over_chosen}
use Rattle.engine_baseline.proofs.baseline_over.Goals as goal

pub returns-then-not-is_good_list : goal.returns-then-not-is_good_list
returns-then-not-is_good_list c = refuses _ _ _ _ (over_bad _ _ _ _ _ (search found_so)) (search rules)

pub returns-in_err-of_request : goal.returns-in_err-of_request
returns-in_err-of_request c =
    refuses _ c.in_err-of_request.field-0.0 _ _ (over_refused _ _ _ _ _ (search found_so) (sym (c.of_request.ensures.first _) ∙ c.in_err-of_request.was))
    (search rules)

pub returns-in_err-chosen : goal.returns-in_err-chosen
returns-in_err-chosen c =
    refuses _ c.in_err-chosen.field-0.0 _ _
    (over_unchosen _ _ _ _ _ (sym (c.of_request.ensures.first _) ∙ c.in_ok-of_request.was) (search found_so) (sym c.choose.ensures ∙ c.in_err-chosen.was))
    (search rules)

pub average-requires : goal.average-requires
average-requires c = (
  is_ready _ _ _ _ _ (sym (c.of_request.ensures.first _) ∙ c.in_ok-of_request.was) (sym c.choose.ensures ∙ c.in_ok-chosen.was),
  asked_average c.args.case.now.request (sym c.method.ensures ∙ c.in-AverageXOfY.is),
)

pub adjusted-requires : goal.adjusted-requires
adjusted-requires c = (
  is_ready _ _ _ _ _ (sym (c.of_request.ensures.first _) ∙ c.in_ok-of_request.was) (sym c.choose.ensures ∙ c.in_ok-chosen.was),
  asked_high c.args.case.now.request (sym c.method.ensures ∙ c.in-HighXOfY.is),
)

pub returns-in-AverageXOfY : goal.returns-in-AverageXOfY
returns-in-AverageXOfY c =
    rw (over_chosen _ _ _ _ _ (sym (c.of_request.ensures.first _) ∙ c.in_ok-of_request.was) (search found_so) (sym c.choose.ensures ∙ c.in_ok-chosen.was))
    at c.average.ensures

pub returns-in-HighXOfY : goal.returns-in-HighXOfY
returns-in-HighXOfY c =
    rw (over_chosen _ _ _ _ _ (sym (c.of_request.ensures.first _) ∙ c.in_ok-of_request.was) (search found_so) (sym c.choose.ensures ∙ c.in_ok-chosen.was))
    at c.adjusted.ensures
