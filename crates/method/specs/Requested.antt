-- The method that a request asks for: 01, "Included: .. High X of Y"; 02, order 3: Average X of Y.
use Rattle.std.specs.Prelude.{ℕ, cond}
use Rattle.std.proofs.Math.Option.{Option}
use Rattle.calendar_groups.specs.declared.Group.{Group}
use Rattle.method.specs.declared.Request.{Request}
use Rattle.method.specs.Table.{Day}
use Rattle.method.specs.Method.{Method}
use Rattle.method.specs.Adjustment.{Baseline, is_average}
use Rattle.method.specs.Rules.{Rules, method_by}
use Rattle.method.specs.HighXofY.{high_x_of_y}
use Rattle.method.specs.AverageXofY.{average_x_of_y}

-- the rules of a request, by D's own group
unfoldable pub rules_of : Group → Request → Rules
rules_of own r = cond (is_average r) (average_x_of_y own r) (high_x_of_y own r)

-- the method: relevant days by the groups of days, and these rules
unfoldable pub method_of : (ℕ → Group) → Request → Method Day (Option Baseline)
method_of group r = method_by group r (rules_of (group r.event) r)
