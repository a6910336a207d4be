-- What methods differ in when they choose days, and what they share: relevant, eligible and spare days, and rank, are 01's for each.
use Rattle.std.specs.Prelude.{ℕ, List}
use Rattle.std.proofs.Math.Option.{Option}
use Rattle.calendar_groups.specs.declared.Group.{Group}
use Rattle.method.specs.declared.Request.{Request}
use Rattle.method.specs.Table.{Day}
use Rattle.method.specs.Relevant.{relevant_days}
use Rattle.method.specs.Eligible.{eligible, spare, higher, sort_by}
use Rattle.method.specs.Method.{Method}
use Rattle.method.specs.Adjustment.{Baseline, baseline}

-- Y; up to how many days spares fill the window, and in which order; of a window of so many days the ranks passed over and the days taken
pub record Rules : Type 0 where
  pub most : ℕ
  pub fill : ℕ
  pub order : List (ℕ × Day) → List (ℕ × Day)
  pub passed : ℕ → ℕ
  pub taken : ℕ → ℕ

-- the method of such rules at one request, and then its baseline
unfoldable pub method_by : (ℕ → Group) → Request → Rules → Method Day (Option Baseline)
method_by group r rules =
    record {
      event = r.event;
      relevant = relevant_days group r;
      eligible = eligible;
      most = rules.most;
      spare = spare;
      order = rules.order;
      fill = rules.fill;
      rank = sort_by (higher r);
      passed = rules.passed;
      taken = rules.taken;
      finish = baseline r;
    }
