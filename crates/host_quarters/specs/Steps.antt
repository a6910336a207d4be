-- What the private functions of telling the adjustment and the quarters give to each other.
use Rattle.std.specs.Prelude.{ℕ, ◌-◌, not, cond, List, ℤ, eqb, Option, Some}
use Rattle.method.specs.declared.Request.{Request}
use Rattle.method.specs.Table.{Day, History}
use Rattle.method.specs.Adjustment.{ruler, adjustment_end, A, B, adjustment, is_average, unfloored}
use Rattle.engine_baseline.specs.Engine.{with_days}
use Rattle.host_answer.specs.Names.{told, told_if}

-- the numerator before the floor of chosen days with this S(t), where an adjustment is made or none is needed
unfoldable pub numerator_of : Request → History Day → List ℕ → ℕ → ℕ → Option ℤ
numerator_of r h days count sum =
    let line = ruler (h.day (r.event - 1)) (h.day r.event) in
    let end = adjustment_end r line in
    cond (is_average r) (told sum)
    (told_if (not (eqb end 0)) (Some (unfloored 12 sum (adjustment count (A line end) (B r.event (with_days h days) end)))))
