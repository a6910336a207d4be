-- The reason of a day tells what the methodology makes of it.
use Rattle.std.specs.Prelude.{ℕ, ◌-◌, ◌≤◌, ◌≡◌, Bool, true, false, ◌↔◌, ◌⊎◌}
use Rattle.base_lists.specs.Lists.{member}
use Rattle.calendar_groups.specs.declared.Group.{Group}
use Rattle.method.specs.declared.Request.{Request}
use Rattle.method.specs.Table.{Day, History}
use Rattle.method.specs.Relevant.{relevant}
use Rattle.method.specs.Method.{days_of, eligibles, spares}
use Rattle.method.specs.Requested.{method_of}
use Rattle.method_working.specs.declared.Reason.{Reason}
use Rattle.method_working.specs.declared.Reason.TheVariants.{TooEarly, AnotherGroup, DayBefore, EventRecorded, Eligible}
use Rattle.method_working.specs.Working.{reason}

-- `x` tells whether a day is relevant, and whether it is one of the eligible days or one of the spare ones, of which a window is made
pub record Tells (x : Reason) (is_relevant is_eligible is_spare : Bool) : Type 0 where
  pub irrelevant : (x ≡ TooEarly) ⊎ (x ≡ AnotherGroup) ⊎ (x ≡ DayBefore) ↔ is_relevant ≡ false
  pub eligible : x ≡ Eligible ↔ is_eligible ≡ true
  pub recorded : x ≡ EventRecorded ↔ is_spare ≡ true

-- of every day of the look-back
abbrev pub ReasonsTell : Type 0
ReasonsTell =
    (group : ℕ → Group) (r : Request) (h : History Day) (back : ℕ) → 1 ≤ back → back ≤ 45 → back ≤ r.event
    → let d = r.event - back in
    let m = method_of group r in
    Tells (reason group r h back) (relevant group r d) (member d (days_of (eligibles m h))) (member d (days_of (spares m h)))
