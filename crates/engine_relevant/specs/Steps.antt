-- 01, "Choosing the days": relevant days, for an event whose group is known.
use Rattle.std.specs.Prelude.{ℕ, ◌+◌, Bool, not, ◌&&◌, leb, eqb}
use Rattle.calendar_groups.specs.declared.Group.{Group}
use Rattle.calendar_groups.specs.declared.Group.TheVariants.{Weekday}
use Rattle.method.specs.declared.Request.{Request}
use Rattle.method.specs.Relevant.{same_group}

-- "A day is relevant if it .. is not below .. P, is of D's group and, when D is a weekday, is not D-1.": `own` is D's group
unfoldable pub relevant_to : (ℕ → Group) → Group → Request → ℕ → Bool
relevant_to group own r d =
    leb r.participation d && same_group (group d) own && not (same_group own Weekday && eqb (d + 1) r.event)
