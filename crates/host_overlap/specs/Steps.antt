-- What the functions over the events of a file give to each other: a day, or none.
use Rattle.std.specs.Prelude.{ℕ, cond, List, Option, Some, None, Result, Ok, Err}
use Rattle.method.specs.declared.Request.{Request}
use Rattle.method.specs.declared.Refusal.{Refusal}
use Rattle.host_overlap.specs.Overlap.{needed_from, is_asked}

-- the day from which a request needs days on, if it does
unfoldable pub needed : List ℕ → Request → Option ℕ
needed moves r = cond (is_asked moves r) (Some (needed_from moves r)) None

-- and of what is at a place
unfoldable pub needed_there : List ℕ → Result Request Refusal → Option ℕ
needed_there moves (Ok r) = needed moves r
needed_there moves (Err w) = None
