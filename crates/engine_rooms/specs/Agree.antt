-- What a store shows an engine: 01, "An extract is a first day F, one mark byte a day, and 96 readings a day .. for h consecutive days", as rooms.
use Rattle.std.specs.Prelude.{ℕ, ◌+◌, ◌-◌, ◌<◌, min, ◌≡◌, cond, List}
use Rattle.method.specs.declared.Request.{Request}
use Rattle.method.specs.Table.{Day, History, held}
use Rattle.engine_rooms.specs.declared.Directory.{Directory}
use Rattle.engine_rooms.specs.Rooms.{room_day}

-- a directory shows what a history holds of the event day and of the 45 days before it, and nothing where the event day is not held. Of rooms
-- that are not held it says nothing
pub record Agree (r : Request) (rooms : Directory) (readings : List ℕ) (h : History Day) : Type 0 where
  pub width : rooms.held ≡ cond (held h r.event) (min 46 (r.event + 1 - h.first)) 0
  pub days : (i : ℕ) → i < rooms.held → room_day r.event rooms readings i ≡ h.day (r.event - i)
