-- A directory of rooms read as a history: where the days before the event stand in lent readings, and their marks.
use Rattle.std.specs.Prelude.{ℕ, ◌+◌, ◌-◌, min, cond, List, [], length, get_or, take, drop, leb}
use Rattle.method.specs.declared.Request.{Request}
use Rattle.method.specs.Table.{size, Day, History}
use Rattle.engine_rooms.specs.declared.Directory.{Directory}
use Rattle.engine_rooms.specs.declared.Case.{Case}

-- the `size` readings that start at a place; none where they run past the end
unfoldable pub readings_at : ℕ → List ℕ → ℕ → List ℕ
readings_at size readings at = cond (leb (at + size) (length readings)) (take size (drop at readings)) []

-- what is held of the day `i` days before the event
unfoldable pub room_day : ℕ → Directory → List ℕ → ℕ → Day
room_day event rooms readings i = record { mark = get_or rooms.marks i 0; readings = readings_at (size (event - i)) readings (get_or rooms.at i 0) }

-- how many days are held, the event day among them: it and at most 45 before it, none below day 0
unfoldable pub held_rooms : Request → Directory → ℕ
held_rooms r rooms = min rooms.held (min 45 r.event + 1)

-- the history that a directory is: consecutive days up to the event day
unfoldable pub room_history : Request → Directory → List ℕ → History Day
room_history r rooms readings =
    record {
      first = r.event + 1 - held_rooms r rooms;
      count = held_rooms r rooms;
      day = λ d. room_day r.event rooms readings (r.event - d);
    }

-- the history that a case's rooms and readings are
abbrev pub history_of : Case → History Day
history_of c = room_history c.request c.rooms.now c.readings.now
