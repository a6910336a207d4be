-- The directory of a table: the one place that knows where a flat table keeps a day.
use Rattle.std.specs.Prelude.{ℕ, ◌+◌, ◌-◌, min, cond, ◌&&◌, map, get_or, leb, ltb}
use Rattle.method.specs.Table.{Table, held_days, offset, held, history}
use Rattle.engine_rooms.specs.declared.Directory.{Directory}
use Rattle.base_lists.specs.Lists.{places}

-- how many days have a room: the event day and the held days before it, at most 45; none where the event day is not held, or the table has
-- more than 128 days
unfoldable pub entries_of : Table → ℕ → ℕ
entries_of t event = cond (leb (held_days t) 128 && held (history t) event) (min 46 (event + 1 - t.first)) 0

-- entry i is day `event - i`; past the days that have a room every entry is nought
unfoldable pub directory_of : Table → ℕ → Directory
directory_of t event =
    record {
      at = map (λ i. cond (ltb i (entries_of t event)) (offset t.first (event - i - t.first)) 0) (places 46 0);
      marks = map (λ i. cond (ltb i (entries_of t event)) (get_or t.marks (event - i - t.first) 0) 0) (places 46 0);
      held = entries_of t event;
    }
