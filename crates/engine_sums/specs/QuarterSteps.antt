-- The sum of a quarter over days that are read where they stand in lent readings.
use Rattle.std.specs.Prelude.{ℕ, List, map, slice_index}
use Rattle.base_lists.specs.Lists.{sum_of}
use Rattle.engine_rooms.specs.Rooms.{readings_at}

-- S: the sum, over days of `size` readings, of the reading at a quarter of the day
unfoldable pub quarter_sum : ℕ → List ℕ → List ℕ → ℕ → ℕ
quarter_sum size readings at q = sum_of (map (λ a. slice_index (readings_at size readings a) q) at)
