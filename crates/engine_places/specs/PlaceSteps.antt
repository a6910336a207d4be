-- Where the chosen days of an event stand in lent readings.
use Rattle.std.specs.Prelude.{ℕ, ◌-◌, List, map, get_or}
use Rattle.base_lists.specs.Lists.{places}
use Rattle.method.specs.declared.Request.{Request}
use Rattle.method.specs.Table.{size}
use Rattle.method.specs.Ruler.{against}
use Rattle.engine_places.specs.declared.Places.{Places}

-- the places of chosen days, by where the days before an event start: entry i is the i-th day before it. Window days have all as many quarters
abbrev pub placed_of : Request → List ℕ → List ℕ → ℕ → ℕ → Places
placed_of r starts days count end =
    record {
      at = map (λ k. get_or starts (r.event - get_or days k 0) 0) (places 5 0);
      count = count;
      quarters = size (get_or days 0 0);
      end = end;
      start = against r.event r.s;
    }
