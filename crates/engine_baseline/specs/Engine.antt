-- The baseline over rooms: what the methodology gives by a list of moves over the history that a directory and lent readings are, whatever they
-- hold.
use Rattle.std.specs.Prelude.{ℕ, ◌-◌, ◌%◌, ◌^◌, List, map}
use Rattle.method.specs.declared.Request.{Request}
use Rattle.method.specs.Table.{Day, History}
use Rattle.method.specs.Adjustment.{S, parts_of, unfloored, floored}
use Rattle.method.specs.Verdict.{Reply, refused, answered, by_list}
use Rattle.engine_rooms.specs.declared.Directory.{Directory}
use Rattle.engine_rooms.specs.Rooms.{room_history}
use Rattle.base_lists.specs.Lists.{places}

-- days, each with what a history holds of it
unfoldable pub with_days : History Day → List ℕ → List (ℕ × Day)
with_days h days = map {B = ℕ × Day} (λ d. (d, h.day d)) days

-- a reply over a history with its numerators in words of 32 bits: S(t) of the chosen days wraps, and so does "max(0, 12·S(t) + N·A - B)", or S(t) of
-- order 3. Days, reach and adjustment are exact. Where the history's readings are good nothing wraps (`Store`)
unfoldable pub in_words : Request → History Day → Reply → Reply
in_words r h (refused w) = refused w
in_words r h (answered a) =
    answered
    (record {
      days = a.days;
      reach = a.reach;
      denominator = a.denominator;
      adjusted = a.adjusted;
      numerators =
          map (λ t. floored (unfloored (parts_of r) (S r.event (with_days h a.days) t % 2 ^ 32) a.adjusted) % 2 ^ 32) (places (r.e - r.s) r.s);
    })

-- refusal 14, refusals 4 to 10, or the answer, by a list of moves over rooms, where `room` is the output's length
unfoldable pub over_rooms : List ℕ → Request → Directory → List ℕ → ℕ → Reply
over_rooms moves r rooms readings room =
    let h = room_history r rooms readings in
    in_words r h (by_list moves h r room)
