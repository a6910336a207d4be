-- What the private functions of the engine ask and give.
use Rattle.std.specs.Prelude.{ℕ, ◌-◌, ◌≤◌, ◌<◌, ◌≡◌, true, get_or, take}
use Rattle.method.specs.declared.Request.{Request}
use Rattle.method.specs.Table.{Day, History, held}
use Rattle.method.specs.Adjustment.{baseline}
use Rattle.method.specs.Method.{chose}
use Rattle.method.specs.Verdict.{Reply, good_request, closing}
use Rattle.engine_rooms.specs.declared.Directory.{Directory}
use Rattle.engine_answer.specs.declared.Chosen.{Chosen}
use Rattle.engine_answer.specs.Answer.{in_five}
use Rattle.engine_baseline.specs.Engine.{with_days}

-- where the readings of a day start, by the directory of an event
abbrev pub start_of : Directory → ℕ → ℕ → ℕ
start_of rooms event day = get_or rooms.at (event - day) 0

-- none of the refusals 4 to 7 applies
pub record Fit (r : Request) (h : History Day) (room : ℕ) : Type 0 where
  pub request : good_request r ≡ true
  pub holds : held h r.event ≡ true
  pub enough : r.e - r.s ≤ room

-- and days are chosen, at most five
pub record Ready (r : Request) (room : ℕ) (chosen : Chosen) : Type 0 where
  pub request : good_request r ≡ true
  pub enough : r.e - r.s ≤ room
  pub some : 0 < r.event
  pub few : chosen.count ≤ 5
  pub five : chosen.days ≡ in_five (take chosen.count chosen.days)

-- the reply of chosen days
abbrev pub reply_of : Request → History Day → Chosen → Reply
reply_of r h chosen =
    let days = take chosen.count chosen.days in
    closing (chose days chosen.reach (baseline r (with_days h days) (h.day (r.event - 1)) (h.day r.event)))
