-- How many days are held before an event and looked at.
use Prim.Native.Nat.{◌-◌, ◌≤◌, min}
use mathlib.Core.Path.{◌≡◌}
use native.Mathlib.Omega.{arith}
use Rattle.method.specs.declared.Request.{Request}
use Rattle.engine_rooms.specs.declared.Directory.{Directory}
use Rattle.engine_rooms.specs.Rooms.{held_rooms}
use Rattle.engine_look_back.specs.Steps.{rooms_before}

module _ (r : Request) (rooms : Directory) where
  pub before_is : min (rooms.held - 1) (min 45 r.event) ≡ rooms_before r rooms
  unfolding rooms_before held_rooms
  before_is = omega arith

  pub before_most : rooms_before r rooms ≤ 45
  unfolding rooms_before held_rooms
  before_most = omega arith

  pub before_within : rooms_before r rooms ≤ r.event
  unfolding rooms_before held_rooms
  before_within = omega arith
