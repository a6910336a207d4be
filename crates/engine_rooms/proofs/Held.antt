-- Whether the rooms of an event hold it.
use Prim.Native.Nat.{ℕ, ◌<◌}
use mathlib.Core.Path.{◌≡◌}
use mathlib.Core.Bool.{true, false}
use mathlib.Core.List.{List}
use native.Mathlib.Omega.{arith}
use borrow.Author.Tests.{lt-leb}
use Rattle.method.specs.declared.Request.{Request}
use Rattle.method.specs.Table.{held}
use Rattle.method.proofs.Histories.{is_held}
use Rattle.engine_rooms.specs.declared.Directory.{Directory}
use Rattle.engine_rooms.specs.Rooms.{held_rooms, room_history}

module _ (r : Request) (rooms : Directory) (readings : List ℕ) where
  -- D is held where a room is
  pub event_held : (rooms.held ≡ 0 → ⊥) → held (room_history r rooms readings) r.event ≡ true
  unfolding room_history held_rooms
  event_held n = is_held (room_history r rooms readings) r.event (omega arith) (omega arith)

  pub event_not : rooms.held ≡ 0 → held (room_history r rooms readings) r.event ≡ false
  unfolding room_history held_rooms held
  event_not e = let o : r.event < (room_history r rooms readings).first = omega arith in rw (lt-leb (room_history r rooms readings).first r.event o)
