-- The day so many days before the event: whether the rooms hold it, and what they hold of it.
use Prim.Native.Nat.{ℕ, ◌-◌, ◌≤◌, ◌<◌}
use mathlib.Core.Path.{◌≡◌, ap, ◌∙◌}
use mathlib.Core.Bool.{true, false}
use mathlib.Core.List.{List}
use native.Mathlib.Omega.{arith}
use lib.ListN.{get_or}
use borrow.Author.Tests.{lt-leb}
use Rattle.method.specs.declared.Request.{Request}
use Rattle.method.specs.Table.{size, held}
use Rattle.method.proofs.Histories.{is_held}
use Rattle.engine_rooms.specs.declared.Directory.{Directory}
use Rattle.engine_rooms.specs.Rooms.{readings_at, room_day, held_rooms, room_history}
use Rattle.engine_judging.specs.Steps.{day_from}
use Rattle.method_working.specs.declared.Reason.{Reason}
use Rattle.method_working.specs.declared.Reason.TheVariants.{NotHeld}
use Rattle.method_working.specs.Working.{reason_of}
use Rattle.engine_reasons.specs.Steps.{held_reason}

module _ (r : Request) (rooms : Directory) (readings : List ℕ) (back : ℕ) where
  pub back_held : {n : ℕ} → n ≡ held_rooms r rooms → back < n → held (room_history r rooms readings) (r.event - back) ≡ true
  unfolding room_history held_rooms
  back_held e h = is_held (room_history r rooms readings) (r.event - back) (omega arith) (omega arith)

  pub back_not : {n : ℕ} → n ≡ held_rooms r rooms → n ≤ back → back ≤ r.event
      → held (room_history r rooms readings) (r.event - back) ≡ false
  unfolding room_history held_rooms held
  back_not e h w =
      let o : r.event - back < (room_history r rooms readings).first = omega arith in
      rw (lt-leb (room_history r rooms readings).first (r.event - back) o)

  pub back_day : {part : List ℕ} → back ≤ r.event → part ≡ readings_at (size (r.event - back)) readings (get_or rooms.at back 0)
      → day_from (get_or rooms.marks back 0) part ≡ (room_history r rooms readings).day (r.event - back)
  unfolding room_history room_day
  back_day h e = let w : r.event - (r.event - back) ≡ back = omega arith in rw (e, w)

  pub when_held : {n : ℕ} {part : List ℕ} {x : Reason} → n ≡ held_rooms r rooms → back < n → back ≤ r.event
      → part ≡ readings_at (size (r.event - back)) readings (get_or rooms.at back 0)
      → x ≡ reason_of (day_from (get_or rooms.marks back 0) part) → x ≡ held_reason r (room_history r rooms readings) back
  when_held n h w p e = rw (back_held n h) (e ∙ ap reason_of (back_day w p))

  pub not_held : {n : ℕ} → n ≡ held_rooms r rooms → n ≤ back → back ≤ r.event → NotHeld ≡ held_reason r (room_history r rooms readings) back
  not_held n h w = rw (back_not n h w)
