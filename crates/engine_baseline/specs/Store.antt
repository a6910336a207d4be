-- What a store has to show of its rooms, and what it gets: a table, a ring and a shared store alike. `proofs/Store` proves it.
use Rattle.std.specs.Prelude.{ℕ, ◌≡◌, true, List}
use Rattle.base_lists.specs.Lists.{all}
use Rattle.method.specs.declared.Request.{Request}
use Rattle.method.specs.Table.{Day, History, held, good_reading}
use Rattle.method.specs.Verdict.{by_list}
use Rattle.engine_rooms.specs.declared.Directory.{Directory}
use Rattle.engine_rooms.specs.Rooms.{room_history}
use Rattle.engine_rooms.specs.Agree.{Agree}
use Rattle.engine_baseline.specs.Engine.{in_words, over_rooms}

-- no held day has a reading that refusal 3 would turn away
abbrev pub GoodDays : History Day → Type 0
GoodDays h = (d : ℕ) → held h d ≡ true → all good_reading (h.day d).readings ≡ true

-- by every list of moves, also one that 14 refuses: then a store gets 14, whatever it holds
pub record Store (moves : List ℕ) (r : Request) (room : ℕ) : Type 0 where
  -- over good readings no numerator wraps
  pub exact : (h : History Day) → GoodDays h → in_words r h (by_list moves h r room) ≡ by_list moves h r room
  -- rooms that agree with a history are one for the methodology, whether the event day is held or not
  pub agrees : {rooms : Directory} {readings : List ℕ} {h : History Day} → Agree r rooms readings h
      → by_list moves (room_history r rooms readings) r room ≡ by_list moves h r room
  -- so over them the engine gives what the methodology gives over the history, in words where its readings may be any
  pub words : {rooms : Directory} {readings : List ℕ} {h : History Day} → Agree r rooms readings h
      → over_rooms moves r rooms readings room ≡ in_words r h (by_list moves h r room)
  pub serves : {rooms : Directory} {readings : List ℕ} {h : History Day} → Agree r rooms readings h → GoodDays h
      → over_rooms moves r rooms readings room ≡ by_list moves h r room
