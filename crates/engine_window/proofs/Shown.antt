-- The row of a window gives the window: by any method, and by a request's own over a directory.
use Prim.Native.Nat.{ℕ, ◌-◌, ◌≤◌, ◌<◌}
use mathlib.Core.Path.{◌≡◌}
use mathlib.Core.Bool.{Bool, false}
use mathlib.Core.List.{List}
use native.Mathlib.Omega.{arith}
use lib.ListN.{length, take}
use lib.Seq.{take-take, length-take-le}
use Rattle.calendar_groups.specs.declared.Group.{Group}
use Rattle.method.specs.declared.Request.{Request}
use Rattle.method.specs.Table.{History}
use Rattle.method.specs.Method.{Method, whole_reach}
use Rattle.method.specs.Requested.{rules_of, method_of}
use Rattle.engine_ranking.specs.Steps.{padded}
use Rattle.engine_rooms.specs.declared.Directory.{Directory}
use Rattle.engine_rooms.specs.Rooms.{room_history}
use Rattle.engine_rules.specs.declared.Rules.{Rules as Numbers}
use Rattle.engine_rules.specs.Steps.{Follows}
use Rattle.engine_look_back.specs.declared.Found.{Found}
use Rattle.engine_look_back.specs.Steps.{held_days, up_to, Looked}
use Rattle.engine_choice.proofs.WholeChoice.{Shows, request_shows_full, request_shows_few}
use Rattle.engine_window.specs.Steps.{window_of, row_window, few_window}

-- of the front of a row
pub of_front : (event : ℕ) (numbers : Numbers) (row : List ℕ) (n : ℕ) (short : Bool) → n ≤ length row
    → row_window event numbers (take n row) (length (take n row)) short ≡ row_window event numbers row n short
of_front event numbers row n short o = rw (length-take-le n row o, take-take n n row (omega arith))

shown : {A O : Type 0} {m : Method A O} {h : History A} {event : ℕ} {numbers : Numbers} {row : List ℕ} {size : ℕ} {short : Bool}
    → Shows m h event numbers row size short → row_window event numbers row size short ≡ window_of m h
unfolding window_of
shown s i =
    record {
      short = s.short i;
      most = s.most i;
      days = padded 10 (s.days i);
      size = s.size i;
      passed = s.passed i;
      taken = s.taken i;
    }

module _ (group : ℕ → Group) (r : Request) (rooms : Directory) (readings : List ℕ) {g : Group} {numbers : Numbers} (found : Found)
    (own : g ≡ group r.event) (f : Follows r (rules_of g r) numbers)
    (q : Looked r numbers.spares (up_to numbers.most (held_days group g r rooms readings)) found) where
  pub shown_full : numbers.most ≤ found.eligible.count
      → row_window r.event numbers found.eligible.words numbers.most false ≡ window_of (method_of group r) (room_history r rooms readings)
  shown_full full = shown (request_shows_full group r rooms readings found own f q full)

  pub shown_few : {before : ℕ} → before ≡ rooms.held - 1 → found.eligible.count < numbers.most
      → few_window r numbers found before (whole_reach (method_of group r)) ≡ window_of (method_of group r) (room_history r rooms readings)
  shown_few held less = shown (request_shows_few group r rooms readings found own f q held less)
