-- The way through the engine: what each step that passes gives the next, and the reply where one does not.
use Prim.Native.Nat.{ℕ}
use mathlib.Core.Path.{◌≡◌, sym, ap, ◌∙◌}
use mathlib.Core.Bool.{true}
use mathlib.Core.List.{List}
use mathlib.Core.Option.{Option}
use Rattle.std.specs.Prelude.{Ok, Err}
use Rattle.calendar_groups.specs.Holidays.{good_moves, group}
use Rattle.method.specs.declared.Request.{Request}
use Rattle.method.specs.declared.Refusal.{Refusal}
use Rattle.method.specs.Table.{Day, History}
use Rattle.method.specs.Adjustment.{Baseline}
use Rattle.method.specs.Method.{Method}
use Rattle.method.specs.Requested.{method_of}
use Rattle.method.specs.Verdict.{refused, request_refusals}
use Rattle.engine_rooms.specs.declared.Directory.{Directory}
use Rattle.engine_rooms.specs.Rooms.{room_history}
use Rattle.engine_answer.specs.declared.Chosen.{Chosen}
use Rattle.engine_choice.specs.Steps.{choice_of}
use Rattle.engine_refusals.specs.Steps.{tested}
use Rattle.engine_baseline.specs.Engine.{in_words, over_rooms}
use Rattle.engine_baseline.specs.Steps.{Ready, reply_of}
use Rattle.engine_baseline.proofs.Steps.{words_refused, fit, over_passed}
use Rattle.engine_baseline.proofs.Choosing.{days_is, refused_is, ready, reply_is}

module _ (moves : List ℕ) (r : Request) (rooms : Directory) (readings : List ℕ) (room : ℕ) where
  abbrev h : History Day
  h = room_history r rooms readings

  abbrev m : Method Day (Option Baseline)
  m = method_of (group moves) r

  -- none of the refusals 4 to 7 applies
  module _ (passed : tested (request_refusals h r room) ≡ Ok tt) where
    pub is_ready : {chosen : Chosen} → choice_of m h ≡ Ok chosen → Ready r room chosen
    is_ready {chosen} e = ready (group moves) r h room (fit moves r rooms readings room passed) chosen (days_is m h e)

    -- 8 or 9
    pub over_unchosen : good_moves moves ≡ true → {w : Refusal} → choice_of m h ≡ Err w → over_rooms moves r rooms readings room ≡ refused w
    over_unchosen good e = sym (over_passed moves r rooms readings room passed good) ∙ words_refused r h (refused_is m h e)

    -- days are chosen
    pub over_chosen : good_moves moves ≡ true → {chosen : Chosen} → choice_of m h ≡ Ok chosen
        → in_words r h (reply_of r h chosen) ≡ over_rooms moves r rooms readings room
    over_chosen good {chosen} e =
        ap (in_words r h) (reply_is (group moves) r h room (fit moves r rooms readings room passed) chosen (days_is m h e))
        ∙ over_passed moves r rooms readings room passed good
