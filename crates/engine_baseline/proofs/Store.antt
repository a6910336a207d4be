-- A store whose rooms agree with its history gets of the engine what the methodology gives over that history.
use Prim.Native.Nat.{ℕ}
use mathlib.Core.Path.{◌≡◌, refl, sym, ap, ◌∙◌}
use mathlib.Core.Bool.{Bool, true, false, cond, not}
use mathlib.Core.List.{List}
use mathlib.Core.Logic.{⊎_elim}
use mathlib.Core.Option.{Option}
use Rattle.base_lists.proofs.Bools.{bool_cases}
use Rattle.calendar_groups.specs.Holidays.{good_moves, group}
use Rattle.calendar_groups.specs.declared.Group.{Group}
use Rattle.method.specs.declared.Request.{Request}
use Rattle.method.specs.declared.Refusal.TheVariants.{BadMoves}
use Rattle.method.specs.Table.{Day, History, held}
use Rattle.method.specs.Adjustment.{Baseline}
use Rattle.method.specs.Method.{Method, chosen}
use Rattle.method.specs.Requested.{method_of}
use Rattle.method.specs.Verdict.{Answer, Reply, refused, answered, request_refusals, first_of, methodology, list_refusals, by_list}
use Rattle.method_laws.proofs.Stable.{window_of_seen}
use Rattle.engine_rooms.specs.declared.Directory.{Directory}
use Rattle.engine_rooms.specs.Rooms.{room_history}
use Rattle.engine_rooms.specs.Agree.{Agree}
use Rattle.engine_choice.proofs.Rooms.{rooms-held, rooms_seen, rooms_outcome}
use Rattle.engine_baseline.specs.Engine.{with_days, in_words, over_rooms}
use Rattle.engine_baseline.specs.Store.{GoodDays, Store}
use Rattle.engine_baseline.proofs.Choosing.{chosen_again}
use Rattle.engine_baseline.proofs.Answered.{fits, days_are}
use Rattle.engine_baseline.proofs.Exact.{exact}

-- 14 stands before all else, and has no words
words_listed : (moves : List ℕ) (h : History Day) (r : Request) (room : ℕ)
    → in_words r h (by_list moves h r room) ≡ first_of (list_refusals moves) (in_words r h (methodology (group moves) h r room))
unfolding by_list list_refusals first_of
words_listed moves h r room = go (not (good_moves moves))
  where
    go : (b : Bool) → in_words r h (cond b (refused BadMoves) (methodology (group moves) h r room))
        ≡ cond b (refused BadMoves) (in_words r h (methodology (group moves) h r room))
    go true = unfold in_words in refl
    go false = refl

exact_listed : (h : History Day) → GoodDays h → (moves : List ℕ) (r : Request) (room : ℕ) → in_words r h (by_list moves h r room) ≡ by_list moves h r room
unfolding by_list
exact_listed h good moves r room = words_listed moves h r room ∙ ap (first_of (list_refusals moves)) (exact h good (group moves) r room)

module _ {r : Request} {rooms : Directory} {readings : List ℕ} {h : History Day} (agree : Agree r rooms readings h) where
  abbrev shown : History Day
  shown = room_history r rooms readings

  pub agrees : (group : ℕ → Group) (room : ℕ) → methodology group shown r room ≡ methodology group h r room
  unfolding methodology request_refusals first_of
  agrees group room = ⊎_elim (λ e. rw (rooms-held group agree, rooms_outcome group agree e)) none (bool_cases (held h r.event))
    where
      none : held h r.event ≡ false → methodology group shown r room ≡ methodology group h r room
      none e = let f : held shown r.event ≡ false = rooms-held group agree ∙ e in rw (f, e)

  -- the chosen days hold the same
  module _ (group : ℕ → Group) (room : ℕ) {a : Answer} (e : methodology group h r room ≡ answered a) where
    abbrev how : Method Day (Option Baseline)
    how = method_of group r

    same_chosen : chosen how shown ≡ chosen how h
    unfolding chosen
    same_chosen = rw (window_of_seen how h shown (rooms_seen group agree (fits group h r room e).holds))

    same_days : with_days shown a.days ≡ with_days h a.days
    same_days =
        ap (with_days shown) (days_are group shown r room (agrees group room ∙ e)) ∙ chosen_again group r shown ∙ same_chosen ∙
        sym (ap (with_days h) (days_are group h r room e) ∙ chosen_again group r h)

    words_answered : in_words r shown (answered a) ≡ in_words r h (answered a)
    unfolding in_words
    words_answered = rw same_days

  in_words_lem : (group : ℕ → Group) (room : ℕ) → in_words r shown (methodology group shown r room) ≡ in_words r h (methodology group h r room)
  in_words_lem group room = ap (in_words r shown) (agrees group room) ∙ go (methodology group h r room) refl
    where
      go : (x : Reply) → methodology group h r room ≡ x → in_words r shown x ≡ in_words r h x
      go (refused w) e = unfold in_words in refl
      go (answered a) e = words_answered group room e

  -- by a list of moves
  agrees_listed : (moves : List ℕ) (room : ℕ) → by_list moves shown r room ≡ by_list moves h r room
  unfolding by_list
  agrees_listed moves room = ap (first_of (list_refusals moves)) (agrees (group moves) room)

  pub words : (moves : List ℕ) (room : ℕ) → over_rooms moves r rooms readings room ≡ in_words r h (by_list moves h r room)
  unfolding over_rooms
  words moves room =
      words_listed moves shown r room ∙ ap (first_of (list_refusals moves)) (in_words_lem (group moves) room) ∙ sym (words_listed moves h r room)

  pub serves : GoodDays h → (moves : List ℕ) (room : ℕ) → over_rooms moves r rooms readings room ≡ by_list moves h r room
  serves good moves room = words moves room ∙ exact_listed h good moves r room

pub store : (moves : List ℕ) (r : Request) (room : ℕ) → Store moves r room
store moves r room =
    record {
      exact = λ h good. exact_listed h good moves r room;
      agrees = λ agree. agrees_listed agree moves room;
      words = λ agree. words agree moves room;
      serves = λ agree good. serves agree good moves room;
    }
