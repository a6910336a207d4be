-- The lines of an event as they are written, piece by piece, are the lines as they are defined.
use Rattle.std.specs.Prelude.{Option, None}
use Prim.Native.Nat.{ℕ, ◌+◌, ◌≤◌, ◌<◌, min}
use mathlib.Core.Path.{◌≡◌, refl, ap, ◌∙◌}
use mathlib.Core.List.{List, [], ◌∷◌, ◌++◌, map}
use native.Mathlib.Omega.{arith}
use native.Mathlib.Numerals.{add-one}
use lib.ListN.{length, take, drop, get_or, length-take, drop_of_length-le}
use lib.Seq.{drop-cons}
use lib.IntN.{ℤ}
use Rattle.base_lists.specs.Ascii.{ascii}
use Rattle.base_digits.specs.Digits.{dec, decimal}
use Rattle.base_text.specs.TextSteps.{Puts, PutsBoth}
use Rattle.method.specs.declared.Request.{Request}
use Rattle.method.specs.declared.Refusal.{Refusal}
use Rattle.method.specs.Verdict.{number, carries}
use Rattle.method.specs.declared.Refusal.TheVariants.{BadFile, NoEvent, BadTable, BadMark, BadReading, BadRequest, NotHeld}
use Rattle.method.specs.declared.Refusal.TheVariants.{NotYetParticipating, NoRoom, MarginTooShort, TooFew, NoAdjustmentWindow, Unwritable, BadMoves}
use Rattle.method.specs.Told.{in_two}
use Rattle.listing_event_line.specs.Carried.{there}
use Rattle.listing_lines.specs.Lines.{space, newline, spaced, line_text}
use Rattle.listing_lines.specs.Listing.{numbers, event_line, refusal_line}
use Rattle.listing_lines.specs.WriteSteps.{Writes}
use Rattle.listing_lines.proofs.Lines.{spaced_word_and, fields_both, line_is, take_least}
use Rattle.listing_lines.proofs.Writing.{Writing, writing_next, writing_end, placed, both_placed, same_length, named, then, then_put}

pub event_is : (r : Request) (days : List ℕ) (reach denominator : ℕ) (adjustment : ℤ)
    → dec r.event ++ spaced (dec r.s ∷ dec r.e ∷ []) ++ spaced (ascii "days" ∷ dec (length days) ∷ numbers days)
    ++ (spaced (ascii "reach" ∷ dec reach ∷ ascii "over" ∷ dec denominator ∷ ascii "adj" ∷ decimal adjustment ∷ []) ++ (newline ∷ []))
    ≡ line_text (event_line r days reach denominator adjustment)
unfolding event_line
event_is r days reach denominator adjustment =
    line_is (dec r.event) (dec r.s ∷ dec r.e ∷ []) (ascii "days" ∷ dec (length days) ∷ numbers days)
    (ascii "reach" ∷ dec reach ∷ ascii "over" ∷ dec denominator ∷ ascii "adj" ∷ decimal adjustment ∷ [])

pub refusal_is : (r : Request) (w : Refusal) (n : ℕ) → n ≡ number w
    → dec r.event ++ spaced (dec r.s ∷ dec r.e ∷ []) ++ spaced (ascii "refused" ∷ dec n ∷ []) ++ (spaced (numbers (carries w)) ++ (newline ∷ []))
    ≡ line_text (refusal_line r w)
unfolding refusal_line
refusal_is r w n e = rw (line_is (dec r.event) (dec r.s ∷ dec r.e ∷ []) (ascii "refused" ∷ dec n ∷ []) (numbers (carries w)), e)

-- what stands after the days, from its five pieces
module _ {d : List ℕ} {at : ℕ} (reach denominator : ℕ) (adjustment : ℤ) (room : at + 59 ≤ length d) where
  pub close_is : {r : ℕ} {e : List ℕ} → PutsBoth d at (ascii " reach ") (dec reach) r e → r ≤ at + 7 + 10
      → {s : ℕ} {f : List ℕ} → PutsBoth e r (ascii " over ") (dec denominator) s f → s ≤ r + 6 + 10
      → {t : ℕ} {g : List ℕ} → Puts f s (ascii " adj ") t g → t ≤ s + 5
      → {u : ℕ} {h : List ℕ} → Puts g t (decimal adjustment) u h → u ≤ t + 20
      → {v : ℕ} {l : List ℕ} → Puts h u (newline ∷ []) v l → v ≤ u + 1
      → Writes d at (spaced (ascii "reach" ∷ dec reach ∷ ascii "over" ∷ dec denominator ∷ ascii "adj" ∷ decimal adjustment ∷ []) ++ (newline ∷ [])) v l × (v ≤ at + 59)
  close_is a i b j c k x m z n =
      let first = named (spaced_word_and (ascii "reach") (dec reach)) (both_placed (dec reach) a (omega arith)) in
      let second = named (spaced_word_and (ascii "over") (dec denominator)) (both_placed (dec denominator) b (omega (arith, same_length first))) in
      let two = named (fields_both (ascii "reach" ∷ dec reach ∷ []) (ascii "over" ∷ dec denominator ∷ [])) (then first second) in
      let word = placed c (omega (arith, same_length two)) in
      let signed = placed x (omega (arith, same_length two, same_length word)) in
      let third = named (spaced_word_and (ascii "adj") (decimal adjustment)) (then word signed) in
      let three = named (fields_both (ascii "reach" ∷ dec reach ∷ ascii "over" ∷ dec denominator ∷ []) (ascii "adj" ∷ decimal adjustment ∷ [])) (then two third) in
      (then_put three z (omega arith), omega arith)

-- the two places where a refusal's numbers are hold them all, and no more
carried_is : (w : Refusal)
    → map dec (there (get_or (in_two (carries w)) 0 None)) ++ map dec (there (get_or (in_two (carries w)) 1 None)) ≡ numbers (carries w)
unfolding there
carried_is (BadFile place) = refl
carried_is NoEvent = refl
carried_is BadTable = refl
carried_is (BadMark place) = refl
carried_is (BadReading place) = refl
carried_is BadRequest = refl
carried_is NotHeld = refl
carried_is NotYetParticipating = refl
carried_is NoRoom = refl
carried_is (MarginTooShort days) = refl
carried_is (TooFew size reach) = refl
carried_is (NoAdjustmentWindow reach) = refl
carried_is Unwritable = refl
carried_is BadMoves = refl

pub both_carried : (w : Refusal) {two : List (Option ℕ)} → two ≡ in_two (carries w)
    → spaced (map dec (there (get_or two 0 None))) ++ spaced (map dec (there (get_or two 1 None))) ≡ spaced (numbers (carries w))
both_carried w e = rw e (fields_both _ _ ∙ ap spaced (carried_is w))

-- the chosen days, of which five at most are told
pub record Few (count few : ℕ) (days : List ℕ) : Type 0 where
  pub five : length days ≡ 5
  pub most : few ≤ 5
  pub same : take few days ≡ take count days
  pub size : length (take count days) ≡ few

pub few_days : (count few : ℕ) (days : List ℕ) → length days ≡ 5 → few ≡ min count 5 → Few count few days
few_days count few days five e =
    record { five = five; most = omega arith; same = rw e (take_least count 5 days five); size = rw (length-take, five, e) }

pub days_are : {count few : ℕ} {days : List ℕ} → Few count few days
    → spaced (ascii "days" ∷ dec few ∷ []) ++ spaced (numbers (take few days))
    ≡ spaced (ascii "days" ∷ dec (length (take count days)) ∷ numbers (take count days))
days_are {count} {few} {days} q = rw (q.same, q.size) (fields_both (ascii "days" ∷ dec few ∷ []) (numbers (take count days)))

-- of numbers that are written one by one, those up to place `i` are done
module _ {d : List ℕ} {at : ℕ} {t : List ℕ} {r : ℕ} {e : List ℕ} (ns : List ℕ) (i : ℕ) (q : Writing d at t r e (spaced (map dec (drop i ns)))) where
  pub numbers_next : {s : ℕ} {f : List ℕ} → i < length ns → Writes e r (space ∷ dec (get_or ns i 0)) s f
      → Writing d at t s f (spaced (map dec (drop (i + 1) ns)))
  unfolding spaced
  numbers_next h w = rw (add-one i) (writing_next (rw (drop-cons ns i 0 h) at q) w)

  pub numbers_end : length ns ≤ i → Writes d at t r e
  unfolding spaced
  numbers_end h = writing_end (rw (drop_of_length-le ns h) at q)
