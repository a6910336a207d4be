-- Where the margin is not too short, every longer history has the same window, reach and outcome.
-- The idea: either Y eligible days are held, and the window takes no later ones; or no relevant day is missing, and the same is seen.
use mathlib.Core.Path.{◌≡◌, refl, sym, ap, ◌∙◌}
use mathlib.Core.Logic.{⊎_elim}
use mathlib.Core.Bool.{Bool, true, false, cond}
use mathlib.Core.List.{List, [], ◌∷◌}
use Prim.Native.Nat.{ℕ, ◌-◌, ◌<◌}
use native.Mathlib.Omega.{arith}
use lib.ListN.{length, length-append}
use lib.Seq.{take-append-le}
use lib.Dec.{eqb}
use borrow.Author.Tests.{eq-eqb}
use Rattle.base_lists.proofs.Bools.{clash}
use Rattle.base_lists.proofs.Keep.{member_head}
use Rattle.method.specs.Table.{History, held}
use Rattle.method.specs.Method.{Method, Outcome, short, few, chose, days_of, seen, eligibles, spares}
use Rattle.method.specs.Method.{window, chosen, reach, whole_reach, is_short, outcome}
use Rattle.method.specs.Lawful.{Lawful}
use Rattle.method.proofs.Histories.{Extends, held_last, is_held}
use Rattle.method_laws.proofs.Seen.{In, seen_first, seen_before, window-seen}
use Rattle.method_laws.proofs.Longer.{late, seen_all, eligibles_longer}
use Rattle.method_laws.proofs.Window.{window_full}
use Rattle.method_laws.proofs.Short.{Full, Whole, full_enough, whole_enough, enough_cases}

pub window_of_seen : {A O : Type 0} (m : Method A O) (h l : History A) → seen m l ≡ seen m h → window m l ≡ window m h
unfolding window eligibles spares
window_of_seen m h l e = rw (e, spares)

module _ {A O : Type 0} (m : Method A O) (law : Lawful m) (h : History A) (holds : held h m.event ≡ true) where
  -- where days are chosen, there is a day before the event and it is held
  pub yesterday_held : eqb (m.taken (length (window m h))) 0 ≡ false → (0 < m.event) × (held h (m.event - 1) ≡ true)
  yesterday_held e = go (window m h) refl
    where
      go : (w : List (ℕ × A)) → window m h ≡ w → (0 < m.event) × (held h (m.event - 1) ≡ true)
      go [] q = absurd (clash (eq-eqb (m.taken 0) 0 law.needs) (rw q at e))
      go (p ∷ ps) q =
          let s : In p.0 (seen m h) = window-seen m law h p.0 (rw q (member_head p.0 (days_of ps))) in
          let before = seen_before m law h p.0 s in
          let first = seen_first m law h p.0 s in
          (omega arith, is_held h (m.event - 1) (omega arith) (omega (arith, held_last h m.event holds)))

  -- the outcome is what margin, window and finish make it
  pub outcome_same : (l : History A) → is_short m l ≡ is_short m h → window m l ≡ window m h
      → ((days : List (ℕ × A)) → 0 < m.event → held h (m.event - 1) ≡ true
      → m.finish days (l.day (m.event - 1)) (l.day m.event) ≡ m.finish days (h.day (m.event - 1)) (h.day m.event))
      → outcome m l ≡ outcome m h
  unfolding outcome chosen reach
  outcome_same l margin windows finish = rw (margin, windows) (ap ending (go (eqb (m.taken (length (window m h))) 0) refl))
    where
      ending : Outcome O → Outcome O
      ending o = cond (is_short m h) (short (whole_reach m)) o

      enough : Bool → O → Outcome O
      enough b o = cond b (few (length (window m h)) (reach m h)) (chose (days_of (chosen m h)) (reach m h) o)

      go : (b : Bool) → eqb (m.taken (length (window m h))) 0 ≡ b
          → enough b (m.finish (chosen m h) (l.day (m.event - 1)) (l.day m.event))
          ≡ enough b (m.finish (chosen m h) (h.day (m.event - 1)) (h.day m.event))
      go true e = refl
      go false e = ap (enough false) (finish (chosen m h) (yesterday_held e).0 (yesterday_held e).1)

module _ {A O : Type 0} (m : Method A O) (law : Lawful m) (h l : History A) (x : Extends l h) (holds : held h m.event ≡ true) where
  full_longer : Full m h → Full m l
  full_longer f = rw (eligibles_longer m law h l x holds, length-append) (omega arith)

  module _ (enough : is_short m h ≡ false) where
    pub same_window : window m l ≡ window m h
    same_window = ⊎_elim full whole (enough_cases m h enough)
      where
        full : Full m h → window m l ≡ window m h
        full f =
            rw (window_full m law l (full_longer f), window_full m law h f, eligibles_longer m law h l x holds)
            (take-append-le m.most (eligibles m h) (late m h l) f)

        whole : Whole m h → window m l ≡ window m h
        whole w = window_of_seen m h l (seen_all m law h l x holds w)

    pub still_enough : is_short m l ≡ false
    still_enough =
        ⊎_elim (λ f. full_enough m l (full_longer f)) (λ w. whole_enough m l (λ d k. omega (arith, w d k, x.starts)))
        (enough_cases m h enough)

    pub same_reach : reach m l ≡ reach m h
    unfolding reach
    same_reach = cc same_window

    pub same_outcome : outcome m l ≡ outcome m h
    same_outcome =
        outcome_same m law h holds l (still_enough ∙ sym enough) same_window
        (λ days _ e. rw (x.agrees (m.event - 1) e, x.agrees m.event holds))
