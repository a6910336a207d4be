-- What is seen of a history: the relevant days that it holds, all before the event. The window is made of them.
use mathlib.Core.Path.{◌≡◌, refl, sym, ap, ◌∙◌}
use mathlib.Core.Logic.{◌⊎◌, ⊎_elim}
use mathlib.Core.Bool.{Bool, true, and-true}
use mathlib.Core.List.{List, [], ◌∷◌, ◌++◌, map}
use Prim.Native.Nat.{ℕ, ◌+◌, ◌-◌, ◌≤◌, ◌<◌}
use native.Mathlib.Omega.{arith}
use lib.ListN.{length, take}
use lib.Dec.{leb}
use borrow.Author.Tests.{lt-ltb}
use Rattle.base_lists.specs.Lists.{keep, member}
use Rattle.base_lists.proofs.Bools.{either}
use Rattle.base_lists.proofs.Keep.{kept_holds, kept_member, member-map-keep, member-map-take, member-map-append}
use Rattle.method.specs.Table.{History, held}
use Rattle.method.specs.Method.{Method, days_of, seen, eligibles, spares, window}
use Rattle.method.specs.Lawful.{Lawful}
use Rattle.method.proofs.Histories.{held_first, held_last}

-- day `d` is among the days
abbrev pub In : {A : Type 0} → ℕ → List (ℕ × A) → Type 0
In d days = member d (days_of days) ≡ true

-- a test of a day, by what is held of it
abbrev pub by : {A : Type 0} → (A → Bool) → ℕ × A → Bool
by q p = q p.1

module _ {A : Type 0} (d : ℕ) where
  pub in_keep : (q : ℕ × A → Bool) (days : List (ℕ × A)) → In d (keep q days) → In d days
  in_keep q days e = member-map-keep q (λ (p : ℕ × A). p.0) days d e

  pub in_take : (k : ℕ) (days : List (ℕ × A)) → In d (take k days) → In d days
  in_take k days e = member-map-take (λ (p : ℕ × A). p.0) k days d e

  pub in_cases : (xs ys : List (ℕ × A)) → In d (xs ++ ys) → In d xs ⊎ In d ys
  in_cases xs ys e = either (member d (days_of xs)) (member d (days_of ys)) (sym (member-map-append (λ (p : ℕ × A). p.0) d xs ys) ∙ e)

  pub in_left : (xs ys : List (ℕ × A)) → In d xs → In d (xs ++ ys)
  in_left xs ys e = rw (member-map-append (λ (p : ℕ × A). p.0) d xs ys, e)

pub dated_days : {A : Type 0} (f : ℕ → A) (ds : List ℕ) → days_of (map {B = ℕ × A} (λ d. (d, f d)) ds) ≡ ds
dated_days f [] = refl
dated_days f (d ∷ ds) = ap (λ l. d ∷ l) (dated_days f ds)

module _ {A O : Type 0} (m : Method A O) (law : Lawful m) (h : History A) where
  dated_seen : days_of (seen m h) ≡ keep (held h) m.relevant
  unfolding seen
  dated_seen = dated_days h.day (keep (held h) m.relevant)

  pub seen_first : (d : ℕ) → In d (seen m h) → h.first ≤ d
  seen_first d e = held_first h d (kept_holds (held h) m.relevant d (rw dated_seen at e))

  pub seen_before : (d : ℕ) → In d (seen m h) → d < m.event
  seen_before d e = law.before d (kept_member (held h) m.relevant d (rw dated_seen at e))

  pub window-seen : (d : ℕ) → In d (window m h) → In d (seen m h)
  unfolding window eligibles spares
  window-seen d e =
      ⊎_elim (λ f. in_keep d (by m.eligible) (seen m h) (in_take d m.most (eligibles m h) f))
      (λ f. in_keep d (by m.spare) (seen m h) (law.only (keep (by m.spare) (seen m h)) d (in_take d filled (spares m h) f)))
      (in_cases d (take m.most (eligibles m h)) (take filled (spares m h)) e)
    where
      filled : ℕ
      filled = m.fill - length (eligibles m h)

  pub window_first : (d : ℕ) → In d (window m h) → h.first ≤ d
  window_first d e = seen_first d (window-seen d e)

  -- of the relevant days a history that holds the event holds those from its first day on
  pub held_since : held h m.event ≡ true → (d : ℕ) → member d m.relevant ≡ true → held h d ≡ leb h.first d
  unfolding held
  held_since holds d e =
      rw (lt-ltb d (h.first + h.count) (omega (arith, law.before d e, held_last h m.event holds))) (and-true (leb h.first d))
