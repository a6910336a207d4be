-- The reach is the fewest days before the event that give the outcome: with so many the margin is enough, with fewer it is too short.
use mathlib.Core.Path.{◌≡◌, refl}
use mathlib.Core.Logic.{⊎_elim}
use mathlib.Core.Bool.{true, false}
use mathlib.Core.List.{List, [], ◌∷◌, append-nil}
use Prim.Native.Nat.{ℕ, ◌-◌, ◌≤◌, ◌<◌}
use native.Mathlib.Omega.{arith}
use lib.ListN.{length}
use lib.Dec.{ltb, eqb}
use borrow.Author.Tests.{ltb-true, ltb-false, eqb-true, eq-eqb}
use Rattle.base_lists.specs.Lists.{least_of}
use Rattle.base_lists.proofs.Bools.{bool_cases, clash}
use Rattle.base_lists.proofs.Keep.{least_of_top, least_of-member, least_of_from}
use Rattle.method.specs.Table.{History, held}
use Rattle.method.specs.Method.{Method, days_of, eligibles, window, reach, whole_reach, is_short}
use Rattle.method.specs.Lawful.{Lawful}
use Rattle.method.proofs.Histories.{Extends, held_first}
use Rattle.method_laws.proofs.Seen.{window_first}
use Rattle.method_laws.proofs.Longer.{late, eligibles_longer, late_in}
use Rattle.method_laws.proofs.Window.{full_size, size_below}
use Rattle.method_laws.proofs.Short.{Full, full_enough, whole_enough, enough_cases, whole_reach_lem, reach_whole}
use Rattle.method_laws.proofs.Stable.{same_reach}

module _ {A O : Type 0} (m : Method A O) (law : Lawful m) (h : History A) (holds : held h m.event ≡ true) where
  first : h.first ≤ m.event
  first = held_first h m.event holds

  -- the reach lies within the days that are held
  pub reach_held : is_short m h ≡ false → reach m h ≤ m.event - h.first
  unfolding reach
  reach_held enough = ⊎_elim full other (bool_cases (eqb (length (window m h)) m.most))
    where
      full : eqb (length (window m h)) m.most ≡ true → reach m h ≤ m.event - h.first
      full t = rw t (omega (arith, least_of_from m.event (days_of (window m h)) h.first first (window_first m law h)))

      other : eqb (length (window m h)) m.most ≡ false → reach m h ≤ m.event - h.first
      other t =
          rw t
          (⊎_elim (λ f. absurd (clash (eq-eqb (length (window m h)) m.most (full_size m law h f)) t)) (whole_reach_lem m h first)
          (enough_cases m h enough))

  -- with all days back to the oldest relevant one the margin is enough
  pub wide_enough : whole_reach m ≤ m.event - h.first → is_short m h ≡ false
  wide_enough e = whole_enough m h (reach_whole m h first e)

module _ {A O : Type 0} (m : Method A O) (law : Lawful m) (h l : History A) (x : Extends l h) (holds : held h m.event ≡ true) where
  pub reach_short : m.event - h.first < reach m l → is_short m h ≡ true
  reach_short less =
      ⊎_elim (λ t. t) (λ f. absurd (omega (arith, same_reach m law h l x holds f, reach_held m law h holds f))) (bool_cases (is_short m h))

  -- where the window of `l` holds Y days, none below the first day of `h`, then `h` holds Y eligible days
  full_part : length (window m l) ≡ m.most → h.first ≤ least_of m.event (days_of (window m l)) → Full m h
  full_part e f =
      ⊎_elim (λ t. absurd (go (ltb-true (length (eligibles m h)) m.most t) (late m h l) refl))
      (ltb-false (length (eligibles m h)) m.most) (bool_cases (ltb (length (eligibles m h)) m.most))
    where
      go : length (eligibles m h) < m.most → (ys : List (ℕ × A)) → late m h l ≡ ys → ⊥
      go n [] q =
          let o : length (eligibles m l) ≡ length (eligibles m h) = rw (eligibles_longer m law h l x holds, q, append-nil) in
          omega (arith, size_below m law l (omega arith))
      go n (y ∷ ys) q =
          let i = late_in m law h l x holds n y ys q in
          omega (arith, i.0, least_of-member m.event (days_of (window m l)) y.0 i.1)

  pub reach_enough : reach m l ≤ m.event - h.first → is_short m h ≡ false
  unfolding reach
  reach_enough e = ⊎_elim full (λ t. wide_enough m law h holds (rw t at e)) (bool_cases (eqb (length (window m l)) m.most))
    where
      full : eqb (length (window m l)) m.most ≡ true → is_short m h ≡ false
      full t =
          let d : m.event - least_of m.event (days_of (window m l)) ≤ m.event - h.first = rw t at e in
          full_enough m h
          (full_part (eqb-true (length (window m l)) m.most t)
          (omega (arith, held_first h m.event holds, least_of_top m.event (days_of (window m l)))))
