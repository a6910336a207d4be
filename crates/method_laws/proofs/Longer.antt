-- What a longer history sees: what the shorter one sees, and after it relevant days below the shorter one's first day.
-- The idea: relevant days fall and lie before the event, so those from the first day on are a leading part of them.
use mathlib.Core.Path.{◌≡◌, refl, ◌∙◌}
use mathlib.Core.Logic.{◌⊎◌, inl, inr}
use mathlib.Core.Bool.{Bool, true, false, ◌&&◌}
use mathlib.Core.List.{List, [], ◌∷◌, ◌++◌, map, map-append, append-nil}
use Prim.Native.Nat.{ℕ, ◌-◌, ◌≤◌, ◌<◌}
use native.Mathlib.Omega.{arith}
use lib.ListN.{length, take}
use lib.Dec.{leb, ltb}
use borrow.Author.Tests.{leb-true, ltb-true, le-leb, lt-ltb, le-ltb}
use Rattle.base_lists.specs.Lists.{keep, member}
use Rattle.base_lists.proofs.Bools.{bool_cases, and_left, and_right}
use Rattle.base_lists.proofs.Keep.{member_head, member-map_reach, member-keep, kept_holds, keep-append, keep-map, keep_same, keep_every, keep_none, map_same}
use Rattle.method.specs.Table.{History, held}
use Rattle.method.specs.Method.{Method, days_of, seen, eligibles, spares, window}
use Rattle.method.specs.Lawful.{Lawful}
use Rattle.method_laws.proofs.Falling.{since, until, falling_split}
use Rattle.method.proofs.Histories.{Extends, extends_held, held_first}
use Rattle.method_laws.proofs.Seen.{In, by, in_keep, in_left, dated_days, held_since}

module _ {A O : Type 0} (m : Method A O) (h l : History A) where
  -- the relevant days that `l` holds below the first day of `h`, and what it sees of them
  abbrev pub added : List ℕ
  added = keep (until h.first (held l)) m.relevant

  unfoldable pub earlier : List (ℕ × A)
  earlier = map {A = ℕ} {B = ℕ × A} (λ d. (d, l.day d)) added

  added_is : (d : ℕ) → member d added ≡ true → (l.first ≤ d) × (d < h.first)
  added_is d e =
      let k = kept_holds (until h.first (held l)) m.relevant d e in
      (held_first l d (and_right (ltb d h.first) (held l d) k), ltb-true d h.first (and_left (ltb d h.first) (held l d) k))

  dated_earlier : days_of earlier ≡ added
  unfolding earlier
  dated_earlier = dated_days l.day added

  pub earlier_below : (d : ℕ) → In d earlier → d < h.first
  earlier_below d e = (added_is d (rw dated_earlier at e)).1

  pub earlier_in : (d : ℕ) → member d m.relevant ≡ true → held l d ≡ true → d < h.first → In d earlier
  earlier_in d r e b = rw (dated_earlier, member-keep, r, e, lt-ltb d h.first b)

  -- where the days of `l` below the first day of `h` all pass a test, or all fail it
  module _ (q : A → Bool) where
    pub earlier_every : ((d : ℕ) → l.first ≤ d → d < h.first → q (l.day d) ≡ true) → keep (by q) earlier ≡ earlier
    unfolding earlier
    earlier_every f = rw (keep-map, keep_every (λ d. q (l.day d)) added (λ d e. f d (added_is d e).0 (added_is d e).1))

    pub earlier_none : ((d : ℕ) → l.first ≤ d → d < h.first → q (l.day d) ≡ false) → keep (by q) earlier ≡ []
    unfolding earlier
    earlier_none f = rw (keep-map, keep_none (λ d. q (l.day d)) added (λ d e. f d (added_is d e).0 (added_is d e).1))

  -- the eligible days among them
  unfoldable pub late : List (ℕ × A)
  late = keep (by m.eligible) earlier

module _ {A O : Type 0} (m : Method A O) (law : Lawful m) (h l : History A) (x : Extends l h) (holds : held h m.event ≡ true) where
  since_first : (d : ℕ) → member d m.relevant ≡ true → since h.first (held l) d ≡ held h d
  since_first d e =
      rw (held_since m law h holds d e, held_since m law l (extends_held x m.event holds) d e) (go (bool_cases (leb h.first d)))
    where
      go : (leb h.first d ≡ true) ⊎ (leb h.first d ≡ false) → (leb h.first d && leb l.first d) ≡ leb h.first d
      go (inl t) = rw (t, le-leb l.first d (omega (arith, leb-true h.first d t, x.starts)))
      go (inr t) = rw t

  pub seen_longer : seen m l ≡ seen m h ++ earlier m h l
  unfolding seen earlier
  seen_longer =
      rw (
        falling_split (held l) h.first law.falling,
        map-append {B = ℕ × A} (λ d. (d, l.day d)) (keep (since h.first (held l)) m.relevant) (added m h l),
        keep_same (since h.first (held l)) (held h) m.relevant since_first,
        map_same {B = ℕ × A} (λ d. (d, l.day d)) (λ d. (d, h.day d)) (keep (held h) m.relevant) same,
      )
    where
      same : (d : ℕ) → member d (keep (held h) m.relevant) ≡ true → ◌≡◌ {A = ℕ × A} (d, l.day d) (d, h.day d)
      same d e = rw (x.agrees d (kept_holds (held h) m.relevant d e))

  -- where no relevant day lies below its first day, `h` sees all that `l` sees
  pub seen_all : ((d : ℕ) → member d m.relevant ≡ true → h.first ≤ d) → seen m l ≡ seen m h
  unfolding earlier
  seen_all w =
      seen_longer ∙
      rw (keep_none (until h.first (held l)) m.relevant (λ d k. rw (le-ltb d h.first (w d k)))) (append-nil (seen m h))

  pub eligibles_longer : eligibles m l ≡ eligibles m h ++ late m h l
  unfolding eligibles late
  eligibles_longer = rw seen_longer (keep-append (by m.eligible) (seen m h) (earlier m h l))

  -- with fewer than Y eligible days in `h`, the first eligible day below it is in the window of `l`
  pub late_in : length (eligibles m h) < m.most → (y : ℕ × A) (ys : List (ℕ × A)) → late m h l ≡ y ∷ ys
      → (y.0 < h.first) × In y.0 (window m l)
  unfolding late window
  late_in e y ys q = (below, in_left y.0 (take m.most (eligibles m l)) (take (m.fill - length (eligibles m l)) (spares m l)) inside)
    where
      below : y.0 < h.first
      below = earlier_below m h l y.0 (in_keep y.0 (by m.eligible) (earlier m h l) (rw q (member_head y.0 (days_of ys))))

      inside : In y.0 (take m.most (eligibles m l))
      inside = rw (eligibles_longer, q) (member-map_reach (λ (p : ℕ × A). p.0) y.0 m.most (eligibles m h) y ys e refl)
