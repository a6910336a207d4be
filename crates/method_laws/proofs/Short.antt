-- What "margin too short" says: fewer than Y eligible days are held, and a relevant day lies before the first held day.
use mathlib.Core.Path.{◌≡◌}
use mathlib.Core.Logic.{◌⊎◌, inl, inr, ⊎_elim}
use mathlib.Core.Bool.{true, false, and-false}
use Prim.Native.Nat.{ℕ, ◌-◌, ◌≤◌, ◌<◌}
use native.Mathlib.Omega.{arith}
use lib.ListN.{length}
use lib.Dec.{ltb}
use borrow.Author.Tests.{ltb-true, ltb-false, le-ltb}
use Rattle.base_lists.specs.Lists.{any, member}
use Rattle.base_lists.proofs.Bools.{and_left, and_right, and_cases}
use Rattle.base_lists.proofs.Keep.{any-member, any_none, any-false, least_of_top, least_of-member, least_of_from}
use Rattle.method.specs.Table.{History}
use Rattle.method.specs.Method.{Method, eligibles, is_short, whole_reach}

module _ {A O : Type 0} (m : Method A O) (h : History A) where
  -- Y eligible days are held
  abbrev pub Full : Type 0
  Full = m.most ≤ length (eligibles m h)

  -- no relevant day lies before the first held day
  abbrev pub Whole : Type 0
  Whole = (d : ℕ) → member d m.relevant ≡ true → h.first ≤ d

  pub enough_cases : is_short m h ≡ false → Full ⊎ Whole
  unfolding is_short
  enough_cases e =
      ⊎_elim (λ f. inl (ltb-false (length (eligibles m h)) m.most f))
      (λ f. inr (λ d k. ltb-false d h.first (any_none (λ d. ltb d h.first) m.relevant f d k)))
      (and_cases (ltb (length (eligibles m h)) m.most) (any (λ d. ltb d h.first) m.relevant) e)

  pub full_enough : Full → is_short m h ≡ false
  unfolding is_short
  full_enough e = rw (le-ltb (length (eligibles m h)) m.most e)

  pub whole_enough : Whole → is_short m h ≡ false
  unfolding is_short
  whole_enough w =
      rw (any-false (λ d. ltb d h.first) m.relevant (λ d e. le-ltb d h.first (w d e)))
      (and-false (ltb (length (eligibles m h)) m.most))

  module _ (short : is_short m h ≡ true) where
    pub short_few : length (eligibles m h) < m.most
    unfolding is_short
    short_few = ltb-true (length (eligibles m h)) m.most (search and_left)

    pub short_day : (d : ℕ) × (member d m.relevant ≡ true) × (d < h.first)
    unfolding is_short
    short_day =
        let some : any (λ d. ltb d h.first) m.relevant ≡ true = search and_right in
        let w = any-member (λ d. ltb d h.first) m.relevant some in
        (w.0, w.1, ltb-true w.0 h.first w.2)

  -- the days before the event that are held reach the oldest relevant day exactly where none lies before the first
  pub whole_reach_lem : h.first ≤ m.event → Whole → whole_reach m ≤ m.event - h.first
  unfolding whole_reach
  whole_reach_lem f w = omega (arith, least_of_from m.event m.relevant h.first f w)

  pub reach_whole : h.first ≤ m.event → whole_reach m ≤ m.event - h.first → Whole
  unfolding whole_reach
  reach_whole f e d k = omega (arith, least_of_top m.event m.relevant, least_of-member m.event m.relevant d k)
