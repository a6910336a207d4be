-- Laws of falling lists: keeping some keeps them falling, and of those kept the ones from a day on stand before the ones below it.
use mathlib.Core.Path.{◌≡◌, refl, ap}
use mathlib.Core.Logic.{⊎_elim}
use mathlib.Core.Bool.{Bool, true, false, cond, ◌&&◌}
use mathlib.Core.List.{List, [], ◌∷◌, ◌++◌}
use Prim.Native.Nat.{ℕ, ◌<◌}
use native.Mathlib.Omega.{arith}
use lib.Dec.{leb, ltb}
use borrow.Author.Tests.{leb-true, leb-false, lt-leb, le-ltb, lt-ltb}
use Rattle.base_lists.specs.Lists.{keep, member}
use Rattle.base_lists.proofs.Bools.{bool_cases}
use Rattle.base_lists.proofs.Keep.{kept_member, keep_none}
use Rattle.method.specs.Lawful.{Falling, none, next}

pub falling_keep : (p : ℕ → Bool) {ds : List ℕ} → Falling ds → Falling (keep p ds)
unfolding keep
falling_keep p none = none
falling_keep p (next {d} {ds} below rest) = go (p d) (falling_keep p rest)
  where
    under : (x : ℕ) → member x (keep p ds) ≡ true → x < d
    under x e = below x (kept_member p ds x e)

    go : (b : Bool) → Falling (keep p ds) → Falling (cond b (d ∷ keep p ds) (keep p ds))
    go true f = next under f
    go false f = f

abbrev pub since : ℕ → (ℕ → Bool) → ℕ → Bool
since f p d = leb f d && p d

abbrev pub until : ℕ → (ℕ → Bool) → ℕ → Bool
until f p d = ltb d f && p d

-- of the days kept, those from `f` on stand before those below it
pub falling_split : (p : ℕ → Bool) (f : ℕ) {ds : List ℕ} → Falling ds → keep p ds ≡ keep (since f p) ds ++ keep (until f p) ds
unfolding keep
falling_split p f none = refl
falling_split p f (next {d} {ds} below rest) = ⊎_elim (above (falling_split p f rest)) (under (falling_split p f rest)) (bool_cases (leb f d))
  where
    later : List ℕ
    later = keep (since f p) ds

    earlier : List ℕ
    earlier = keep (until f p) ds

    go : (b : Bool) → keep p ds ≡ later ++ earlier → cond b (d ∷ keep p ds) (keep p ds) ≡ cond b (d ∷ later) later ++ earlier
    go true ih = ap (λ l. d ∷ l) ih
    go false ih = ih

    above : keep p ds ≡ later ++ earlier → leb f d ≡ true
        → cond (p d) (d ∷ keep p ds) (keep p ds)
        ≡ cond (since f p d) (d ∷ later) later ++ cond (until f p d) (d ∷ earlier) earlier
    above ih e = rw (e, le-ltb d f (leb-true f d e)) (go (p d) ih)

    none_later : leb f d ≡ false → later ≡ []
    none_later e = keep_none (since f p) ds (λ x m. rw (lt-leb f x (omega (arith, leb-false f d e, below x m))))

    under : keep p ds ≡ later ++ earlier → leb f d ≡ false
        → cond (p d) (d ∷ keep p ds) (keep p ds)
        ≡ cond (since f p d) (d ∷ later) later ++ cond (until f p d) (d ∷ earlier) earlier
    under ih e = rw (e, lt-ltb d f (leb-false f d e), ih, none_later e)
