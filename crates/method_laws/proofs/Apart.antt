-- Where the margin is too short, the days before it decide the window: two longer histories show it.
use mathlib.Core.Path.{◌≡◌, refl, ap, ◌∙◌}
use mathlib.Core.Logic.{⊎_elim}
use mathlib.Core.Bool.{Bool, true, false}
use mathlib.Core.List.{List, [], ◌∷◌, append-nil}
use Prim.Native.Nat.{ℕ, ◌≤◌, ◌<◌}
use native.Mathlib.Omega.{arith}
use Rattle.base_lists.specs.Lists.{keep, member}
use Rattle.base_lists.proofs.Bools.{bool_cases, clash}
use Rattle.base_lists.proofs.Keep.{keep-append}
use Rattle.method.specs.Table.{History, held}
use Rattle.method.specs.Method.{Method, days_of, seen, eligibles, spares, window, is_short}
use Rattle.method.specs.Lawful.{Lawful}
use Rattle.method.proofs.Histories.{Extends, held_last, is_held}
use Rattle.method_laws.proofs.Seen.{In, by, window_first}
use Rattle.method_laws.proofs.Longer.{earlier_in, earlier_every, earlier_none, late, seen_longer, eligibles_longer, late_in}
use Rattle.method_laws.proofs.Short.{short_few}

-- every day of `l` below the first day of `h` has the value `b` under the test `q`
abbrev pub Below : {A : Type 0} → History A → History A → (A → Bool) → Bool → Type 0
Below h l q b = (d : ℕ) → l.first ≤ d → d < h.first → q (l.day d) ≡ b

module _ {A O : Type 0} (m : Method A O) (law : Lawful m) (h l : History A) (x : Extends l h) (holds : held h m.event ≡ true) where
  -- eligible days below a margin that is too short come into the window
  comes_in : is_short m h ≡ true → Below h l m.eligible true
      → (k : ℕ) → member k m.relevant ≡ true → k < h.first → l.first ≤ k → (d : ℕ) × (d < h.first) × In d (window m l)
  unfolding late
  comes_in too_short every k r b f = go (late m h l) refl
    where
      is_late : In k (late m h l)
      is_late =
          rw (earlier_every m h l m.eligible every)
          (earlier_in m h l k r (is_held l k f (omega (arith, x.ends, law.before k r, held_last h m.event holds))) b)

      go : (ys : List (ℕ × A)) → late m h l ≡ ys → (d : ℕ) × (d < h.first) × In d (window m l)
      go [] q = absurd (clash (rw q at is_late) (unfold member in refl))
      go (y ∷ ys) q = let i = late_in m law h l x holds (short_few m h too_short) y ys q in (y.0, i.0, i.1)

  -- days that are neither eligible nor spare leave it as it is
  stays : Below h l m.eligible false → Below h l m.spare false → window m l ≡ window m h
  unfolding window spares late
  stays no_eligible no_spare = rw (same_eligibles, same_spares)
    where
      same_eligibles : eligibles m l ≡ eligibles m h
      same_eligibles =
          eligibles_longer m law h l x holds ∙ rw (earlier_none m h l m.eligible no_eligible) (append-nil (eligibles m h))

      same_spares : spares m l ≡ spares m h
      same_spares =
          ap m.order
          (rw (seen_longer m law h l x holds, keep-append, earlier_none m h l m.spare no_spare)
          (append-nil (keep (by m.spare) (seen m h))))

-- of two longer histories, one with eligible days below and one with days of no use, the first has a day in its window that the second
-- has not
pub apart : {A O : Type 0} (m : Method A O) (law : Lawful m) (h one other : History A) → Extends one h → Extends other h
    → held h m.event ≡ true → is_short m h ≡ true
    → Below h one m.eligible true → Below h other m.eligible false → Below h other m.spare false
    → (k : ℕ) → member k m.relevant ≡ true → k < h.first → one.first ≤ k
    → (d : ℕ) × In d (window m one) × (member d (days_of (window m other)) ≡ false)
apart m law h one other x y holds too_short every no_eligible no_spare k r b f =
    let i = comes_in m law h one x holds too_short every k r b f in
    (i.0, i.2, rw (stays m law h other y holds no_eligible no_spare) (outside i.0 i.1))
  where
    outside : (d : ℕ) → d < h.first → member d (days_of (window m h)) ≡ false
    outside d less =
        ⊎_elim (λ e. absurd (omega (arith, window_first m law h d e))) (λ e. e) (bool_cases (member d (days_of (window m h))))
