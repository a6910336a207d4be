-- A reply is a refusal or an answer, never both; an answer is that of what comes after the refusals.
use Prim.Native.Nat.{ℕ}
use mathlib.Core.Path.{◌≡◌, refl}
use mathlib.Core.Bool.{Bool, true, false, cond}
use mathlib.Core.List.{List, [], ◌∷◌}
use mathlib.Core.Logic.{◌⊎◌, inl, inr}
use native.Mathlib.Omega.{arith}
use Rattle.method.specs.declared.Refusal.{Refusal}
use Rattle.method.specs.Verdict.{Answer, Reply, refused, answered, first_of}

pub one_outcome : (reply : Reply) → ((w : Refusal) × (reply ≡ refused w)) ⊎ ((a : Answer) × (reply ≡ answered a))
one_outcome (refused w) = inl (w, refl)
one_outcome (answered a) = inr (a, refl)

pub never_both : {reply : Reply} {w : Refusal} {a : Answer} → reply ≡ refused w → reply ≡ answered a → ⊥
never_both e f = let z : ◌≡◌ {A = ℕ} 0 1 = cc in omega arith

pub answered_after : (ts : List (Bool × Refusal)) (reply : Reply) {a : Answer} → first_of ts reply ≡ answered a → reply ≡ answered a
unfolding first_of
answered_after [] reply e = e
answered_after (t ∷ ts) reply {a} e = go t.0 (answered_after ts reply) e
  where
    go : (b : Bool) → (first_of ts reply ≡ answered a → reply ≡ answered a) → cond b (refused t.1) (first_of ts reply) ≡ answered a → reply ≡ answered a
    go true later f = absurd (never_both refl f)
    go false later f = later f
