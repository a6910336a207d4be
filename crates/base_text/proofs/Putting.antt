-- A text put into a buffer: where it fits and where not, what it leaves as it is, and that two texts in a row are one.
use Prim.Native.Nat.{ℕ, ◌+◌, ◌≤◌, ◌<◌}
use mathlib.Core.Path.{◌≡◌, refl, ◌∙◌}
use mathlib.Core.List.{List, ◌++◌, append_assoc}
use mathlib.Core.Logic.{⊎_elim}
use native.Mathlib.Omega.{arith}
use native.Mathlib.Nat.{add_assoc}
use lib.ListN.{length, take, drop, length-append, length-drop}
use lib.Seq.{length-take-le, take_at, drop_at, take-take, drop-drop}
use borrow.Author.Tests.{le-leb, lt-leb}
use Rattle.base_lists.proofs.Bools.{lt-or-le}
use Rattle.base_text.specs.TextSteps.{put, next, Puts, PutsBoth}
use Rattle.base_lists.proofs.Unique.{unique}

module _ (d : List ℕ) (at : ℕ) (t : List ℕ) where
  pub put_whole : at + length t ≤ length d → put d at t ≡ take at d ++ t ++ drop (at + length t) d
  unfolding put
  put_whole h = simp (le-leb (at + length t) (length d))

  pub put_kept : length d < at + length t → put d at t ≡ d
  unfolding put
  put_kept h = simp (lt-leb (at + length t) (length d))

  pub next_within : at ≤ length d → next d at t ≡ at + length t
  unfolding next
  next_within h = simp (le-leb at (length d))

  pub next_past : length d < at → next d at t ≡ at
  unfolding next
  next_past h = simp (lt-leb at (length d))

  -- what holds of the buffer with the text in it and of the buffer as it was
  either_way :
      (P : List ℕ → Type 0) → (at + length t ≤ length d → P (take at d ++ t ++ drop (at + length t) d)) → P d → P (put d at t)
  either_way P whole kept =
      ⊎_elim (λ (h : length d < at + length t). rw put_kept kept) (λ (h : at + length t ≤ length d). rw put_whole (whole h))
      (lt-or-le (length d) (at + length t))

  front : at + length t ≤ length d → length (take at d ++ t) ≡ at + length t
  front h = simp (length-append, length-take-le at d (omega arith))

  pub put-length : length (put d at t) ≡ length d
  put-length = either_way (λ e. length e ≡ length d) whole refl
    where
      whole : at + length t ≤ length d → length (take at d ++ t ++ drop (at + length t) d) ≡ length d
      whole h = rw (length-append, front, length-drop) (omega arith)

  -- what stands before the text, and what stands after it, is as it was
  pub take-put : take at (put d at t) ≡ take at d
  take-put = either_way (λ e. take at e ≡ take at d) whole refl
    where
      whole : at + length t ≤ length d → take at (take at d ++ t ++ drop (at + length t) d) ≡ take at d
      whole h = rw append_assoc (take_at (take at d) (t ++ drop (at + length t) d) at (length-take-le at d (omega arith)))

  pub drop-put : drop (at + length t) (put d at t) ≡ drop (at + length t) d
  drop-put = either_way (λ e. drop (at + length t) e ≡ drop (at + length t) d) whole refl
    where
      whole :
          at + length t ≤ length d
          → drop (at + length t) (take at d ++ t ++ drop (at + length t) d) ≡ drop (at + length t) d
      whole h = drop_at (take at d ++ t) (drop (at + length t) d) (at + length t) (front h)

  -- the buffer up to the place after the text, and from the text on
  pub take-next : at + length t ≤ length d → take (at + length t) (put d at t) ≡ take at d ++ t
  take-next h = rw put_whole (take_at (take at d ++ t) (drop (at + length t) d) (at + length t) (front h))

  pub drop_here : at + length t ≤ length d → drop at (put d at t) ≡ t ++ drop (at + length t) d
  drop_here h =
      rw (put_whole, append_assoc) (drop_at (take at d) (t ++ drop (at + length t) d) at (length-take-le at d (omega arith)))

module _ (d : List ℕ) (at : ℕ) (a b : List ℕ) (fits : at + length a + length b ≤ length d) where
  both_whole : put d at (a ++ b) ≡ take at d ++ a ++ b ++ drop (at + length a + length b) d
  both_whole = rw (put_whole d at (a ++ b) (rw length-append (omega arith)), length-append, ← add_assoc, ← append_assoc)

  -- two texts in a row are one, in whichever order they are put
  pub put-put : put (put d at a) (at + length a) b ≡ put d at (a ++ b)
  put-put =
      rw (both_whole, put_whole (put d at a) (at + length a) b (rw put-length fits), take-next d at a (omega arith), after)
    where
      after : drop (at + length a + length b) (put d at a) ≡ drop (at + length a + length b) d
      after = rw (← drop-drop (length b) (at + length a) (put d at a), drop-put, drop-drop)

  pub put_back : put (put d (at + length a) b) at a ≡ put d at (a ++ b)
  put_back =
      let e = put d (at + length a) b in
      rw (both_whole, put_whole e at a (rw put-length (omega arith)), drop_here d (at + length a) b fits, before, ← append_assoc)
    where
      before : take at (put d (at + length a) b) ≡ take at d
      before =
          let within : at ≤ at + length a = omega arith in
          rw (← take-take at (at + length a) (put d (at + length a) b) within, take-put, take-take)

-- the place after two texts in a row, where the first fits
pub next-next :
    (d : List ℕ) (at : ℕ) (a b : List ℕ) → at + length a ≤ length d → next d (next d at a) b ≡ next d at (a ++ b)
next-next d at a b h =
    let o : at ≤ length d = omega arith in
    rw (next_within d at a, next_within d (at + length a) b, next_within d at (a ++ b), length-append, add_assoc)

module _ {d : List ℕ} {at r : ℕ} {a e : List ℕ} where
  -- a place within the buffer shows that the text fit
  pub fitted : Puts d at a r e → r ≤ length d → at + length a ≤ length d
  fitted p h =
      ⊎_elim (λ (o : length d < at). omega (arith, p.next ∙ next_past d at a o))
      (λ (o : at ≤ length d). omega (arith, p.next ∙ next_within d at a o)) (lt-or-le (length d) at)

  -- both or neither is one text
  pub as_one : {b : List ℕ} → PutsBoth d at a b r e → at + length a ≤ length d → Puts d at (a ++ b) r e
  as_one {b} p h = record { next = p.next ∙ next-next d at a b h; holds = p.holds }

-- no two results and buffers meet the contracts
pub puts_unique : {d : List ℕ} {at : ℕ} {t : List ℕ} {r r' : ℕ} {e e' : List ℕ} → Puts d at t r e → Puts d at t r' e' → (r ≡ r') × (e ≡ e')
puts_unique p q = (unique p.next q.next, unique p.holds q.holds)

pub both_unique : {d : List ℕ} {at : ℕ} {a b : List ℕ} {r r' : ℕ} {e e' : List ℕ} → PutsBoth d at a b r e → PutsBoth d at a b r' e'
    → (r ≡ r') × (e ≡ e')
both_unique p q = (unique p.next q.next, unique p.holds q.holds)
