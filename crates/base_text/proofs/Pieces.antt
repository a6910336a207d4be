-- A piece of text by each way out of what puts it.
use Prim.Native.Nat.{ℕ, ◌+◌, ◌-◌, ◌≤◌, ◌<◌}
use mathlib.Core.Path.{◌≡◌, ap, ◌∙◌}
use mathlib.Core.List.{List, [], ◌++◌, append_assoc}
use mathlib.Core.Logic.{⊎_elim}
use native.Mathlib.Omega.{arith}
use lib.ListN.{length, length-append}
use lib.Seq.{drop-drop}
use borrow.Rule.Slice.PartMut.{put_mid}
use Rattle.base_lists.proofs.Bools.{lt-or-le}
use Rattle.base_text.specs.TextSteps.{next, Puts, PutsBoth}
use Rattle.base_text.proofs.Putting.{put_whole, put_kept, put-length, put_back, next_within, next_past, fitted}

module _ (d : List ℕ) (at : ℕ) (t : List ℕ) where
  pub past : length d < at → Puts d at t at d
  past h = record { next = rw next_past; holds = rw (put_kept d at t (omega arith)) }

  pub too_long : at ≤ length d → length d < at + length t → Puts d at t (at + length t) d
  too_long h o = record { next = rw next_within; holds = rw put_kept }

  pub all_in : at + length t ≤ length d → Puts d at t (at + length t) (put_mid at (at + length t - at) d t)
  all_in h =
      let size : at + length t - at ≡ length t = omega arith in
      record { next = rw (next_within d at t (omega arith)); holds = rw (size, put_whole d at t h, drop-drop, append_assoc) }

-- ---- two texts put both or neither, the second first
module _ {d : List ℕ} {at : ℕ} (a : List ℕ) {b : List ℕ} where
  pub both_past : length d < at → PutsBoth d at a b at d
  both_past h =
      record { next = rw (next_past d at a h, next_past d at b h); holds = rw (put_kept d at (a ++ b) (omega arith)) }

  module _ {e : List ℕ} {s : ℕ} (h : at ≤ length d) (p : Puts d (at + length a) b s e) where
    kept_length : length e ≡ length d
    kept_length = ap length p.holds ∙ put-length d (at + length a) b

    pub neither : length e < s → PutsBoth d at a b s e
    neither o =
        let size : length e ≡ length d = kept_length in
        let over : length d < at + length a + length b =
        ⊎_elim (λ (x : length d < at + length a). omega arith)
        (λ (x : at + length a ≤ length d). omega (arith, p.next ∙ next_within d (at + length a) b x))
        (lt-or-le (length d) (at + length a))
        in
        record {
          next = rw (next_within d at a h) p.next;
          holds = rw (put_kept d at (a ++ b) (rw length-append (omega arith))) (p.holds ∙ put_kept d (at + length a) b over);
        }

    pub both_in : {r : ℕ} {f : List ℕ} → s ≤ length e → Puts e at a r f → PutsBoth d at a b s f
    both_in o q =
        let size : length e ≡ length d = kept_length in
        let back = put_back d at a b (fitted p (omega arith)) in
        record { next = rw (next_within d at a h) p.next; holds = rw (← back, ← p.holds) q.holds }

-- a number with no label
pub no_label : {d : List ℕ} {at : ℕ} {b : List ℕ} {r : ℕ} {e : List ℕ} → PutsBoth d at [] b r e → Puts d at b r e
no_label {d} {at} {b} p = record { next = rw stays at p.next; holds = p.holds }
  where
    stays : next d at [] ≡ at
    stays =
        ⊎_elim (λ (h : length d < at). next_past d at [] h) (λ (h : at ≤ length d). rw next_within (omega arith))
        (lt-or-le (length d) at)
