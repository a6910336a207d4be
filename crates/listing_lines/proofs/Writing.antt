-- Texts written in a row are one text, and a text that is written piece by piece: what is done and what is left are the whole.
use Prim.Native.Nat.{ℕ, ◌+◌, ◌-◌, ◌≤◌, ◌<◌}
use mathlib.Core.Path.{◌≡◌, refl, ap, ◌∙◌}
use mathlib.Core.List.{List, [], ◌++◌, append_assoc, append-nil}
use mathlib.Core.Logic.{⊎_elim}
use native.Mathlib.Omega.{arith}
use native.Mathlib.Nat.{add-zero, zero-add}
use lib.ListN.{length, take, drop, length-append, length-drop, take-append-drop, drop_of_length-le}
use lib.Seq.{take_all, drop-drop}
use borrow.Rule.Slice.PartMut.{mid_of, put_mid}
use borrow.Author.Tests.{lt-leb, le-leb}
use Rattle.base_lists.proofs.Bools.{lt-or-le}
use Rattle.base_lists.proofs.Unique.{unique}
use Rattle.base_text.specs.TextSteps.{put, next, Puts, PutsBoth}
use Rattle.base_text.proofs.Putting.{put-length, put-put, put_whole, next_within, next_past, fitted, as_one}
use Rattle.listing_lines.specs.WriteSteps.{Writes, PutsWithin}

-- a place within the buffer shows that all of it fit
pub placed : {d : List ℕ} {at r : ℕ} {t e : List ℕ} → Puts d at t r e → r ≤ length d → Writes d at t r e
placed {d} {at} {r} {t} {e} p h =
    let fits = fitted p h in
    record { fits = fits; next = p.next ∙ next_within d at t (omega arith); holds = p.holds }

pub both_placed : {d : List ℕ} {at r : ℕ} {a e : List ℕ} (b : List ℕ) → PutsBoth d at a b r e → r ≤ length d → Writes d at (a ++ b) r e
both_placed {d} {at} {r} {a} {e} b p h = placed (as_one p (fitted first (⊎_elim past within (lt-or-le (length d) (next d at a))))) h
  where
    first : Puts d at a (next d at a) (put d at a)
    first = record { next = refl; holds = refl }

    past : length d < next d at a → next d at a ≤ length d
    past o = omega (arith, p.next ∙ next_past d (next d at a) b o)

    within : next d at a ≤ length d → next d at a ≤ length d
    within o = o

module _ {d : List ℕ} {at r : ℕ} {t e : List ℕ} where
  pub same_length : Writes d at t r e → length e ≡ length d
  same_length p = ap length p.holds ∙ put-length d at t

  -- the text by another name
  pub named : {u : List ℕ} → t ≡ u → Writes d at t r e → Writes d at u r e
  named h p = rw h at p

-- two texts in a row are one
pub then : {d : List ℕ} {at r : ℕ} {a e : List ℕ} {s : ℕ} {b f : List ℕ} → Writes d at a r e → Writes e r b s f → Writes d at (a ++ b) s f
then {d} {at} {r} {a} {e} {s} {b} {f} p q =
    let fits : at + length a + length b ≤ length d = omega (arith, same_length p, p.next, q.fits) in
    record {
      fits = rw length-append (omega arith);
      next = rw length-append (omega (arith, p.next, q.next));
      holds = rw (q.holds, p.holds, p.next) (put-put d at a b fits);
    }

-- one more piece, where the place after it is within the buffer
pub then_put : {d : List ℕ} {at r : ℕ} {a e : List ℕ} {s : ℕ} {b f : List ℕ} → Writes d at a r e → Puts e r b s f → s ≤ length d → Writes d at (a ++ b) s f
then_put w p h = then w (placed p (omega (arith, same_length w)))

pub then_both : {d : List ℕ} {at r : ℕ} {a e : List ℕ} {s : ℕ} {b f : List ℕ} (n : List ℕ) → Writes d at a r e → PutsBoth e r b n s f → s ≤ length d
    → Writes d at (a ++ (b ++ n)) s f
then_both n w p h = then w (both_placed n p (omega (arith, same_length w)))

-- a text at the start of the part from a place on is one at that place
pub in_part : {d : List ℕ} {at : ℕ} {t : List ℕ} {r : ℕ} {e : List ℕ} → at ≤ length d → Writes (mid_of at (length d - at) d) 0 t r e
    → Writes d at t (at + r) (put_mid at (length d - at) d e)
in_part {d} {at} {t} {r} {e} h w =
    let fits : at + length t ≤ length d = omega (arith, length-drop at d, ap length all) in
    record { fits = fits; next = omega (arith, w.next); holds = rw (put_whole d at t fits, text, none, append-nil, append_assoc) }
  where
    all : mid_of at (length d - at) d ≡ drop at d
    all = take_all (length d - at) (drop at d) (rw length-drop (omega arith))

    none : drop (length d - at) (drop at d) ≡ []
    none = drop_of_length-le (drop at d) {i = length d - at} (rw length-drop (omega arith))

    text : e ≡ t ++ drop (at + length t) d
    text = w.holds ∙ put_whole (mid_of at (length d - at) d) 0 t w.fits ∙ (rw (all, zero-add, drop-drop) refl)

-- of the text `t` all but `rest` is written
pub record Writing (d : List ℕ) (at : ℕ) (t : List ℕ) (r : ℕ) (e rest : List ℕ) : Type 0 where
  pub done : List ℕ
  pub so_far : Writes d at done r e
  pub whole : done ++ rest ≡ t

nothing_put : (d : List ℕ) (at : ℕ) → at ≤ length d → put d at [] ≡ d
nothing_put d at h =
    rw (put_whole d at [] (omega arith), append-nil (take at d), add-zero at) (take-append-drop at d)

pub writing_begin : {d : List ℕ} {at : ℕ} (t : List ℕ) → at ≤ length d → Writing d at t at d t
writing_begin {d} {at} t h =
    record {
      done = [];
      so_far = record { fits = omega arith; next = omega arith; holds = rw (nothing_put d at h) };
      whole = refl;
    }

module _ {d : List ℕ} {at : ℕ} {t : List ℕ} {r : ℕ} {e : List ℕ} where
  pub writing_next :
      {s : ℕ} {a f rest : List ℕ} → Writing d at t r e (a ++ rest) → Writes e r a s f → Writing d at t s f rest
  writing_next {s} {a} {f} {rest} q p =
      record { done = q.done ++ a; so_far = then q.so_far p; whole = rw append_assoc q.whole }

  pub writing_end : Writing d at t r e [] → Writes d at t r e
  writing_end q = let all : q.done ≡ t = rw append-nil at q.whole in rw all at q.so_far

-- ---- a text where there is room for so many bytes, and where there is not
module _ {size : ℕ} {d : List ℕ} {at : ℕ} {t : List ℕ} where
  pub no_room : length d < at + size → PutsWithin size d at t at d
  no_room h = record { next = rw (lt-leb (at + size) (length d)); holds = rw (lt-leb (at + size) (length d)); most = omega arith }

  module _ {r : ℕ} {e : List ℕ} (h : at + size ≤ length d) where
    pub with_room : Writes d at t r e → r ≤ at + size → PutsWithin size d at t r e
    with_room w m = record { next = rw (le-leb (at + size) (length d)) w.next; holds = rw (le-leb (at + size) (length d)) w.holds; most = m }

    pub whole : PutsWithin size d at t r e → Writes d at t r e
    whole p =
        let place : r ≡ at + length t = rw (le-leb (at + size) (length d)) at p.next in
        record { fits = omega (arith, p.most); next = place; holds = rw (le-leb (at + size) (length d)) at p.holds }

pub within_unique : {size : ℕ} {d : List ℕ} {at : ℕ} {t : List ℕ} {r r' : ℕ} {e e' : List ℕ} → PutsWithin size d at t r e → PutsWithin size d at t r' e'
    → (r ≡ r') × (e ≡ e')
within_unique p q = (unique p.next q.next, unique p.holds q.holds)
