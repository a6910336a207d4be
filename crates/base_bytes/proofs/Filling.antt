-- Filling a lent buffer from its start: what is written and what is left to write are the whole, and the rest is as it was.
use Prim.Native.Nat.{ℕ, ◌+◌, ◌-◌, ◌<◌, ◌≤◌}
use mathlib.Core.Path.{◌≡◌, refl, sym, ◌∙◌, ap}
use mathlib.Core.List.{List, [], ◌∷◌, ◌++◌, append_assoc, append-nil}
use native.Mathlib.Omega.{arith}
use native.Mathlib.Numerals.{add-one}
use lib.ListN.{length, take, drop, set, length-set, take-append-drop, length-append}
use lib.Seq.{take-suc-set, drop-set-lt, drop-drop, append_snoc, take_at, length-take-le}
use borrow.Rule.Slice.PartMut.{put_mid, same_len_mid, mid_len, drop_put}

pub record Filling (before whole now left : List ℕ) (i : ℕ) : Type 0 where
  pub long : length now ≡ length before
  pub done : take i now ++ left ≡ whole
  pub kept : drop i now ≡ drop i before

pub filling_none : (before whole : List ℕ) → Filling before whole before whole 0
filling_none before whole = record { long = refl; done = refl; kept = refl }

-- what is kept past a place is kept past a later one
kept_on : {before whole now left : List ℕ} {i : ℕ} (n : ℕ) → Filling before whole now left i → drop (i + n) now ≡ drop (i + n) before
kept_on {before} {whole} {now} {left} {i} n q = sym (drop-drop n i now) ∙ ap (drop n) q.kept ∙ drop-drop n i before

module _ {before whole now left : List ℕ} {i : ℕ} (q : Filling before whole now left i) where
  pub filling_one : (v : ℕ) (later : List ℕ) → i < length now → left ≡ v ∷ later → Filling before whole (set now i v) later (i + 1)
  filling_one v later h e =
      let o : i < i + 1 = omega arith in
      record {
        long = length-set now i v ∙ q.long;
        done = rw (add-one, take-suc-set now i v h) (append_snoc (take i now) v later ∙ (rw e at q.done));
        kept = drop-set-lt (i + 1) now i v o ∙ kept_on 1 q;
      }

  pub filling_part : (part later : List ℕ) (end : ℕ) → i ≤ end → end ≤ length now → length part ≡ end - i → left ≡ part ++ later
      → Filling before whole (put_mid i (end - i) now part) later end
  filling_part part later end h g l e =
      let on : i + (end - i) ≡ end = omega arith in
      let within : i ≤ length now = omega arith in
      let size : length (take i now ++ part) ≡ end = length-append (take i now) part ∙ (rw (length-take-le i now within, l) on) in
      record {
        long = same_len_mid i (end - i) now part (l ∙ sym (mid_len i end now g)) ∙ q.long;
        done =
            ap (λ (l : List ℕ). take end l ++ later) (sym (append_assoc (take i now) part (drop (end - i) (drop i now))))
            ∙ ap (λ (l : List ℕ). l ++ later) (take_at (take i now ++ part) (drop (end - i) (drop i now)) end size)
            ∙ append_assoc (take i now) part later
            ∙ (rw e at q.done);
        kept = drop_put i end now part h g l ∙ (rw on at (kept_on (end - i) q));
      }

  pub filled : left ≡ [] → now ≡ whole ++ drop i before
  filled e =
      sym (take-append-drop i now)
      ∙ (rw q.kept (ap (λ (l : List ℕ). l ++ drop i before) (sym (append-nil (take i now)) ∙ (rw e at q.done))))
