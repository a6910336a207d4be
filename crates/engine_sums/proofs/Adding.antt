-- Sums over days that are taken one after the other.
use Rattle.std.proofs.Common.{◌≡◌, ℕ, zero, suc, ◌+◌, ◌-◌, ◌%◌, ◌^◌, ◌<◌, ◌≤◌, min, List, [], ◌∷◌, ◌++◌, map, replicate, length, get_or, take, drop, sym, ap, ◌∙◌, ⊎_elim, add-one, arith, length-append, length-drop, length-take, get_or-drop, get_or-take, ext_get_or, w32, Fits}
use lib.ListN.{get_or-append, get_or-eq_default}
use Rattle.base_lists.specs.Lists.{sum_of, places}
use Rattle.base_lists.proofs.Bools.{lt-or-le}
use Rattle.base_lists.proofs.Parts.{get_or-append_past}
use Rattle.engine_rooms.specs.Rooms.{readings_at}
use Rattle.std.proofs.lemmas.List.{take_all}
use Rattle.std.proofs.lemmas.Simd.{splat_is_map}
use Rattle.base_lists.proofs.Places.{length-places, length_over, at_place, over_same}
use Rattle.engine_sums.specs.QuarterSteps.{quarter_sum}

-- ---- one day more
pub sum_more : (f : ℕ → ℕ) (at : List ℕ) (k : ℕ) → k < length at
    → sum_of (map f (take (suc k) at)) ≡ sum_of (map f (take k at)) + f (get_or at k 0)
unfolding sum_of
sum_more f [] k h = absurd (omega arith)
sum_more f (a ∷ at) zero h = omega arith
sum_more f (a ∷ at) (suc k) h = omega (arith, sum_more f at k (omega arith))

module _ (size : ℕ) (readings at : List ℕ) (start n : ℕ) where
  -- the invariant of the loop that adds days: the sums of the first `k` of them, as numbers of 32 bits
  pub record Added (sums : List ℕ) (k : ℕ) : Type 0 where
    pub long : length sums ≡ n
    pub done : sums ≡ map (λ q. quarter_sum size readings (take k at) (start + q) % 2 ^ 32) (places n 0)

  pub added_begin : {sums : List ℕ} → sums ≡ replicate n 0 → Added sums 0
  unfolding quarter_sum sum_of
  added_begin e =
      let f = e ∙ splat_is_map (places n 0) n 0 (length-places n 0) in
      record { long = ap length f ∙ length_over (λ q. 0) n 0; done = f }

  module _ {sums : List ℕ} {k : ℕ} (w : Added sums k) where
    pub added_next : {next day : List ℕ} → k < length at → day ≡ readings_at size readings (get_or at k 0)
        → next ≡ map (λ q. (get_or sums q 0 + get_or day (start + q) 0) % 2 ^ 32) (places (length sums) 0) → Added next (k + 1)
    unfolding quarter_sum
    added_next {next} {day} h p f =
        record {
          long = ap length f ∙ length_over (λ q. (get_or sums q 0 + get_or day (start + q) 0) % 2 ^ 32) (length sums) 0 ∙ w.long;
          done = f ∙ rw w.long (over_same _ _ n 0 each);
        }
      where
        each : (q : ℕ) → 0 ≤ q → q < 0 + n
            → (get_or sums q 0 + get_or day (start + q) 0) % 2 ^ 32 ≡ sum_of (map (λ a. get_or (readings_at size readings a) (start + q) 0) (take (k + 1) at)) % 2 ^ 32
        each q a b =
            let i : q < n = omega arith in
            let z : 0 + q ≡ q = omega arith in
            let m = sum_more (λ a. get_or (readings_at size readings a) (start + q) 0) at k h in
            let here = ap (λ l. get_or l q 0) w.done ∙ at_place (λ q. quarter_sum size readings (take k at) (start + q) % 2 ^ 32) 0 n 0 q i in
            let day_is = ap (λ l. get_or l (start + q) 0) p in
            rw (add-one k) (omega (arith, m, day_is, rw z at here))

    pub added_end : length at ≤ k → sums ≡ map (λ q. quarter_sum size readings at (start + q) % 2 ^ 32) (places n 0)
    added_end h = rw (take_all k at h) at w.done

-- ---- the part of a day that meets the sums: `ys` is what its first `n` become
module _ (sums day : List ℕ) (start from n : ℕ) (f : from ≡ min start (length day)) (m : n ≡ min (length day - from) (length sums)) {ys : List ℕ}
    (e : ys ≡ map (λ q. (get_or (take n sums) q 0 + get_or (take (from + n - from) (drop from day)) q 0) % 2 ^ 32) (places (length (take n sums)) 0))
    (bound : (i : ℕ) → Fits w32 (get_or (ys ++ drop n sums) i 0)) where
  part_size : length (take n sums) ≡ n
  part_size = rw length-take (omega arith)

  long : length ys ≡ n
  long = ap length e ∙ length_over (λ q. (get_or (take n sums) q 0 + get_or (take (from + n - from) (drop from day)) q 0) % 2 ^ 32) (length (take n sums)) 0
      ∙ part_size

  part_at : (q : ℕ) → q < n → get_or ys q 0 ≡ (get_or (take n sums) q 0 + get_or (take (from + n - from) (drop from day)) q 0) % 2 ^ 32
  part_at q h =
      let z : 0 + q ≡ q = omega arith in
      let p : q < length (take n sums) = omega (arith, part_size) in
      ap (λ l. get_or l q 0) e ∙ rw z at
      (at_place (λ q. (get_or (take n sums) q 0 + get_or (take (from + n - from) (drop from day)) q 0) % 2 ^ 32) 0 (length (take n sums)) 0 q p)

  abbrev value : ℕ → ℕ
  value q = (get_or sums q 0 + get_or day (start + q) 0) % 2 ^ 32

  pub clipped : ys ++ drop n sums ≡ map value (places (length sums) 0)
  clipped = ext_get_or 0 (ys ++ drop n sums) (map value (places (length sums) 0)) whole at
    where
      whole : length (ys ++ drop n sums) ≡ length (map value (places (length sums) 0))
      whole = rw (length-append, length-drop, long, length_over value (length sums) 0) (omega arith)

      at : (q : ℕ) → q < length (ys ++ drop n sums) → get_or (ys ++ drop n sums) q 0 ≡ get_or (map value (places (length sums) 0)) q 0
      at q h = ⊎_elim early late (lt-or-le q n) ∙ sym there
        where
          inside : q < length sums
          inside = omega (arith, h, whole, length_over value (length sums) 0)

          there : get_or (map value (places (length sums) 0)) q 0 ≡ value q
          there = let z : 0 + q ≡ q = omega arith in rw z at (at_place value 0 (length sums) 0 q inside)

          early : q < n → get_or (ys ++ drop n sums) q 0 ≡ value q
          early l =
              let w : from + n - from ≡ n = omega arith in
              let s : from + q ≡ start + q = omega arith in
              let o : q < length ys = omega (arith, long) in
              get_or-append ys (drop n sums) 0 q o ∙ part_at q l ∙
              rw (w, get_or-take n sums q 0 l, get_or-take n (drop from day) q 0 l, get_or-drop from day q 0, s)

          late : n ≤ q → get_or (ys ++ drop n sums) q 0 ≡ value q
          late l =
              let o : length ys ≤ q = omega (arith, long) in
              let z : n + (q - length ys) ≡ q = omega (arith, long) in
              let none : get_or day (start + q) 0 ≡ 0 = get_or-eq_default day 0 (omega (arith, inside)) in
              let stays = rw z at (get_or-append_past ys (drop n sums) q 0 o ∙ get_or-drop n sums (q - length ys) 0) in
              omega (arith, stays, none, bound q)
