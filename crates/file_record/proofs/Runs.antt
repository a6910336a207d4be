-- Runs of records that are counted one after the other: `k` are passed, `at` is where the next one starts.
use Prim.Native.Nat.{ℕ, zero, suc, ◌+◌, ◌<◌, ◌≤◌}
use mathlib.Core.Path.{◌≡◌, refl, ap, ◌∙◌}
use mathlib.Core.Bool.{Bool, true, false, cond}
use mathlib.Core.List.{List}
use native.Mathlib.Omega.{arith}
use native.Mathlib.Nat.{add-zero}
use lib.ListN.{length, drop, length-drop}
use lib.Seq.{drop-drop}
use Rattle.std.specs.List.{prefix_len, range_with_len}
use Rattle.file_record.specs.Reader.{run}

module _ (good : ℕ → List ℕ → Bool) (record_length : ℕ → ℕ) where
  pub run_more : (most i : ℕ) (left : List ℕ) → good i left ≡ true
      → run good record_length (suc most) i left ≡ suc (run good record_length most (suc i) (drop (record_length i) left))
  unfolding run
  run_more most i left t = rw t

  pub run_stops : (most i : ℕ) (left : List ℕ) → good i left ≡ false → run good record_length most i left ≡ 0
  unfolding run
  run_stops zero i left t = refl
  run_stops (suc most) i left t = rw t

  pub run_full : (i : ℕ) (left : List ℕ) → run good record_length 0 i left ≡ 0
  unfolding run
  run_full i left = refl

  -- a run is never longer than it may be
  pub run_most : (most i : ℕ) (left : List ℕ) → run good record_length most i left ≤ most
  unfolding run
  run_most zero i left = omega arith
  run_most (suc most) i left = go (good i left) refl (run_most most (suc i) (drop (record_length i) left))
    where
      go : (t : Bool) → good i left ≡ t → run good record_length most (suc i) (drop (record_length i) left) ≤ most → run good record_length (suc most) i left ≤ suc most
      go true e h = rw e (omega arith)
      go false e h = rw e (omega arith)

-- a run of records: `span i k` is how long `k` of them are, from the one numbered `i` on
module _ (good : ℕ → List ℕ → Bool) (record_length : ℕ → ℕ) (span : ℕ → ℕ → ℕ) (none : (i : ℕ) → span i 0 ≡ 0)
    (cons : (i k : ℕ) → span i (suc k) ≡ record_length i + span (suc i) k) where
  pub each : (most i : ℕ) (left : List ℕ) (k : ℕ) → k < run good record_length most i left → good (i + k) (drop (span i k) left) ≡ true
  each zero i left k h = absurd (omega (arith, run_full good record_length i left))
  each (suc most) i left k h = go (good i left) refl k h (each most (suc i) (drop (record_length i) left))
    where
      go : (t : Bool) → good i left ≡ t → (k : ℕ) → k < run good record_length (suc most) i left
          → ((k : ℕ) → k < run good record_length most (suc i) (drop (record_length i) left)
          → good (suc i + k) (drop (span (suc i) k) (drop (record_length i) left)) ≡ true)
          → good (i + k) (drop (span i k) left) ≡ true
      go false e k h later = absurd (omega (arith, run_stops good record_length (suc most) i left e))
      go true e zero h later = rw (add-zero, none i) e
      go true e (suc k) h later =
          let o : k < run good record_length most (suc i) (drop (record_length i) left) = omega (arith, run_more good record_length most i left e) in
          let a : i + suc k ≡ suc i + k = omega arith in
          rw (a, cons i k, ← drop-drop (span (suc i) k) (record_length i) left) (later k o)

  pub next : (most i : ℕ) (left : List ℕ) → run good record_length most i left < most
      → good (i + run good record_length most i left) (drop (span i (run good record_length most i left)) left) ≡ false
  next zero i left h = absurd (omega arith)
  next (suc most) i left h = go (good i left) refl h (next most (suc i) (drop (record_length i) left))
    where
      go : (t : Bool) → good i left ≡ t → run good record_length (suc most) i left < suc most
          → (run good record_length most (suc i) (drop (record_length i) left) < most
          → good (suc i + run good record_length most (suc i) (drop (record_length i) left))
          (drop (span (suc i) (run good record_length most (suc i) (drop (record_length i) left))) (drop (record_length i) left)) ≡ false)
          → good (i + run good record_length (suc most) i left) (drop (span i (run good record_length (suc most) i left)) left) ≡ false
      go false e h later = rw (run_stops good record_length (suc most) i left e, add-zero, none i) e
      go true e h later =
          let k = run good record_length most (suc i) (drop (record_length i) left) in
          let o : k < most = omega (arith, run_more good record_length most i left e) in
          let a : i + suc k ≡ suc i + k = omega arith in
          rw (run_more good record_length most i left e, a, cons i k, ← drop-drop (span (suc i) k) (record_length i) left) (later o)

  pub fits : ((i : ℕ) (left : List ℕ) → good i left ≡ true → record_length i ≤ length left) → (most i : ℕ) (left : List ℕ)
      → span i (run good record_length most i left) ≤ length left
  fits whole zero i left = rw (run_full good record_length i left, none i) (omega arith)
  fits whole (suc most) i left = go (good i left) refl (fits whole most (suc i) (drop (record_length i) left))
    where
      go : (t : Bool) → good i left ≡ t
          → span (suc i) (run good record_length most (suc i) (drop (record_length i) left)) ≤ length (drop (record_length i) left)
          → span i (run good record_length (suc most) i left) ≤ length left
      go false e h = rw (run_stops good record_length (suc most) i left e, none i) (omega arith)
      go true e h =
          let k = run good record_length most (suc i) (drop (record_length i) left) in
          rw (run_more good record_length most i left e, cons i k) (omega (arith, length-drop (record_length i) left, whole i left e))

-- a run, counted by the places of its records: the one numbered `i + k` starts at `start k`
module _ (good : ℕ → List ℕ → Bool) (record_length : ℕ → ℕ) (file : List ℕ) (i : ℕ) (start : ℕ → ℕ)
    (after : (k : ℕ) → start (k + 1) ≡ start k + record_length (i + k)) where
  pub run_counts : (most k : ℕ)
      → prefix_len (λ j. good (i + j) (drop (start j) file)) (range_with_len k most) ≡ run good record_length most (i + k) (drop (start k) file)
  unfolding run
  run_counts zero k = refl
  run_counts (suc most) k =
      let later : suc (i + k) ≡ i + (k + 1) = omega arith in
      let one : 1 + run good record_length most (i + (k + 1)) (drop (start (k + 1)) file) ≡ suc (run good record_length most (i + (k + 1)) (drop (start (k + 1)) file)) = omega arith in
      rw (drop-drop (record_length (i + k)) (start k) file, ← after k, later, run_counts most (k + 1))
      (ap (λ (n : ℕ). cond (good (i + k) (drop (start k) file)) n 0) one)

  pub run_from : (most : ℕ) {begin : ℕ} → start 0 ≡ begin
      → prefix_len (λ j. good (i + j) (drop (start j) file)) (range_with_len 0 most) ≡ run good record_length most i (drop begin file)
  run_from most s = run_counts most 0 ∙ (rw (add-zero i, s) refl)
