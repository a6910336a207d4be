-- 01's three cases of the window, beside its one line; and its size.
use mathlib.Core.Path.{◌≡◌}
use mathlib.Core.List.{List, [], ◌++◌, append-nil}
use Prim.Native.Nat.{ℕ, ◌-◌, ◌≤◌, ◌<◌}
use native.Mathlib.Omega.{arith}
use lib.ListN.{length, take, length-append, length-take}
use lib.Seq.{take_all}
use Rattle.method.specs.Table.{History}
use Rattle.method.specs.Method.{Method, eligibles, spares, window}
use Rattle.method.specs.Lawful.{Lawful}

-- nothing is taken where `n` is no more than `k`
take_none : {A : Type 0} (n k : ℕ) (xs : List A) → n ≤ k → take (n - k) xs ≡ []
take_none n k xs h = let o : n - k ≡ 0 = omega arith in rw o

module _ {A O : Type 0} (m : Method A O) (law : Lawful m) (h : History A) where
  -- "The window is the Y most recent eligible days"
  pub window_full : m.most ≤ length (eligibles m h) → window m h ≡ take m.most (eligibles m h)
  unfolding window
  window_full e =
      rw (take_none m.fill (length (eligibles m h)) (spares m h) (omega (arith, law.fills))) (append-nil (take m.most (eligibles m h)))

  -- "if fewer than Y but at least N exist, all of them"
  pub window_all : length (eligibles m h) ≤ m.most → m.fill ≤ length (eligibles m h) → window m h ≡ eligibles m h
  unfolding window
  window_all e f =
      rw (take_all m.most (eligibles m h) e, take_none m.fill (length (eligibles m h)) (spares m h) f) (append-nil (eligibles m h))

  -- "If fewer than N exist, it is all of them and then [spares], highest first, until N are reached or none remain"
  pub window_filled : length (eligibles m h) ≤ m.fill → window m h ≡ eligibles m h ++ take (m.fill - length (eligibles m h)) (spares m h)
  unfolding window
  window_filled e = rw (take_all m.most (eligibles m h) (omega (arith, law.fills)))

  -- it holds Y days exactly where so many are eligible
  pub full_size : m.most ≤ length (eligibles m h) → length (window m h) ≡ m.most
  full_size e = rw (window_full e, length-take) (omega arith)

  pub size_below : length (eligibles m h) < m.most → length (window m h) < m.most
  unfolding window
  size_below e = simp (length-append, length-take) (omega (arith, law.fills))
