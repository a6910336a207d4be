-- What holds of each size of a window, tested.
use Prim.Native.Nat.{ℕ, ◌+◌, ◌≤◌, ◌<◌}
use mathlib.Core.Path.{◌≡◌, sym, ap, ◌∙◌}
use mathlib.Core.Bool.{Bool, true}
use mathlib.Core.List.{List, map}
use native.Mathlib.Nat.{zero-add}
use native.Mathlib.Omega.{arith}
use lib.Dec.{leb}
use borrow.Author.Tests.{leb-true}
use lib.ListN.{get_or, replicate, get_or-replicate}
use Rattle.base_lists.specs.Lists.{places}
use Rattle.base_lists.proofs.Places.{at_place}
use Rattle.engine_rules.specs.declared.Rules.{Rules as Numbers}
use Rattle.engine_rules.specs.Steps.{Sound}

-- what is tested of each size holds of each
each_size : (test : ℕ → Bool) → map test (places 11 0) ≡ replicate 11 true → (size : ℕ) → size ≤ 10 → test size ≡ true
each_size test e size o =
    ap test (sym (zero-add size)) ∙ sym (at_place test true 11 0 size (omega arith)) ∙ ap (λ (l : List Bool). get_or l size true) e
    ∙ get_or-replicate 11 size true true (omega arith)

-- numbers that are tested at each size are sound
pub sound_by : (numbers : Numbers) → numbers.most ≤ 10 → numbers.fill < numbers.most
    → map (λ size. leb (get_or numbers.passed size 0 + get_or numbers.taken size 0) size) (places 11 0) ≡ replicate 11 true
    → map (λ size. leb (get_or numbers.taken size 0) 5) (places 11 0) ≡ replicate 11 true
    → Sound numbers
sound_by numbers ten fills within five =
    record {
      ten = ten;
      fills = fills;
      within = λ size o.
          leb-true (get_or numbers.passed size 0 + get_or numbers.taken size 0) size
          (each_size (λ size. leb (get_or numbers.passed size 0 + get_or numbers.taken size 0) size) within size o);
      five = λ size o. leb-true (get_or numbers.taken size 0) 5 (each_size (λ size. leb (get_or numbers.taken size 0) 5) five size o);
    }
