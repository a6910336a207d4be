-- What the mark and the readings of a day make of it, in the order in which the code asks, and its word.
use Prim.Native.Nat.{ℕ, ◌+◌, ◌-◌, ◌*◌, ◌%◌, ◌^◌}
use mathlib.Core.Path.{◌≡◌, refl, sym, ap, ◌∙◌}
use mathlib.Core.Bool.{Bool, true, false, cond, not, ◌&&◌}
use mathlib.Core.List.{List}
use native.Mathlib.Omega.{arith}
use Rattle.std.specs.Prelude.{Option, Some, None}
use Rattle.base_lists.specs.Lists.{all}
use Rattle.method.specs.declared.Request.{Request}
use Rattle.method.specs.Table.{present, event_bit, outage_bit}
use Rattle.method.specs.Eligible.{complete, eligible, spare, event_sum}
use Rattle.engine_judging.specs.declared.Judged.{Judged}
use Rattle.engine_judging.specs.declared.Judged.TheVariants.{Eligible, Spare}
use Rattle.engine_judging.specs.Steps.{day_from, word_at, judged_at}

module _ (r : Request) (back mark : ℕ) (part : List ℕ) where
  by_tests : (a b c : Bool) → Option Judged
  by_tests a b c =
      cond (a && not b && not c) (Some (Eligible (word_at r back (day_from mark part))))
      (cond (a && b && not c) (Some (Spare (word_at r back (day_from mark part)))) None)

  judged_by : judged_at r back (day_from mark part) ≡ by_tests (all present part) (event_bit mark) (outage_bit mark)
  unfolding judged_at eligible spare complete by_tests
  judged_by = refl

  pub judged_out : outage_bit mark ≡ true → ◌≡◌ {A = Option Judged} None (judged_at r back (day_from mark part))
  unfolding by_tests
  judged_out t = sym (judged_by ∙ ap (by_tests (all present part) (event_bit mark)) t ∙ go (all present part) (event_bit mark))
    where
      go : (a b : Bool) → by_tests a b true ≡ None
      go true true = refl
      go true false = refl
      go false b = refl

  pub judged_lacking : all present part ≡ false → ◌≡◌ {A = Option Judged} None (judged_at r back (day_from mark part))
  unfolding by_tests
  judged_lacking t = sym (judged_by ∙ ap (λ (a : Bool). by_tests a (event_bit mark) (outage_bit mark)) t)

  module _ {sum near w : ℕ} (s : sum ≡ event_sum r (day_from 0 part) % 2 ^ 64) (n : near ≡ 46 - back) (is : w ≡ (64 * sum + near) % 2 ^ 64)
      (full : all present part ≡ true) (on : outage_bit mark ≡ false) where
    the_word : w ≡ word_at r back (day_from mark part)
    unfolding word_at event_sum
    the_word = omega arith

    pub judged_as_spare : event_bit mark ≡ true → Some (Spare w) ≡ judged_at r back (day_from mark part)
    unfolding by_tests
    judged_as_spare t = ap (λ x. Some (Spare x)) the_word ∙ sym (judged_by ∙ rw (full, t, on))

    pub judged_as_eligible : event_bit mark ≡ false → Some (Eligible w) ≡ judged_at r back (day_from mark part)
    unfolding by_tests
    judged_as_eligible t = ap (λ x. Some (Eligible x)) the_word ∙ sym (judged_by ∙ rw (full, t, on))
