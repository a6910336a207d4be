-- What is judged of the day so far back is what the dated day is.
use Prim.Native.Nat.{ℕ, ◌-◌, ◌*◌, ◌^◌, ◌≤◌, ◌<◌}
use mathlib.Core.Path.{◌≡◌, sym, ◌∙◌}
use mathlib.Core.List.{List}
use native.Mathlib.Omega.{arith}
use lib.Dec.{leb}
use lib.ListN.{length, take, drop, get_or, length-take, length-drop}
use borrow.Author.Tests.{le-leb}
use Rattle.base_lists.proofs.All.{all_of, all-take, all-drop}
use Rattle.base_lists.proofs.Sums.{sum_most}
use Rattle.method.specs.declared.Request.{Request}
use Rattle.method.specs.Table.{most_quarters, missing}
use Rattle.method.specs.Ruler.{against}
use Rattle.method.specs.Eligible.{event_sum}
use Rattle.engine_ranking.specs.Steps.{word}
use Rattle.engine_judging.specs.Steps.{day_from, word_at, judged_at}
use Rattle.engine_judging.specs.declared.Judged.{Judged}
use Rattle.engine_look_back.specs.declared.Found.{Found}
use Rattle.engine_look_back.specs.Steps.{judged, Further}
use Rattle.std.specs.Prelude.{Option}

module _ {r : Request} {back : ℕ} {found : Found} (next : Further r back found) (mark : ℕ) (part : List ℕ) (few : length part ≤ most_quarters)
    (small : (i : ℕ) → get_or part i 0 < 2 ^ 32) where
  sum_few : event_sum r (day_from mark part) ≤ missing * most_quarters
  unfolding event_sum
  sum_few =
      let each = all_of (λ x. leb x missing) 0 part (λ i. le-leb (get_or part i 0) missing (omega (arith, small i))) in
      let l : length (take (r.e - r.s) (drop (against r.event r.s) part)) ≤ most_quarters = rw (length-take, length-drop) (omega arith) in
      sum_most missing (take (r.e - r.s) (drop (against r.event r.s) part)) most_quarters l
      (all-take (λ x. leb x missing) (r.e - r.s) (drop (against r.event r.s) part) (all-drop (λ x. leb x missing) (against r.event r.s) part each))

  same_word : word_at r back (day_from mark part) ≡ word r (r.event - back, day_from mark part)
  unfolding word_at word
  same_word = omega (arith, sum_few, next.some, next.most, next.within)

  judged_so : {x : Option Judged} → x ≡ judged_at r back (day_from mark part) → judged r (r.event - back, day_from mark part) ≡ x
  unfolding judged_at judged
  judged_so e = sym (e ∙ rw same_word)

-- the same of the day in its room
pub judged_in : {r : Request} {back : ℕ} {found : Found} {part room : List ℕ} {x : Option Judged} (mark : ℕ) → Further r back found → part ≡ room → length part ≤ most_quarters
    → ((i : ℕ) → get_or part i 0 < 2 ^ 32) → x ≡ judged_at r back (day_from mark part) → judged r (r.event - back, day_from mark room) ≡ x
judged_in {part = part} mark next e few small j = rw e at (judged_so next mark part few small j)
