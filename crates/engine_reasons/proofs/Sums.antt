-- The sum of a day over the event's own quarters.
use Prim.Native.Nat.{ℕ, ◌-◌, ◌^◌, ◌≤◌, ◌<◌}
use mathlib.Core.Path.{◌≡◌, ap, ◌∙◌}
use mathlib.Core.Bool.{true, false}
use mathlib.Core.List.{List}
use mathlib.Core.Logic.{⊎_elim}
use native.Mathlib.Omega.{arith}
use lib.ListN.{length, get_or, length-take, length-drop}
use borrow.Author.Tests.{le-leb, lt-leb}
use Rattle.std.specs.Prelude.{Option, Some, None}
use Rattle.base_lists.specs.Lists.{all, sum_of}
use Rattle.base_lists.proofs.Bools.{lt-or-le}
use Rattle.base_sums.specs.Steps.{Summed as SummedTo}
use Rattle.base_sums.proofs.Exact.{exact}
use Rattle.method.specs.declared.Request.{Request}
use Rattle.method.specs.Table.{size, most_quarters, present}
use Rattle.method.specs.Eligible.{event_sum}
use Rattle.method_working.specs.Working.{event_quarters, summed}
use Rattle.engine_rooms.specs.declared.Directory.{Directory}
use Rattle.engine_rooms.specs.Rooms.{readings_at, held_rooms, room_history}
use Rattle.engine_judging.specs.Steps.{day_from}
use Rattle.engine_reasons.specs.Steps.{held_sum, sum_found}
use Rattle.engine_reasons.proofs.Held.{back_held, back_not, back_day}

module _ (r : Request) (part : List ℕ) {quarters : List ℕ} (q : quarters ≡ event_quarters r (day_from 0 part)) where
  pub summed_missing : all present quarters ≡ false → ◌≡◌ {A = Option ℕ} None (sum_found (held_sum r (day_from 0 part)))
  unfolding sum_found
  summed_missing t = rw (rw q at t)

  module _ {x : ℕ} (few : length part ≤ most_quarters) (is : SummedTo quarters x) where
    -- a sum of so few readings is a number of 63 bits
    few_long : length quarters ≤ 2 ^ 31
    few_long = rw (q, length-take, length-drop) (omega arith)

    pub summed_small : x < 2 ^ 63
    summed_small = omega (arith, exact is few_long, is.bound, few_long)

    pub summed_whole : all present quarters ≡ true → Some x ≡ sum_found (held_sum r (day_from 0 part))
    unfolding sum_found event_sum
    summed_whole t = rw (rw q at t) (ap Some (exact is few_long ∙ ap sum_of q))

module _ (r : Request) (rooms : Directory) (readings : List ℕ) (back : ℕ) {n : ℕ} (e : n ≡ held_rooms r rooms) where
  pub sum_held : {part : List ℕ} → back < n → part ≡ readings_at (size (r.event - back)) readings (get_or rooms.at back 0)
      → sum_found (held_sum r (day_from 0 part))
      ≡ sum_found (summed r (room_history r rooms readings) back)
  unfolding summed event_sum held_rooms
  sum_held h p =
      let w : back ≤ r.event = omega arith in
      rw (le-leb back r.event w, back_held r rooms readings back e h, ← back_day r rooms readings back w p)

  pub sum_none : n ≤ back → ◌≡◌ {A = Option ℕ} None (sum_found (summed r (room_history r rooms readings) back))
  unfolding sum_found summed
  sum_none h =
      ⊎_elim (λ (o : r.event < back). rw (lt-leb back r.event o))
      (λ (o : back ≤ r.event). rw (le-leb back r.event o, back_not r rooms readings back e h o))
      (lt-or-le r.event back)
