-- Laws of the two-day ruler: the closed forms stand here once.
use Prim.Native.Nat.{ℕ, ◌+◌, ◌-◌, ◌%◌, ◌≤◌, ◌<◌}
use mathlib.Core.Path.{◌≡◌, refl, ◌∙◌}
use mathlib.Core.Logic.{⊎_elim}
use native.Mathlib.Omega.{arith}
use Rattle.base_lists.proofs.Bools.{bool_cases}
use mathlib.Core.Bool.{true, false}
use lib.Dec.{ltb}
use borrow.Author.Tests.{lt-ltb, le-ltb, ltb-true, ltb-false}
use Rattle.method.specs.Table.{size, most_quarters}
use Rattle.method.specs.Ruler.{ruler_start, ruler_end, quarter_of, against}
use Rattle.method.proofs.Tables.{size_is, size_most, size_least}

-- "day D-1 is 0 to 95 and day D is 96 to 191"
pub start_is : (event : ℕ) → ruler_start event ≡ 96
unfolding ruler_start
start_is event = size_is (event - 1)

-- day D starts where D-1 ends
pub start_size : (event : ℕ) → size (event - 1) ≡ ruler_start event
unfolding ruler_start
start_size event = refl

pub end_is : (event : ℕ) → ruler_end event ≡ 192
unfolding ruler_end
end_is event = omega (arith, start_is event, size_is event)

-- an event has at most a day's quarters
pub day_most : (event : ℕ) → ruler_end event ≤ ruler_start event + most_quarters
unfolding ruler_end
day_most event = omega (arith, size_most event)

-- an adjustment window has room before day D
pub window_before : (event : ℕ) → 12 ≤ ruler_start event
unfolding ruler_start
window_before event = size_least (event - 1)

pub quarter_before : (event t : ℕ) → t < ruler_start event → quarter_of event t ≡ t
unfolding quarter_of
quarter_before event t o = rw (lt-ltb t (ruler_start event) o)

pub quarter_from : (event t : ℕ) → ruler_start event ≤ t → quarter_of event t ≡ t - ruler_start event
unfolding quarter_of
quarter_from event t o = rw (le-ltb t (ruler_start event) o)

-- "the reading at quarter t mod 96"
pub mod_96 : (event t : ℕ) → t < ruler_end event → against event t ≡ t % 96
unfolding against
mod_96 event t o = ⊎_elim before after (bool_cases (ltb t (ruler_start event)))
  where
    before : ltb t (ruler_start event) ≡ true → quarter_of event t ≡ t % 96
    before e = let l : t < ruler_start event = ltb-true t (ruler_start event) e in quarter_before event t l ∙ omega (arith, start_is event)

    after : ltb t (ruler_start event) ≡ false → quarter_of event t ≡ t % 96
    after e =
        let l : ruler_start event ≤ t = ltb-false t (ruler_start event) e in
        quarter_from event t l ∙ omega (arith, start_is event, end_is event)
