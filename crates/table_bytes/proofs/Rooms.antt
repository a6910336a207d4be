-- Room for numerators: more than a day's changes nothing.
use Prim.Native.Nat.{ℕ, ◌-◌, ◌≤◌, ◌<◌, min}
use mathlib.Core.Path.{◌≡◌}
use mathlib.Core.Bool.{true, false}
use mathlib.Core.List.{List}
use mathlib.Core.Logic.{⊎_elim}
use native.Mathlib.Omega.{arith}
use borrow.Author.Tests.{lt-ltb, le-ltb}
use lib.Dec.{ltb}
use Rattle.base_lists.proofs.Bools.{bool_cases, lt-or-le}
use Rattle.method.specs.declared.Request.{Request}
use Rattle.method.specs.Table.{Table, most_quarters}
use Rattle.method.specs.Verdict.{good_request, request_refusals, first_of, methodology, by_list}
use Rattle.method.proofs.Ruler.{day_most}
use Rattle.engine_refusals.proofs.FirstRefusal.{good_request_lem}
use Rattle.engine_baseline.specs.Engine.{over_rooms}
use Rattle.table_engine.specs.Steps.{over_table}

-- more room than a day's quarters changes no test
most_room : (n k : ℕ) → k ≤ most_quarters → ltb (min n most_quarters) k ≡ ltb n k
most_room n k h = ⊎_elim below enough (lt-or-le n k)
  where
    below : n < k → ltb (min n most_quarters) k ≡ ltb n k
    below g = let o : min n most_quarters < k = omega arith in rw (lt-ltb (min n most_quarters) k o, lt-ltb n k g)

    enough : k ≤ n → ltb (min n most_quarters) k ≡ ltb n k
    enough g = let o : k ≤ min n most_quarters = omega arith in rw (le-ltb (min n most_quarters) k o, le-ltb n k g)

-- a day's quarters are room enough for every event
pub room_same : (moves : List ℕ) (t : Table) (r : Request) (room : ℕ) → over_table moves t r (min room most_quarters) ≡ over_table moves t r room
unfolding over_table over_rooms by_list methodology request_refusals first_of
room_same moves t r room = ⊎_elim good bad (bool_cases (good_request r))
  where
    good : good_request r ≡ true → over_table moves t r (min room most_quarters) ≡ over_table moves t r room
    good g =
        let k = good_request_lem r g in
        let o : r.e - r.s ≤ most_quarters = omega (arith, k.up_to, k.from, day_most r.event) in
        rw (most_room room (r.e - r.s) o)

    bad : good_request r ≡ false → over_table moves t r (min room most_quarters) ≡ over_table moves t r room
    bad g = rw g
