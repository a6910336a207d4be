-- 01, "Choosing the days": complete, eligible and spare days, and which of two days is higher.
use Rattle.std.specs.Prelude.{ℕ, ◌-◌, Bool, not, ◌&&◌, ◌||◌, cond, List, [], ◌∷◌, take, drop, ltb, eqb}
use Rattle.base_lists.specs.Lists.{all, sum_of}
use Rattle.method.specs.declared.Request.{Request}
use Rattle.method.specs.Table.{Day, present, event_bit, outage_bit}
use Rattle.method.specs.Ruler.{against}

-- "It is complete if none of its 96 readings is missing (desk rule)."
unfoldable pub complete : Day → Bool
complete d = all present d.readings

-- "It is eligible if relevant, complete, and both bits are clear."
unfoldable pub eligible : Day → Bool
eligible d = complete d && not (event_bit d.mark) && not (outage_bit d.mark)

-- "relevant, complete days with bit 0 set and bit 1 clear"
unfoldable pub spare : Day → Bool
spare d = complete d && event_bit d.mark && not (outage_bit d.mark)

-- "the sum of the day's readings over the event's own quarters"
unfoldable pub event_sum : Request → Day → ℕ
event_sum r d = sum_of (take (r.e - r.s) (drop (against r.event r.s) d.readings))

-- "'Highest' is the sum ..; equal sums put the day nearer D first": `a` stands before `b`. Of two days before D the later is nearer
unfoldable pub higher : Request → ℕ × Day → ℕ × Day → Bool
higher r a b =
    ltb (event_sum r b.1) (event_sum r a.1) || (eqb (event_sum r a.1) (event_sum r b.1) && ltb b.0 a.0)

module _ {A : Type 0} (before : A → A → Bool) where
  unfoldable pub insert_by : A → List A → List A
  insert_by x [] = x ∷ []
  insert_by x (y ∷ ys) = let later = insert_by x ys in cond (before x y) (x ∷ y ∷ ys) (y ∷ later)

  unfoldable pub sort_by : List A → List A
  sort_by [] = []
  sort_by (x ∷ xs) = insert_by x (sort_by xs)
