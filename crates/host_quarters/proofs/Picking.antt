-- Whether days are chosen, and which, by what the choice of days says.
use mathlib.Core.Path.{◌≡◌, sym, ap}
use mathlib.Core.Bool.{true, false}
use Prim.Native.Nat.{ℕ}
use lib.ListN.{length, take}
use Rattle.std.specs.Prelude.{Ok, Err}
use Rattle.calendar_groups.specs.declared.Group.{Group}
use Rattle.method.specs.declared.Request.{Request}
use Rattle.method.specs.declared.Refusal.{Refusal}
use Rattle.method.specs.Table.{Day, History}
use Rattle.method.specs.Method.{chosen}
use Rattle.method.specs.Requested.{method_of}
use Rattle.method_working.specs.Working.{chooses}
use Rattle.engine_answer.specs.declared.Chosen.{Chosen}
use Rattle.engine_choice.specs.Steps.{choice_of}
use Rattle.engine_baseline.specs.Engine.{with_days}
use Rattle.engine_baseline.proofs.Choosing.{none_is, days_is, days_held}

module _ (group : ℕ → Group) (r : Request) (h : History Day) where
  pub none_picked : {w : Refusal} → Err w ≡ choice_of (method_of group r) h → chooses group r h ≡ false
  unfolding chooses
  none_picked e = none_is (method_of group r) h (sym e)

  module _ {c : Chosen} (e : Ok c ≡ choice_of (method_of group r) h) where
    pub some_picked : chooses group r h ≡ true
    unfolding chooses
    some_picked = let x = days_is (method_of group r) h (sym e) in rw (x.enough, x.taken)

    pub days_picked : with_days h (take c.count c.days) ≡ chosen (method_of group r) h
    days_picked = days_held group r h c (days_is (method_of group r) h (sym e))

    pub count_picked : c.count ≡ length (chosen (method_of group r) h)
    count_picked = ap (λ (d : Chosen). d.count) (days_is (method_of group r) h (sym e)).chosen
