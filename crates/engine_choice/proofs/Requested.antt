-- The rules of a request are followed: what holds of its choice, whichever method it asks for.
use Prim.Native.Nat.{ℕ, ◌≤◌}
use mathlib.Core.Path.{◌≡◌}
use lib.ListN.{length}
use Rattle.calendar_groups.specs.declared.Group.{Group}
use Rattle.method.specs.declared.Request.{Request}
use Rattle.method.specs.Table.{Day, History}
use Rattle.method.specs.Method.{window, chosen}
use Rattle.method.specs.Requested.{rules_of, method_of}
use Rattle.engine_rules.specs.declared.Rules.{Rules as Numbers}
use Rattle.engine_rules.specs.Steps.{Follows, in_numbers}
use Rattle.engine_rules.proofs.Followed.{followed}
use Rattle.engine_choice.proofs.Followed.{window_most, chosen_most}

-- numbers that are a request's follow its rules
pub follows : (g : Group) (r : Request) {numbers : Numbers} → numbers ≡ in_numbers g r → Follows r (rules_of g r) numbers
follows g r e = rw e (followed g r)

-- a window has at most ten days
pub window_ten : (group : ℕ → Group) (r : Request) (h : History Day) → length (window (method_of group r) h) ≤ 10
unfolding method_of
window_ten group r h = window_most (followed (group r.event) r) group h

-- "an array of five day numbers" holds the chosen days
pub chosen_five : (group : ℕ → Group) (r : Request) (h : History Day) → length (chosen (method_of group r) h) ≤ 5
unfolding method_of
chosen_five group r h = chosen_most (followed (group r.event) r) group h
