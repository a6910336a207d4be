-- Numbers that follow rules: what they say of each size of a window, and that such rules make a lawful method.
use Prim.Native.Nat.{ℕ, ◌+◌, ◌≤◌}
use mathlib.Core.Path.{◌≡◌, refl, sym, ap, ◌∙◌, subst}
use mathlib.Core.Bool.{true}
use mathlib.Core.List.{List}
use mathlib.Core.Logic.{⊎_elim}
use native.Mathlib.Nat.{zero-add}
use native.Mathlib.Omega.{arith}
use lib.ListN.{length, get_or, length-take, length-drop}
use Rattle.base_lists.specs.Lists.{member}
use Rattle.base_lists.proofs.Bools.{lt-or-le}
use Rattle.calendar_groups.specs.declared.Group.{Group}
use Rattle.method.specs.declared.Request.{Request}
use Rattle.method.specs.Table.{Day, History}
use Rattle.method.specs.Eligible.{higher}
use Rattle.method.specs.Method.{days_of, eligibles, window, chosen}
use Rattle.method.specs.Rules.{Rules, method_by}
use Rattle.method.specs.Requested.{method_of}
use Rattle.method.specs.Lawful.{Lawful}
use Rattle.method_laws.proofs.Window.{full_size, size_below}
use Rattle.method_laws.proofs.Sort.{member_sorted, length_sorted}
use Rattle.method_laws.proofs.Requested.{lawful}
use Rattle.base_lists.proofs.Places.{at_place}
use Rattle.engine_rules.specs.declared.SpareOrder.{SpareOrder}
use Rattle.engine_rules.specs.declared.SpareOrder.TheVariants.{Highest, Latest}
use Rattle.engine_rules.specs.declared.Rules.{Rules as Numbers}
use Rattle.engine_rules.specs.Steps.{in_order, by_size, Follows}

pub at_size : (f : ℕ → ℕ) (size : ℕ) → size ≤ 10 → get_or (by_size f) size 0 ≡ f size
at_size f size o = at_place f 0 11 0 size (omega arith) ∙ ap f (zero-add size)

-- an order only permutes
module _ (r : Request) where
  pub order_length : (o : SpareOrder) (days : List (ℕ × Day)) → length (in_order r o days) ≡ length days
  order_length Highest days = length_sorted (higher r) days
  order_length Latest days = refl

  order_only : (o : SpareOrder) (days : List (ℕ × Day)) (d : ℕ) → member d (days_of (in_order r o days)) ≡ true → member d (days_of days) ≡ true
  order_only Highest days d e = sym (member_sorted (higher r) (λ p. p.0) d days) ∙ e
  order_only Latest days d e = e

module _ {r : Request} {rules : Rules} {numbers : Numbers} (f : Follows r rules numbers) where
  pub passed_at : (size : ℕ) → size ≤ 10 → get_or numbers.passed size 0 ≡ rules.passed size
  passed_at size o = ap (λ (l : List ℕ). get_or l size 0) f.passed ∙ at_size rules.passed size o

  pub taken_at : (size : ℕ) → size ≤ 10 → get_or numbers.taken size 0 ≡ rules.taken size
  taken_at size o = ap (λ (l : List ℕ). get_or l size 0) f.taken ∙ at_size rules.taken size o

  pub taken_within : (size : ℕ) → size ≤ 10 → rules.passed size + rules.taken size ≤ size
  taken_within size o = omega (arith, passed_at size o, taken_at size o, f.sound.within size o)

  pub lawful_by : (group : ℕ → Group) → Lawful (method_by group r rules)
  unfolding method_of method_by
  lawful_by group =
      record {
        falling = (lawful group r).falling;
        before = (lawful group r).before;
        fills = omega (arith, f.most, f.fill, f.sound.fills);
        only =
            subst (λ (o : List (ℕ × Day) → List (ℕ × Day)). (days : List (ℕ × Day)) (d : ℕ) → member d (days_of (o days)) ≡ true → member d (days_of days) ≡ true)
            f.order (order_only r numbers.spares);
        needs = omega (arith, taken_within 0 (omega arith));
      }

  -- a window has at most ten days, and of it at most five are chosen
  module _ (group : ℕ → Group) (h : History Day) where
    pub window_most : length (window (method_by group r rules) h) ≤ 10
    unfolding method_by
    window_most =
        ⊎_elim (λ few. omega (arith, size_below (method_by group r rules) (lawful_by group) h few, f.most, f.sound.ten))
        (λ full. omega (arith, full_size (method_by group r rules) (lawful_by group) h full, f.most, f.sound.ten))
        (lt-or-le (length (eligibles (method_by group r rules) h)) rules.most)

    -- as many are chosen as are taken
    pub taken_chosen : length (chosen (method_by group r rules) h) ≡ rules.taken (length (window (method_by group r rules) h))
    unfolding chosen method_by
    taken_chosen =
        let size : ℕ = length (window (method_by group r rules) h) in
        rw (length-take, length-drop, length_sorted (higher r) (window (method_by group r rules) h)) (omega (arith, taken_within size window_most))

    pub chosen_most : length (chosen (method_by group r rules) h) ≤ 5
    unfolding chosen method_by
    chosen_most =
        let size : ℕ = length (window (method_by group r rules) h) in
        rw length-take (omega (arith, taken_at size window_most, f.sound.five size window_most))
