-- A contract that equates a result with a definition is met by one result: every uniqueness law cites this.
use mathlib.Core.Path.{◌≡◌, sym, ◌∙◌}

pub unique : {A : Type 0} {r r' f : A} → r ≡ f → r' ≡ f → r ≡ r'
unique p q = p ∙ sym q
