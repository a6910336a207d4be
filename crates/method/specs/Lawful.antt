-- What a method has to show so that demand 3 holds of it: the one list that an instance answers. Both methods do (`lawful` of `method_laws`).
use Rattle.std.specs.Prelude.{◌≡◌, true, List, [], ◌∷◌, ℕ, ◌<◌}
use Rattle.base_lists.specs.Lists.{member}
use Rattle.method.specs.Method.{Method, days_of}

-- each number is above all that follow it
pub data Falling : List ℕ → Type 0 where
  none : Falling []
  next : {d : ℕ} {ds : List ℕ} → ((x : ℕ) → member x ds ≡ true → x < d) → Falling ds → Falling (d ∷ ds)

pub record Lawful {A O : Type 0} (m : Method A O) : Type 0 where
  -- the relevant days stand nearest first, before the event
  pub falling : Falling m.relevant
  pub before : (d : ℕ) → member d m.relevant ≡ true → d < m.event
  -- a shortage is filled to fewer than Y days, from its spares alone
  pub fills : m.fill < m.most
  pub only : (days : List (ℕ × A)) (d : ℕ) → member d (days_of (m.order days)) ≡ true → member d (days_of days) ≡ true
  -- of no days none is chosen
  pub needs : m.taken 0 ≡ 0
