-- What no lawful method sees: two histories that start on the same day, hold the event, and agree before it, have the same outcome where
-- the finish is the same.
use mathlib.Core.Path.{◌≡◌}
use mathlib.Core.Bool.{true}
use mathlib.Core.List.{List}
use Prim.Native.Nat.{ℕ, ◌-◌, ◌<◌}
use native.Mathlib.Omega.{arith}
use Rattle.base_lists.specs.Lists.{keep, member}
use Rattle.base_lists.proofs.Keep.{kept_holds, kept_member, keep_same, map_same}
use Rattle.method.specs.Table.{History, held}
use Rattle.method.specs.Method.{Method, seen, eligibles, is_short, outcome}
use Rattle.method.specs.Lawful.{Lawful}
use Rattle.method_laws.proofs.Seen.{held_since}
use Rattle.method_laws.proofs.Stable.{window_of_seen, outcome_same}

module _ {A O : Type 0} (m : Method A O) (law : Lawful m) (h l : History A)
    (starts : l.first ≡ h.first) (holds : held h m.event ≡ true) (also : held l m.event ≡ true)
    (agrees : (d : ℕ) → held h d ≡ true → d < m.event → l.day d ≡ h.day d) where
  seen_same : seen m l ≡ seen m h
  unfolding seen
  seen_same =
      rw (keep_same (held l) (held h) m.relevant (λ d e. rw (held_since m law l also d e, held_since m law h holds d e, starts)))
      (map_same {B = ℕ × A} (λ d. (d, l.day d)) (λ d. (d, h.day d)) (keep (held h) m.relevant) days)
    where
      days : (d : ℕ) → member d (keep (held h) m.relevant) ≡ true → ◌≡◌ {A = ℕ × A} (d, l.day d) (d, h.day d)
      days d e = rw (agrees d (kept_holds (held h) m.relevant d e) (law.before d (kept_member (held h) m.relevant d e)))

  margin_same : is_short m l ≡ is_short m h
  unfolding is_short eligibles
  margin_same = rw (seen_same, starts)

  pub before_same : ((days : List (ℕ × A)) → held h (m.event - 1) ≡ true
      → m.finish days (h.day (m.event - 1)) (l.day m.event) ≡ m.finish days (h.day (m.event - 1)) (h.day m.event))
      → outcome m l ≡ outcome m h
  before_same finish =
      outcome_same m law h holds l margin_same (window_of_seen m h l seen_same)
      (λ days some e. rw (agrees (m.event - 1) e (omega arith)) (finish days e))
