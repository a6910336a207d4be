-- 01, "Choosing the days": window, chosen days, reach and margin, for any method of choosing and any finish. A method is what one request
-- asks of the days; `HighXofY` and `AverageXofY` are the methodology's. `A` is what is held of a day, `O` what comes after the choice.
use Rattle.std.specs.Prelude.{ℕ, ◌-◌, Bool, cond, ◌&&◌, List, ◌++◌, map, length, take, drop, ltb, eqb}
use Rattle.base_lists.specs.Lists.{keep, any, least_of}
use Rattle.method.specs.Table.{History, held}

pub record Method (A O : Type 0) : Type 0 where
  -- D
  pub event : ℕ
  -- the relevant days, nearest first
  pub relevant : List ℕ
  -- what makes a relevant day eligible
  pub eligible : A → Bool
  -- Y
  pub most : ℕ
  -- what makes a relevant day one that may fill a shortage, the order in which they do, and up to how many days
  pub spare : A → Bool
  pub order : List (ℕ × A) → List (ℕ × A)
  pub fill : ℕ
  -- the order of the window; of a window of so many days how many ranks are passed over, and how many of the next are chosen: none is "too
  -- few"
  pub rank : List (ℕ × A) → List (ℕ × A)
  pub passed : ℕ → ℕ
  pub taken : ℕ → ℕ
  -- what comes of the chosen days in rank order, of D-1 and of D
  pub finish : List (ℕ × A) → A → A → O

abbrev pub days_of : {A : Type 0} → List (ℕ × A) → List ℕ
days_of {A} days = map (λ (p : ℕ × A). p.0) days

-- "D minus the oldest relevant day, or 0 if none is relevant"
unfoldable pub whole_reach : {A O : Type 0} → Method A O → ℕ
whole_reach m = m.event - least_of m.event m.relevant

module _ {A O : Type 0} (m : Method A O) (h : History A) where
  -- the relevant days that are held, with what is held of them: window, reach and choice see no more than this
  unfoldable pub seen : List (ℕ × A)
  seen = map {A = ℕ} {B = ℕ × A} (λ d. (d, h.day d)) (keep (held h) m.relevant)

  unfoldable pub eligibles : List (ℕ × A)
  eligibles = keep (λ (p : ℕ × A). m.eligible p.1) seen

  unfoldable pub spares : List (ℕ × A)
  spares = m.order (keep (λ (p : ℕ × A). m.spare p.1) seen)

  -- "The window is the Y most recent eligible days; if fewer than Y but at least N exist, all of them. If fewer than N exist, it is all of
  -- them and then [spares], highest first, until N are reached or none remain."
  unfoldable pub window : List (ℕ × A)
  window = take m.most eligibles ++ take (m.fill - length eligibles) spares

  -- "The window is then ranked by that order and the first N are chosen, listed in rank order.": the first after those passed over
  unfoldable pub chosen : List (ℕ × A)
  chosen = take (m.taken (length window)) (drop (m.passed (length window)) (m.rank window))

  -- "Reach: if the window holds Y days, D minus its oldest; otherwise D minus the oldest relevant day, or 0 if none is relevant."
  unfoldable pub reach : ℕ
  reach = cond (eqb (length window) m.most) (m.event - least_of m.event (days_of window)) (whole_reach m)

  -- "margin too short: eligible held days below Y and a relevant day before F"
  unfoldable pub is_short : Bool
  is_short = ltb (length eligibles) m.most && any (λ d. ltb d h.first) m.relevant

-- what the choice of days ends in: refusal 8 with D minus the oldest relevant day, refusal 9 with size and reach, or the chosen days by
-- rank, the reach and what comes after
pub data Outcome (O : Type 0) : Type 0 where
  short : ℕ → Outcome O
  few : ℕ → ℕ → Outcome O
  chose : List ℕ → ℕ → O → Outcome O

unfoldable pub outcome : {A O : Type 0} → Method A O → History A → Outcome O
outcome m h =
    cond (is_short m h) (short (whole_reach m))
    (cond (eqb (m.taken (length (window m h))) 0) (few (length (window m h)) (reach m h))
    (chose (days_of (chosen m h)) (reach m h) (m.finish (chosen m h) (h.day (m.event - 1)) (h.day m.event))))
