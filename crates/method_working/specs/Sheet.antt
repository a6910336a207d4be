-- The sheet of an event: the numbers of its working that a pencil needs, and what it makes of them; `Leads` says that this is the answer.
use Rattle.std.specs.Prelude.{ℕ, ◌+◌, ◌-◌, ◌*◌, ◌≡◌, not, cond, ◌&&◌, List, map, length, ℤ, pos, leb, ltb, eqb}
use Rattle.base_lists.specs.Lists.{leading, places}
use Rattle.calendar_groups.specs.declared.Group.{Group}
use Rattle.method.specs.declared.Request.{Request}
use Rattle.method.specs.Table.{Day, History}
use Rattle.method.specs.Method.{window, chosen}
use Rattle.method.specs.Adjustment.{S, A, B, adjustment, is_average, parts_of, unfloored, floored}
use Rattle.method.specs.Requested.{method_of}
use Rattle.method.specs.Verdict.{Answer, answered, methodology}
use Rattle.method_working.specs.Working.{rank, is_chosen, along, ends}

-- of the day so many days before the event its rank in the window; the ranks passed over, and how many of the next are taken; A and B; S(t) of a ruler
-- quarter
pub record Sheet : Type 0 where
  pub rank : ℕ → ℕ
  pub passed : ℕ
  pub taken : ℕ
  pub own : ℕ
  pub usual : ℕ
  pub sum : ℕ → ℕ

unfoldable pub sheet_of : (ℕ → Group) → Request → History Day → Sheet
sheet_of group r h =
    let m = method_of group r in
    record {
      rank = rank group r h;
      passed = m.passed (length (window m h));
      taken = m.taken (length (window m h));
      own = A (along r h) (ends r h);
      usual = B r.event (chosen m h) (ends r h);
      sum = S r.event (chosen m h);
    }

-- the day of a rank, looked for among the 45 days of the look-back, the nearest first
unfoldable pub day_of_rank : Request → Sheet → ℕ → ℕ
day_of_rank r sheet k = r.event - (leading (λ back. not (eqb (sheet.rank back) k)) (places 45 1) + 1)

-- the ranks taken of the window that the sheet shows
unfoldable pub days_taken : Request → Sheet → List ℕ
days_taken r sheet = map (day_of_rank r sheet) (places sheet.taken (sheet.passed + 1))

-- N·A - B, or nothing by Average X of Y
unfoldable pub adjustment_shown : Request → Sheet → ℤ
adjustment_shown r sheet = cond (is_average r) (pos 0) (adjustment sheet.taken sheet.own sheet.usual)

-- 12·S(t) + N·A - B, or S(t) by Average X of Y
unfoldable pub numerator_shown : Request → Sheet → ℕ → ℤ
numerator_shown r sheet t = unfloored (parts_of r) (sheet.sum t) (adjustment_shown r sheet)

-- an answer has the numbers that a pencil makes of a sheet
pub record Leads (r : Request) (sheet : Sheet) (a : Answer) : Type 0 where
  pub days : a.days ≡ days_taken r sheet
  pub over : a.denominator ≡ parts_of r * sheet.taken
  pub adjusted : a.adjusted ≡ adjustment_shown r sheet
  pub numerators : a.numerators ≡ map (λ t. floored (numerator_shown r sheet t)) (places (r.e - r.s) r.s)

-- every event that is answered, of its own sheet
abbrev pub SheetLeads : Type 0
SheetLeads =
    (group : ℕ → Group) (h : History Day) (r : Request) (room : ℕ) (a : Answer) → methodology group h r room ≡ answered a → Leads r (sheet_of group r h) a

-- of every history: the day so many days before the event is chosen exactly where its rank is one of those that the sheet takes
pub record ChosenShown (group : ℕ → Group) (r : Request) (h : History Day) : Type 0 where
  pub by_rank : (back : ℕ) → is_chosen group r h back ≡
      (let sheet = sheet_of group r h in ltb sheet.passed (sheet.rank back) && leb (sheet.rank back) (sheet.passed + sheet.taken))
