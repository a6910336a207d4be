-- What the private functions of telling a day of the look-back give.
use Rattle.std.specs.Prelude.{ℕ, ◌+◌, ◌-◌, Bool, not, cond, ◌&&◌, ltb, leb, ℤ, pos, Option, Some, option_map, take}
use Rattle.calendar_groups.specs.declared.Group.{Group}
use Rattle.method.specs.declared.Request.{Request}
use Rattle.method.specs.Table.{Day, History}
use Rattle.method.specs.Relevant.{group_number}
use Rattle.method.specs.Method.{is_short}
use Rattle.method.specs.Requested.{method_of}
use Rattle.method_working.specs.Working.{rank_in, rank, is_chosen}
use Rattle.engine_window.specs.declared.Window.{Window}
use Rattle.host_answer.specs.Names.{told, told_if}
use Rattle.host_working.specs.Told.{as_number}

-- the number and the group of the day `back` days before an event, where it is not below 0
abbrev pub number_told : ℕ → ℕ → Option ℤ
number_told event back = told_if (leb back event) (told (event - back))

abbrev pub group_told : (ℕ → Group) → ℕ → ℕ → Option ℤ
group_told group event back = told_if (leb back event) (told (group_number (group (event - back))))

abbrev pub sum_told : Option ℕ → Option ℤ
sum_told sum = option_map pos sum

module _ (group : ℕ → Group) (r : Request) (h : History Day) (back : ℕ) where
  -- its rank, and whether it is chosen, where 8 is not given
  abbrev pub rank_told : Option ℤ
  rank_told = told_if (not (is_short (method_of group r) h)) (told (rank group r h back))

  abbrev pub chosen_told : Option ℤ
  chosen_told = told_if (not (is_short (method_of group r) h)) (Some (as_number (is_chosen group r h back)))

-- its rank in a window by value
unfoldable pub rank_there : Window → ℕ → ℕ → ℕ
rank_there w event back = cond (leb back event) (rank_in (take w.size w.days) (event - back)) 0

-- a rank is one of those that a window takes
abbrev pub takes : Window → ℕ → Bool
takes w rank = ltb w.passed rank && leb rank (w.passed + w.taken)
