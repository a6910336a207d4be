-- The laws of moved holidays and of the groups. A reader needs the statements and the definitions that they name; each is proved by what it cites.
use Prim.Native.Nat.{ℕ, ◌+◌}
use mathlib.Core.Path.{◌≡◌, refl, sym}
use mathlib.Core.Bool.{Bool, true, false, cond, not, ◌&&◌, ◌||◌, and-false}
use mathlib.Core.List.{List, [], ◌∷◌}
use mathlib.Core.Logic.{◌↔◌}
use lib.Dec.{leb}
use Rattle.base_lists.specs.Lists.{member}
use Rattle.calendar_dates.specs.Days.{in_calendar, year_of, last_day}
use Rattle.calendar_holidays.specs.Yearly.{easter, holidays, is_fixed_holiday, is_easter_holiday}
use Rattle.calendar_groups.specs.Holidays.{first_days, second_days, is_holiday, good_moves, is_saturday, is_sunday, group}
use Rattle.calendar_groups.specs.declared.Group.{Group}
use Rattle.calendar_groups.specs.declared.Group.TheVariants.{Weekday, Saturday, HolidayGroup}
use Rattle.calendar_holidays.proofs.EasterSum.{on-sunday}
use Rattle.calendar_groups.proofs.Groups.{not_both, parted}
use Rattle.calendar_groups.proofs.Moves.{replacing, unmoved, stays}

-- Easter is on a Sunday
pub easter_sunday : (y : ℕ) → in_calendar y ≡ true → is_sunday (easter y) ≡ true
easter_sunday = on-sunday

-- What a list of moves makes of the holidays: document 02, order 2. The rules are of the calendar; the second day of a pair may lie anywhere

-- with no list a holiday is one of the fourteen of its year
pub none_moved : (d : ℕ) → is_holiday [] d ≡ (leb d last_day && member d (holidays (year_of d)))
none_moved d = unmoved d

-- "the old date stops being a holiday unless another rule or some pair makes it one"
pub old_date : (moves : List ℕ) (d : ℕ) → member d (first_days moves) ≡ true → is_holiday moves d ≡ (is_easter_holiday d || member d (second_days moves))
unfolding is_holiday
old_date moves d m = rw (m, and-false (is_fixed_holiday d))

-- "the day that replaces it"
pub new_date : (moves : List ℕ) (d : ℕ) → member d (second_days moves) ≡ true → is_holiday moves d ≡ true
new_date moves d m = sym (replacing moves d m)

-- every other day is what it was
pub other_days : (moves : List ℕ) (d : ℕ) → member d (first_days moves) ≡ false → member d (second_days moves) ≡ false
    → is_holiday moves d ≡ is_holiday [] d
unfolding is_holiday first_days second_days member
other_days moves d f s = rw (f, s) refl

-- a pair that moves a holiday onto itself changes nothing
pub onto_itself : (old : ℕ) (moves : List ℕ) (d : ℕ) → good_moves (old ∷ old ∷ moves) ≡ true → is_holiday (old ∷ old ∷ moves) d ≡ is_holiday moves d
onto_itself old moves d good = stays old moves d good

-- Groups: document 01's three descriptions, for the same list

-- a Sunday or any holiday; a Saturday that is no holiday; the rest
abbrev pub describes : List ℕ → ℕ → Group → Bool
describes moves d HolidayGroup = is_sunday d || is_holiday moves d
describes moves d Saturday = is_saturday d && not (is_holiday moves d)
describes moves d Weekday = not (is_saturday d) && not (is_sunday d) && not (is_holiday moves d)

-- how many of the three hold of a day
abbrev pub described : List ℕ → ℕ → ℕ
described moves d = cond (describes moves d HolidayGroup) 1 0 + cond (describes moves d Saturday) 1 0 + cond (describes moves d Weekday) 1 0

-- exactly one
pub one_group : (moves : List ℕ) (d : ℕ) → described moves d ≡ 1
one_group moves d = (parted (is_saturday d) (is_sunday d) (is_holiday moves d) (not_both d)).0

-- and the group of the day is that one
pub group-described : (moves : List ℕ) (d : ℕ) (g : Group) → (group moves d ≡ g) ↔ (describes moves d g ≡ true)
unfolding group
group-described moves d HolidayGroup = (parted (is_saturday d) (is_sunday d) (is_holiday moves d) (not_both d)).1 HolidayGroup
group-described moves d Saturday = (parted (is_saturday d) (is_sunday d) (is_holiday moves d) (not_both d)).1 Saturday
group-described moves d Weekday = (parted (is_saturday d) (is_sunday d) (is_holiday moves d) (not_both d)).1 Weekday
