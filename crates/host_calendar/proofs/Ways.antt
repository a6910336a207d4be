-- What is told of a day, one law for each way out of the code.
use Prim.Native.Nat.{ℕ, ◌≤◌, ◌<◌}
use mathlib.Core.Path.{◌≡◌, refl, sym, ap, ◌∙◌}
use mathlib.Core.Bool.{Bool, true, false, cond, ◌&&◌, false≢true}
use mathlib.Core.List.{[]}
use borrow.Author.Tests.{le-leb, lt-leb}
use lib.Dec.{leb}
use lib.IntN.{ℤ, pos, ◌-ℤ◌}
use Rattle.base_lists.specs.Lists.{member}
use Rattle.calendar_dates.specs.declared.Date.{Date}
use Rattle.calendar_dates.specs.Days.{last_day, year_of, date_of, dated}
use Rattle.calendar_holidays.specs.Yearly.{easter, fixed_holidays, is_fixed_holiday, is_easter_holiday}
use Rattle.calendar_groups.specs.declared.Group.{Group}
use Rattle.calendar_groups.specs.Holidays.{group}
use Rattle.method.specs.Relevant.{group_number}
use Rattle.std.specs.Prelude.{Option, Some, None, option_map}
use Rattle.host_answer.specs.Names.{told}
use Rattle.host_plain.specs.Plain.{month_digits}
use Rattle.host_calendar.specs.Calendar.{group_told, fixed_told, easter_told}

-- the group
pub group_past : (d : ℕ) → last_day < d → None ≡ group_told d
unfolding group_told
group_past d h = rw (lt-leb d last_day h)

pub group_there : (d : ℕ) {x : Option ℤ} {g : Group} → d ≤ last_day → x ≡ told (group_number g) → g ≡ group [] d → x ≡ group_told d
unfolding group_told
group_there d h e k = rw (le-leb d last_day h) (e ∙ ap (λ (g : Group). told (group_number g)) k)

-- a fixed-date holiday, by the date that the calendar gives
abbrev digits : Option Date → Option ℤ
digits date = option_map (λ t. pos (month_digits t)) date

pub fixed_there : (d : ℕ) {t : Date} {x : Option ℤ} → dated d ≡ Some t → is_fixed_holiday d ≡ true → x ≡ told (month_digits t) → x ≡ fixed_told d
unfolding fixed_told is_fixed_holiday dated
fixed_there d {t} e h k = k ∙ go (leb d last_day) (member d (fixed_holidays (year_of d))) e h
  where
    go : (a b : Bool) → cond a (Some (date_of d)) None ≡ Some t → (a && b) ≡ true → told (month_digits t) ≡ cond (a && b) (told (month_digits (date_of d))) None
    go true true p q = sym (ap digits p)
    go true false p q = absurd (false≢true q)
    go false b p q = absurd (false≢true q)

pub fixed_none : (d : ℕ) → is_fixed_holiday d ≡ false → None ≡ fixed_told d
unfolding fixed_told
fixed_none d h = rw h

pub fixed_past : (d : ℕ) → dated d ≡ None → None ≡ fixed_told d
unfolding fixed_told is_fixed_holiday dated
fixed_past d e = go (leb d last_day) (member d (fixed_holidays (year_of d))) e
  where
    go : (a b : Bool) → ◌≡◌ {A = Option Date} (cond a (Some (date_of d)) None) None → None ≡ cond (a && b) (told (month_digits (date_of d))) None
    go true true p = sym (ap digits p)
    go true false p = refl
    go false b p = refl

-- a holiday that is counted from Easter Sunday
pub easter_there : (d : ℕ) {x : ℤ} {sunday : ℕ} → is_easter_holiday d ≡ true → sunday ≡ easter (year_of d) → x ≡ pos d -ℤ pos sunday → Some x ≡ easter_told d
unfolding easter_told
easter_there d h e k = rw h (ap Some (k ∙ ap (λ (s : ℕ). pos d -ℤ pos s) e))

pub easter_none : (d : ℕ) → is_easter_holiday d ≡ false → None ≡ easter_told d
unfolding easter_told
easter_none d h = rw h
