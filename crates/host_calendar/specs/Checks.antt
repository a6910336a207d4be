-- Days of the calendar as a C caller is told them: holidays of both kinds, a day that is one of each, plain days, and both sides of the calendar's end.
use Rattle.std.specs.Prelude.{◌≡◌, List, [], ◌∷◌, ℤ, negsuc, Option, Some, None}
use Rattle.host_answer.specs.Names.{told, row_from}
use Rattle.host_calendar.specs.Calendar.{calendar_row}

abbrev pub told_day : Option ℤ → Option ℤ → Option ℤ → List (Option ℤ)
told_day group fixed easter = row_from 45 (group ∷ fixed ∷ easter ∷ [])

pub record Checks : Type 0 where
  -- 01: "15 August", a Thursday in 2024
  pub august_15 : calendar_row 8993 ≡ told_day (told 2) (told 815) None
  -- 01: "counted from Orthodox Easter Sunday: -48, -2, -1, 0, +1, +50", which is 5 May in 2024
  pub clean_monday : calendar_row 8843 ≡ told_day (told 2) None (Some (negsuc 47))
  pub good_friday : calendar_row 8889 ≡ told_day (told 2) None (Some (negsuc 1))
  pub holy_saturday : calendar_row 8890 ≡ told_day (told 2) None (Some (negsuc 0))
  pub easter_sunday : calendar_row 8891 ≡ told_day (told 2) None (told 0)
  pub easter_monday : calendar_row 8892 ≡ told_day (told 2) None (told 1)
  pub whit_monday : calendar_row 8941 ≡ told_day (told 2) None (told 50)
  -- 1 May 2021 is Holy Saturday
  pub may_1 : calendar_row 7791 ≡ told_day (told 2) (told 501) (Some (negsuc 0))
  -- Wednesday 28 August 2024, and the Saturday and the Sunday after it
  pub weekday : calendar_row 9006 ≡ told_day (told 0) None None
  pub saturday : calendar_row 9009 ≡ told_day (told 1) None None
  pub sunday : calendar_row 9010 ≡ told_day (told 2) None None
  -- Saturday 1 January 2000, 31 December 2099, and the day after it
  pub first : calendar_row 0 ≡ told_day (told 2) (told 101) None
  pub last : calendar_row 36524 ≡ told_day (told 0) None None
  pub after : calendar_row 36525 ≡ told_day None None None
