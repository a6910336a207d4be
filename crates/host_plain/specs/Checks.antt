-- Days and dates as a C caller is told them: 01's dates, and both sides of each end of the calendar.
use Rattle.std.specs.Prelude.{◌≡◌, None}
use Rattle.calendar_dates.specs.Days.{numbered, dated}
use Rattle.host_answer.specs.Names.{told}
use Rattle.host_plain.specs.Plain.{date_written, day_told, date_told}

pub record Checks : Type 0 where
  -- 01: "day 6972 (2 February 2019)", "28 August 2024 (day 9006)"
  pub february : day_told (numbered (date_written 2019 2 2)) ≡ told 6972
  pub august : date_told (dated 9006) ≡ told 20240828
  -- 01: "0 for 1 January 2000 .. to 36,524 for 31 December 2099"
  pub first : day_told (numbered (date_written 2000 1 1)) ≡ told 0
  pub first_date : date_told (dated 0) ≡ told 20000101
  pub last : day_told (numbered (date_written 2099 12 31)) ≡ told 36524
  pub last_date : date_told (dated 36524) ≡ told 20991231
  -- past either end, and no date
  pub before : day_told (numbered (date_written 1999 12 31)) ≡ None
  pub after : day_told (numbered (date_written 2100 1 1)) ≡ None
  pub after_date : date_told (dated 36525) ≡ None
  pub february_30 : day_told (numbered (date_written 2024 2 30)) ≡ None
