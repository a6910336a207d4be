-- Document 02, order 2, worked: "When it falls in Holy Week a decree can move it; in 2024 the day off was 7 May." `proofs/Moved` proves it.
use Rattle.std.specs.Prelude.{◌≡◌, true, false, List, [], ◌∷◌, ◌++◌, ℕ, replicate, pos}
use Rattle.calendar_dates.specs.Days.{day_number, last_day}
use Rattle.calendar_holidays.specs.Yearly.{fixed_holidays, is_easter_holiday}
use Rattle.calendar_groups.specs.Holidays.{is_holiday, good_moves, group}
use Rattle.calendar_groups.specs.declared.Group.TheVariants.{Weekday, Saturday, HolidayGroup}
use Rattle.method.specs.declared.Request.{Request}
use Rattle.method.specs.declared.Refusal.TheVariants.{BadReading, BadRequest, BadMoves}
use Rattle.method.specs.Table.{Table, offset}
use Rattle.method.specs.Verdict.{Reply, refused, answered, verdict}
use Rattle.method.specs.CutTables.{window_days}
use Rattle.method.specs.Checks.{◌January◌, ◌April◌, ◌May◌, at15, marked}

infix 80 ◌March◌ ◌December◌
abbrev pub ◌March◌ : ℕ → ℕ → ℕ
d March y = day_number y 3 d

abbrev pub ◌December◌ : ℕ → ℕ → ℕ
d December y = day_number y 12 d

-- the day off for 1 May 2024 was 7 May
abbrev pub decree : List ℕ
decree = 1 May 2024 ∷ 7 May 2024 ∷ []

-- a day of 1000 kW with another load from 15:00 to 16:00
abbrev pub hour : ℕ → List ℕ
hour load = replicate 56 1000 ++ replicate 4 load ++ replicate 36 1000

-- so many days of 1000 kW
abbrev pub flat : ℕ → List ℕ
flat days = replicate (offset (25 March 2024) days) 1000

-- 25 March to 9 May 2024: 1 May has the highest load in the event's hour, 7 May the second, 26 April the third
abbrev pub spring : Table
spring =
    record {
      first = 25 March 2024;
      marks = replicate 46 0;
      readings = flat 32 ++ hour 1200 ++ flat 4 ++ hour 1400 ++ flat 5 ++ hour 1300 ++ flat 2;
    }

-- a Thursday's event, 15:00 to 16:00
abbrev pub thursday : Request
thursday = at15 8700 (9 May 2024)

-- an answer of five days whose four quarters have one numerator
abbrev pub level : List ℕ → ℕ → Reply
level days numerator =
    answered (record { days = days; reach = 20; denominator = 60; adjusted = pos 0; numerators = replicate 4 numerator })

-- every fixed-date holiday of a year, moved onto itself
unfoldable pub stays : List ℕ → List ℕ
stays [] = []
stays (d ∷ days) = d ∷ d ∷ stays days

pub record Moved : Type 0 where
  -- by the decree 1 May 2024 is a weekday and 7 May in the holiday group; without it the other way round; 5 May stays Easter
  pub may_1 : group decree (1 May 2024) ≡ Weekday
  pub may_7 : group decree (7 May 2024) ≡ HolidayGroup
  pub may_1_without : group [] (1 May 2024) ≡ HolidayGroup
  pub may_7_without : group [] (7 May 2024) ≡ Weekday
  pub may_5 : group decree (5 May 2024) ≡ HolidayGroup
  pub may_5_easter : is_easter_holiday (5 May 2024) ≡ true
  -- a Thursday event on 9 May 2024 has 1 May and not 7 May in its window, and without the list 7 May and not 1 May
  pub window_with : window_days (group decree) spring thursday ≡
      2 May 2024 ∷ 1 May 2024 ∷ 30 April 2024 ∷ 29 April 2024 ∷ 26 April 2024 ∷
      25 April 2024 ∷ 24 April 2024 ∷ 23 April 2024 ∷ 22 April 2024 ∷ 19 April 2024 ∷ []
  pub window_without : window_days (group []) spring thursday ≡
      7 May 2024 ∷ 2 May 2024 ∷ 30 April 2024 ∷ 29 April 2024 ∷ 26 April 2024 ∷
      25 April 2024 ∷ 24 April 2024 ∷ 23 April 2024 ∷ 22 April 2024 ∷ 19 April 2024 ∷ []
  -- and its rank tells: 1120 kW by the list, 1100 without it
  pub answer_with : verdict decree spring thursday 4 ≡
      level (1 May 2024 ∷ 26 April 2024 ∷ 2 May 2024 ∷ 30 April 2024 ∷ 29 April 2024 ∷ []) 67200
  pub answer_without : verdict [] spring thursday 4 ≡
      level (7 May 2024 ∷ 26 April 2024 ∷ 2 May 2024 ∷ 30 April 2024 ∷ 29 April 2024 ∷ []) 66000
  -- 25 March moved onto itself changes nothing, on any day
  pub onto_itself : (d : ℕ) → group (25 March 2024 ∷ 25 March 2024 ∷ []) d ≡ group [] d
  pub onto_itself_good : good_moves (25 March 2024 ∷ 25 March 2024 ∷ []) ≡ true
  -- 2 May is no fixed-date holiday, and no holiday is moved twice: 14
  pub may_2 : verdict (2 May 2024 ∷ 7 May 2024 ∷ []) spring thursday 4 ≡ refused BadMoves
  pub twice : verdict (decree ++ decree) spring thursday 4 ≡ refused BadMoves
  -- nor to two days; but two may be moved to one day
  pub two_days : good_moves (1 May 2024 ∷ 7 May 2024 ∷ 1 May 2024 ∷ 8 May 2024 ∷ []) ≡ false
  pub one_day : good_moves (25 March 2024 ∷ 7 May 2024 ∷ decree) ≡ true
  pub one_day_both : group (25 March 2024 ∷ 7 May 2024 ∷ decree) (25 March 2024) ≡ Weekday
  -- 16 pairs, and 17; half a pair
  pub pairs_16 : good_moves (stays (fixed_holidays 2023 ++ fixed_holidays 2024)) ≡ true
  pub pairs_17 : good_moves (stays (fixed_holidays 2023 ++ fixed_holidays 2024) ++ stays (1 January 2025 ∷ [])) ≡ false
  pub half_a_pair : good_moves (1 May 2024 ∷ []) ≡ false
  pub half_behind : good_moves (decree ++ (25 March 2024 ∷ [])) ≡ false
  -- the last day replaces, and the day after it does not; no holiday is known there to be moved
  pub on_last_day : good_moves (26 December 2099 ∷ last_day ∷ []) ≡ true
  pub past_last : good_moves (26 December 2099 ∷ 36525 ∷ []) ≡ false
  pub moved_past : good_moves (36525 ∷ last_day ∷ []) ≡ false
  -- the day off may be in another year
  pub next_year : group (26 December 2024 ∷ 2 January 2025 ∷ []) (2 January 2025) ≡ HolidayGroup
  -- a Sunday that is moved stays in the holiday group; so does what is Easter's too: 1 May 2021 was Holy Saturday
  pub moved_sunday : group (1 January 2023 ∷ 2 January 2023 ∷ []) (1 January 2023) ≡ HolidayGroup
  pub holy_saturday : group (1 May 2021 ∷ 4 May 2021 ∷ []) (1 May 2021) ≡ HolidayGroup
  pub holy_saturday_moved : is_holiday (1 May 2021 ∷ 4 May 2021 ∷ []) (1 May 2021) ≡ true
  -- a Saturday that is moved is a Saturday, and a Saturday may be the day off: 1 and 8 May 2010
  pub moved_saturday : group (1 May 2010 ∷ 8 May 2010 ∷ []) (1 May 2010) ≡ Saturday
  pub saturday_off : group (1 May 2010 ∷ 8 May 2010 ∷ []) (8 May 2010) ≡ HolidayGroup
  -- "after 3, before 4": a reading out of range and a bad list; a bad list and P past the calendar
  pub three_first : verdict (1 May 2024 ∷ []) (record { first = 9 May 2024; marks = 0 ∷ []; readings = 10000001 ∷ replicate 95 0 }) thursday 4 ≡ refused (BadReading 0)
  pub before_four : verdict (1 May 2024 ∷ []) (marked (9 May 2024) (9 May 2024) []) (at15 36525 (9 May 2024)) 4 ≡ refused BadMoves
  pub then_four : verdict decree (marked (9 May 2024) (9 May 2024) []) (at15 36525 (9 May 2024)) 4 ≡ refused BadRequest
