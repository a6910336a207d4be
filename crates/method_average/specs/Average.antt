-- Document 02, order 3, worked: 001's Tables 8 and 10 to 13, and both sides of each of its rules. `proofs/Average` proves it.
use Rattle.std.specs.Prelude.{◌≡◌, true, false, List, [], ◌∷◌, ◌++◌, map, ℕ, replicate, set, pos}
use Rattle.calendar_dates.specs.Days.{day_number}
use Rattle.calendar_groups.specs.Holidays.{group}
use Rattle.method.specs.declared.Request.{Request}
use Rattle.method.specs.declared.Refusal.TheVariants.{BadRequest, NotHeld, NoRoom, BadMoves, MarginTooShort, TooFew, NoAdjustmentWindow}
use Rattle.method.specs.Table.{Table, missing, offset, history}
use Rattle.method.specs.Adjustment.{rounded}
use Rattle.method.specs.Method.{chosen, days_of}
use Rattle.method.specs.Requested.{method_of}
use Rattle.method.specs.Verdict.{Reply, refused, answered, good_request, verdict}
use Rattle.method.specs.CutTables.{window_days}
use Rattle.method.specs.Checks.{◌May◌, ◌July◌, ◌August◌, at15, marked, reach_of}

infix 80 ◌September◌
abbrev pub ◌September◌ : ℕ → ℕ → ℕ
d September y = day_number y 9 d

-- a request by this method for the hour from 15:00, notified an hour before
abbrev pub by : ℕ → ℕ → ℕ → Request
by method p d = record { participation = p; event = d; s = 152; e = 156; n = 148; method = method }

-- by Average X of Y
abbrev pub ahead : ℕ → ℕ → Request
ahead p d = by 1 p d

-- the readings of days one after the other: 1000 kW, and from 15:00 to 16:00 what each has
unfoldable pub hours : List (List ℕ) → List ℕ
hours [] = []
hours (four ∷ more) = replicate 56 1000 ++ four ++ replicate 36 1000 ++ hours more

-- a level hour
abbrev pub level : ℕ → List ℕ
level load = replicate 4 load

-- consecutive days from `first` on with these marks and these hours
abbrev pub days : ℕ → List ℕ → List (List ℕ) → Table
days first marks fours = record { first = first; marks = marks; readings = hours fours }

-- an answer of these days over their number, `k`, with its four numerators
abbrev pub over : ℕ → List ℕ → ℕ → List ℕ → Reply
over k chosen reach numerators = answered (record { days = chosen; reach = reach; denominator = k; adjusted = pos 0; numerators = numerators })

-- 001, Table 11, in kW, as the days of Table 8's first line: Day 1 is 26 August and Day 10 is 9 August 2024; the days between them are 1000 kW
abbrev pub table11 : Table
table11 =
    days (9 August 2024) (set (replicate 20 0) 14 1)
    ((4300 ∷ 6500 ∷ 5900 ∷ 4800 ∷ []) ∷ level 1000 ∷ level 1000 ∷
    (6500 ∷ 4100 ∷ 4300 ∷ 5300 ∷ []) ∷ (5000 ∷ 4400 ∷ 6300 ∷ 6700 ∷ []) ∷ (5300 ∷ 7300 ∷ 6600 ∷ 4500 ∷ []) ∷ level 1000 ∷
    (5800 ∷ 7800 ∷ 5000 ∷ 4200 ∷ []) ∷ level 1000 ∷ level 1000 ∷
    (4900 ∷ 6700 ∷ 5000 ∷ 7000 ∷ []) ∷ (4900 ∷ 6900 ∷ 6600 ∷ 5800 ∷ []) ∷ (7800 ∷ 7100 ∷ 6000 ∷ 4500 ∷ []) ∷ (6200 ∷ 7300 ∷ 7500 ∷ 6100 ∷ []) ∷
    level 9000 ∷ level 1000 ∷ level 1000 ∷ (6300 ∷ 7700 ∷ 6200 ∷ 7300 ∷ []) ∷ level 9000 ∷ level 9000 ∷ [])

-- ten weekdays before Wednesday 28 August 2024, from Monday the 12th on, the oldest the highest: 1100 kW on the 12th, 10 less on each that follows, and 1010 on
-- Monday the 26th. Marks are of the weekdays from the 19th on: 19, 20, 21, 22, 23 and 26
abbrev pub weekdays : ℕ → ℕ → ℕ → ℕ → ℕ → ℕ → Table
weekdays m19 m20 m21 m22 m23 m26 =
    days (12 August 2024)
    (0 ∷ 0 ∷ 0 ∷ 0 ∷ 0 ∷ 0 ∷ 0 ∷ m19 ∷ m20 ∷ m21 ∷ m22 ∷ m23 ∷ 0 ∷ 0 ∷ m26 ∷ 0 ∷ 0 ∷ [])
    (level 1100 ∷ level 1090 ∷ level 1080 ∷ level 2000 ∷ level 1070 ∷ level 2000 ∷ level 2000 ∷
    level 1060 ∷ level 1050 ∷ level 1040 ∷ level 1030 ∷ level 1020 ∷ level 2000 ∷ level 2000 ∷
    level 1010 ∷ level 2000 ∷ level 2000 ∷ [])

-- what the event of the 28th comes to with participation from a day of August on: D-P is 28 less that day
abbrev pub from : ℕ → Table → Reply
from p t = verdict [] t (ahead (p August 2024) (28 August 2024)) 4

-- with no day marked
abbrev pub unmarked : Table
unmarked = weekdays 0 0 0 0 0 0

-- the ten weekdays with these loads, 12, 13, 14, 16, 19, 20, 21, 22, 23 and 26 August
abbrev pub loads : ℕ → ℕ → ℕ → ℕ → ℕ → ℕ → ℕ → ℕ → ℕ → ℕ → Table
loads a b c d e f g h i j =
    days (12 August 2024) (replicate 17 0)
    (level a ∷ level b ∷ level c ∷ level 0 ∷ level d ∷ level 0 ∷ level 0 ∷ level e ∷ level f ∷ level g ∷ level h ∷ level i ∷
    level 0 ∷ level 0 ∷ level j ∷ level 0 ∷ level 0 ∷ [])

-- a week of 1000 kW
abbrev pub week : List (List ℕ)
week = replicate 6 (level 1000)

-- the Saturdays 10, 17, 24 and 31 August and 7 September 2024, the oldest the highest, up to Saturday the 14th; this mark is of the 31st
abbrev pub saturdays : ℕ → Table
saturdays m31 =
    days (10 August 2024) (set (replicate 36 0) 21 m31)
    ((level 1050 ∷ week) ++ (level 1040 ∷ week) ++ (level 1030 ∷ week) ++ (level 1020 ∷ week) ++ (level 1010 ∷ week) ++ (level 1000 ∷ []))

-- what the event of that Saturday comes to
abbrev pub saturday : ℕ → Table → Reply
saturday p t = verdict [] t (ahead p (14 September 2024)) 4

-- Sunday 11 to Sunday 18 August 2024, this mark on the 11th; Thursday the 15th is a holiday
abbrev pub holidays : ℕ → Table
holidays m11 =
    days (11 August 2024) (set (replicate 8 0) 0 m11) (level 1020 ∷ level 1000 ∷ level 1000 ∷ level 1000 ∷ level 1010 ∷ level 1000 ∷ level 1000 ∷ level 1000 ∷ [])

abbrev pub sunday : ℕ → Table → Reply
sunday p t = verdict [] t (ahead (p August 2024) (18 August 2024)) 4

-- Tuesday 20 to Wednesday 28 August, the last two days with no reading
abbrev pub silent : Table
silent = record { first = 20 August 2024; marks = replicate 9 0; readings = replicate (offset (20 August 2024) 7) 1000 ++ replicate (offset (27 August 2024) 2) missing }

pub record Average : Type 0 where
  -- Table 8: "28/08", "23/08", with events on 7 and 23 August
  pub table_8_28 : window_days (group []) (marked (14 July 2024) (28 August 2024) (7 August 2024 ∷ 23 August 2024 ∷ [])) (ahead 8700 (28 August 2024)) ≡
      26 August 2024 ∷ 22 August 2024 ∷ 21 August 2024 ∷ 20 August 2024 ∷ 19 August 2024 ∷
      16 August 2024 ∷ 14 August 2024 ∷ 13 August 2024 ∷ 12 August 2024 ∷ 9 August 2024 ∷ []
  pub table_8_23 : window_days (group []) (marked (9 July 2024) (23 August 2024) (7 August 2024 ∷ 23 August 2024 ∷ [])) (ahead 8700 (23 August 2024)) ≡
      21 August 2024 ∷ 20 August 2024 ∷ 19 August 2024 ∷ 16 August 2024 ∷ 14 August 2024 ∷
      13 August 2024 ∷ 12 August 2024 ∷ 9 August 2024 ∷ 8 August 2024 ∷ 6 August 2024 ∷ []
  -- Table 10: a Saturday; and a Sunday whose window leaves out 25 August, a day with an event
  pub table_10_saturday : window_days (group []) (marked (31 July 2024) (14 September 2024) []) (ahead 8700 (14 September 2024)) ≡
      7 September 2024 ∷ 31 August 2024 ∷ 24 August 2024 ∷ 17 August 2024 ∷ []
  pub table_10_sunday : window_days (group []) (marked (8 August 2024) (22 September 2024) (25 August 2024 ∷ [])) (ahead 8700 (22 September 2024)) ≡
      15 September 2024 ∷ 8 September 2024 ∷ 1 September 2024 ∷ 18 August 2024 ∷ []
  -- Tables 11 to 13: ranks 5 and 6 are Day 7 and Day 5, and the averages 5,10, 7,00, 5,80 and 5,75 MW
  pub tables_11_to_13 : verdict [] table11 (ahead 8700 (28 August 2024)) 4 ≡
      over 2 (14 August 2024 ∷ 19 August 2024 ∷ []) 19 (10200 ∷ 14000 ∷ 11600 ∷ 11500 ∷ [])
  pub table_13_kilowatts : map (λ k. rounded k 2) (10200 ∷ 14000 ∷ 11600 ∷ 11500 ∷ []) ≡ 5100 ∷ 7000 ∷ 5800 ∷ 5750 ∷ []
  -- the same days by High X of Y: five others, adjusted
  pub table_11_high : days_of (chosen (method_of (group []) (at15 8700 (28 August 2024))) (history table11)) ≡
      26 August 2024 ∷ 22 August 2024 ∷ 21 August 2024 ∷ 20 August 2024 ∷ 14 August 2024 ∷ []
  -- weekdays: ten eligible, ranks 5 and 6; nine and four, ranks 2 and 3
  pub ten : from 12 unmarked ≡ over 2 (19 August 2024 ∷ 20 August 2024 ∷ []) 16 (level 2110)
  pub nine : from 13 unmarked ≡ over 2 (14 August 2024 ∷ 16 August 2024 ∷ []) 15 (level 2150)
  pub four : from 21 unmarked ≡ over 2 (22 August 2024 ∷ 23 August 2024 ∷ []) 7 (level 2050)
  -- three and a spare: four in all; four, and no spare is added
  pub three_and_one : from 21 (weekdays 0 0 1 0 0 0) ≡ over 2 (22 August 2024 ∷ 23 August 2024 ∷ []) 7 (level 2050)
  pub four_alone : from 20 (weekdays 0 1 0 0 0 0) ≡ over 2 (22 August 2024 ∷ 23 August 2024 ∷ []) 8 (level 2050)
  -- two and three spares: the two latest of them, not the highest, the 20th
  pub latest_spares : from 20 (weekdays 0 1 1 1 0 0) ≡ over 2 (22 August 2024 ∷ 23 August 2024 ∷ []) 8 (level 2050)
  -- four spares and none eligible; five, of which the oldest and highest is left out
  pub spares_alone : from 21 (weekdays 0 0 1 1 1 1) ≡ over 2 (22 August 2024 ∷ 23 August 2024 ∷ []) 7 (level 2050)
  pub spares_five : from 20 (weekdays 0 1 1 1 1 1) ≡ over 2 (22 August 2024 ∷ 23 August 2024 ∷ []) 8 (level 2050)
  -- three: the highest is left out, from D-P 7 on; a spare or an eligible day alike
  pub three : from 21 (weekdays 0 0 2 0 0 0) ≡ over 2 (23 August 2024 ∷ 26 August 2024 ∷ []) 7 (level 2030)
  pub three_spare : from 21 (weekdays 0 0 2 1 0 0) ≡ over 2 (23 August 2024 ∷ 26 August 2024 ∷ []) 7 (level 2030)
  pub three_early : from 22 unmarked ≡ refused (TooFew 3 6)
  pub three_spare_early : from 22 (weekdays 0 0 0 1 0 0) ≡ refused (TooFew 3 6)
  -- two: both, from D-P 7 on
  pub two : from 21 (weekdays 0 0 2 2 0 0) ≡ over 2 (23 August 2024 ∷ 26 August 2024 ∷ []) 7 (level 2030)
  pub two_spares : from 21 (weekdays 0 0 1 1 2 2) ≡ over 2 (21 August 2024 ∷ 22 August 2024 ∷ []) 7 (level 2070)
  pub two_early : from 22 (weekdays 0 0 0 2 0 0) ≡ refused (TooFew 2 6)
  -- four before D-P is 7: Tuesday to Friday before a Monday
  pub four_early : verdict [] unmarked (ahead (20 August 2024) (26 August 2024)) 4 ≡ over 2 (21 August 2024 ∷ 22 August 2024 ∷ []) 6 (level 2070)
  -- one and none: too few, whatever D-P
  pub one : from 21 (weekdays 0 0 2 2 2 0) ≡ refused (TooFew 1 7)
  pub one_longer : from 19 (weekdays 2 2 2 2 2 0) ≡ refused (TooFew 1 9)
  pub one_spare : from 21 (weekdays 0 0 2 2 2 1) ≡ refused (TooFew 1 7)
  pub none : from 27 unmarked ≡ refused (TooFew 0 0)
  -- a tie of the ranks 4 to 7: the nearer days come first, so ranks 5 and 6 are the second and the third nearest of the four
  pub ties : from 12 (loads 900 900 900 1000 1000 1000 1000 1100 1100 1100) ≡ over 2 (20 August 2024 ∷ 19 August 2024 ∷ []) 16 (level 2000)
  pub all_alike : from 12 (loads 7 7 7 7 7 7 7 7 7 7) ≡ over 2 (20 August 2024 ∷ 19 August 2024 ∷ []) 16 (level 14)
  -- Saturdays: five and four, the four latest; three, the last two in rank; two, both; one, it; none
  pub saturday_5 : saturday (10 August 2024) (saturdays 0) ≡ over 2 (24 August 2024 ∷ 31 August 2024 ∷ []) 28 (level 2050)
  pub saturday_4 : saturday (17 August 2024) (saturdays 0) ≡ over 2 (24 August 2024 ∷ 31 August 2024 ∷ []) 28 (level 2050)
  pub saturday_3 : saturday (18 August 2024) (saturdays 0) ≡ over 2 (31 August 2024 ∷ 7 September 2024 ∷ []) 21 (level 2030)
  pub saturday_2 : saturday (31 August 2024) (saturdays 0) ≡ over 2 (31 August 2024 ∷ 7 September 2024 ∷ []) 14 (level 2030)
  pub saturday_1 : saturday (7 September 2024) (saturdays 0) ≡ over 1 (7 September 2024 ∷ []) 7 (level 1010)
  pub saturday_none : saturday (8 September 2024) (saturdays 0) ≡ refused (TooFew 0 0)
  -- and no spare fills
  pub saturday_spare : saturday (31 August 2024) (saturdays 1) ≡ over 1 (7 September 2024 ∷ []) 14 (level 1010)
  -- one of the holiday group, on both sides of D-P 7; two before it are enough
  pub holiday_1 : sunday 11 (holidays 2) ≡ over 1 (15 August 2024 ∷ []) 7 (level 1010)
  pub holiday_1_early : sunday 12 (holidays 0) ≡ refused (TooFew 1 3)
  pub holiday_2_early : verdict [] (marked (4 May 2024) (6 May 2024) []) (ahead (4 May 2024) (6 May 2024)) 4 ≡
      over 2 (5 May 2024 ∷ 4 May 2024 ∷ []) 2 (level 2000)
  pub holiday_2 : sunday 11 (holidays 0) ≡ over 2 (11 August 2024 ∷ 15 August 2024 ∷ []) 7 (level 2030)
  -- refusal 8 and the reach are by this Y: nine weekdays are held, or three Saturdays, and another is relevant before F
  pub margin_10 : verdict [] (marked (13 August 2024) (28 August 2024) []) (ahead 8700 (28 August 2024)) 4 ≡ refused (MarginTooShort 44)
  pub margin_4 : verdict [] (marked (24 August 2024) (14 September 2024) []) (ahead 8700 (14 September 2024)) 4 ≡ refused (MarginTooShort 42)
  pub enough_4 : reach_of (marked (17 August 2024) (14 September 2024) []) (ahead 8700 (14 September 2024)) ≡ 28
  -- "10 is not given here": an answer with no reading of D-1 and D, where High X of Y has no adjustment window
  pub without_window : verdict [] silent (ahead (20 August 2024) (28 August 2024)) 4 ≡ over 2 (23 August 2024 ∷ 22 August 2024 ∷ []) 8 (level 2000)
  pub high_without : verdict [] silent (at15 (20 August 2024) (28 August 2024)) 4 ≡ refused (NoAdjustmentWindow 8)
  -- n is still tested, and the room
  pub late_notice : good_request (record { participation = 0; event = 9006; s = 152; e = 156; n = 153; method = 1 }) ≡ false
  pub no_room : verdict [] unmarked (ahead 8700 (28 August 2024)) 3 ≡ refused NoRoom
  -- "an unknown method is 4", before 5 and after 14
  pub method_0 : good_request (by 0 8700 9006) ≡ true
  pub method_1 : good_request (by 1 8700 9006) ≡ true
  pub method_2 : good_request (by 2 8700 9006) ≡ false
  pub method_255 : verdict [] unmarked (by 255 8700 (27 May 2024)) 4 ≡ refused BadRequest
  pub method_known : verdict [] unmarked (by 1 8700 (27 May 2024)) 4 ≡ refused NotHeld
  pub list_first : verdict (1 May 2024 ∷ []) unmarked (by 2 8700 9006) 4 ≡ refused BadMoves
