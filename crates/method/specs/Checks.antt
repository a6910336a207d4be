-- 01, "Checks on both sides of each line": the lines marked P, and the worked listing case, as one table. `proofs/Checks` proves it.
use Rattle.std.specs.Prelude.{◌≡◌, cond, List, [], ◌∷◌, ◌++◌, map, ℕ, ◌+◌, ◌-◌, ◌*◌, take, replicate, set, pos}
use Rattle.base_lists.specs.Lists.{member, places}
use Rattle.calendar_dates.specs.Days.{day_number}
use Rattle.calendar_holidays.specs.Yearly.{easter}
use Rattle.calendar_groups.specs.Holidays.{group}
use Rattle.calendar_groups.specs.declared.Group.TheVariants.{Saturday, HolidayGroup}
use Rattle.method.specs.declared.Request.{Request}
use Rattle.method.specs.declared.Refusal.TheVariants.{MarginTooShort}
use Rattle.method.specs.Table.{Table, Day, history}
use Rattle.method.specs.Method.{reach, days_of}
use Rattle.method.specs.Adjustment.{S, adjustment, unfloored, floored, rounded}
use Rattle.method.specs.Eligible.{higher, sort_by, event_sum}
use Rattle.method.specs.Requested.{method_of}
use Rattle.method.specs.Verdict.{refused, answered, verdict}
use Rattle.method.specs.CutTables.{window_days}

-- dates as dates: `28 August 2024` is day 9006
infix 80 ◌January◌ ◌February◌ ◌April◌ ◌May◌ ◌July◌ ◌August◌
abbrev pub ◌January◌ : ℕ → ℕ → ℕ
d January y = day_number y 1 d

abbrev pub ◌February◌ : ℕ → ℕ → ℕ
d February y = day_number y 2 d

abbrev pub ◌April◌ : ℕ → ℕ → ℕ
d April y = day_number y 4 d

abbrev pub ◌May◌ : ℕ → ℕ → ℕ
d May y = day_number y 5 d

abbrev pub ◌July◌ : ℕ → ℕ → ℕ
d July y = day_number y 7 d

abbrev pub ◌August◌ : ℕ → ℕ → ℕ
d August y = day_number y 8 d

-- a request for the hour from 15:00 (quarter 56 of its day), notified an hour before
abbrev pub at15 : ℕ → ℕ → Request
at15 p d = record { participation = p; event = d; s = 152; e = 156; n = 148; method = 0 }

-- the table of the days from `first` to `last` with events marked on the days given, all complete, every reading 1000
abbrev pub marked : ℕ → ℕ → List ℕ → Table
marked first last events =
    record {
      first = first;
      marks = map (λ d. cond (member d events) 1 0) (places (last + 1 - first) first);
      readings = replicate (96 * (last + 1 - first)) 1000;
    }

abbrev pub reach_of : Table → Request → ℕ
reach_of t r = reach (method_of (group []) r) (history t)

-- a day with these four readings from 15:00 and one load else
abbrev pub from15 : ℕ → List ℕ → Day
from15 else four = record { mark = 0; readings = replicate 56 else ++ four ++ replicate 36 else }

-- 003, Table 5, in kW, where Day 1 is the nearest: Day k as day 100 - k. The load outside the event grows away from it, so that a ranking over
-- the whole day would choose others
abbrev pub table5 : List (ℕ × Day)
table5 =
    (99, from15 1000 (6300 ∷ 7700 ∷ 6200 ∷ 7300 ∷ [])) ∷
    (98, from15 2000 (6200 ∷ 7300 ∷ 7500 ∷ 6100 ∷ [])) ∷
    (97, from15 3000 (7800 ∷ 7100 ∷ 6000 ∷ 4500 ∷ [])) ∷
    (96, from15 4000 (4900 ∷ 6900 ∷ 6600 ∷ 5800 ∷ [])) ∷
    (95, from15 5000 (4900 ∷ 6700 ∷ 5000 ∷ 7000 ∷ [])) ∷
    (94, from15 6000 (5800 ∷ 7800 ∷ 5000 ∷ 4200 ∷ [])) ∷
    (93, from15 7000 (5300 ∷ 7300 ∷ 6600 ∷ 4500 ∷ [])) ∷
    (92, from15 8000 (5000 ∷ 4400 ∷ 6300 ∷ 6700 ∷ [])) ∷
    (91, from15 9000 (6500 ∷ 4100 ∷ 4300 ∷ 5300 ∷ [])) ∷
    (90, from15 10000 (4300 ∷ 6500 ∷ 5900 ∷ 4800 ∷ [])) ∷ []

-- the numbers of Table 5's days, and Table 6's days: the five highest
abbrev pub day_names : List (ℕ × Day) → List ℕ
day_names days = map (λ d. 100 - d) (days_of days)

abbrev pub table6 : List (ℕ × Day)
table6 = take 5 (sort_by (higher (at15 0 100)) table5)

-- 01's worked listing: "days 6951 to 6972, marks 0, all readings 1000 but: day 6951 all 1300 with quarter 56 at 1307, day 6958 all 1100, day
-- 6965 all 1200, day 6972 all 1261"
abbrev pub worked : Table
worked =
    record {
      first = 6951;
      marks = replicate 22 0;
      readings =
          set (replicate 96 1300) 56 1307 ++ replicate (6 * 96) 1000 ++
          (replicate 96 1100 ++ replicate (6 * 96) 1000) ++
          (replicate 96 1200 ++ replicate (6 * 96) 1000) ++
          replicate 96 1261;
    }

pub record Checks : Type 0 where
  -- "Easter 2024 is 5 May (day 8891); Easter 2025 is 20 April."
  pub easter_2024 : easter 2024 ≡ 5 May 2024
  pub easter_2024_day : 5 May 2024 ≡ 8891
  pub easter_2025 : easter 2025 ≡ 20 April 2025
  -- "4 May 2024, Holy Saturday, is in the holiday group; day 6972 (2 February 2019) is a Saturday; day 8993 (15 August 2024) is in the
  -- holiday group."
  pub holy_saturday_day : easter 2024 - 1 ≡ 4 May 2024
  pub holy_saturday : group [] (4 May 2024) ≡ HolidayGroup
  pub saturday_day : 2 February 2019 ≡ 6972
  pub saturday : group [] 6972 ≡ Saturday
  pub assumption_day : 15 August 2024 ≡ 8993
  pub assumption : group [] 8993 ≡ HolidayGroup
  -- "event 28 August 2024 (day 9006), P 8700, events marked on 7 and 23 August, all complete: window 26, 22, 21, 20, 19, 16, 14, 13, 12, 9
  -- August, reach 19."
  pub august_day : 28 August 2024 ≡ 9006
  pub august_window : window_days (group []) (marked (14 July 2024) (28 August 2024) (7 August 2024 ∷ 23 August 2024 ∷ [])) (at15 8700 9006) ≡
      26 August 2024 ∷ 22 August 2024 ∷ 21 August 2024 ∷ 20 August 2024 ∷ 19 August 2024 ∷
      16 August 2024 ∷ 14 August 2024 ∷ 13 August 2024 ∷ 12 August 2024 ∷ 9 August 2024 ∷ []
  pub august_reach : reach_of (marked (14 July 2024) (28 August 2024) (7 August 2024 ∷ 23 August 2024 ∷ [])) (at15 8700 9006) ≡ 19
  -- "Held from 10 August: refusal 8 carrying 44."
  pub august_cut : verdict [] (marked (10 August 2024) (28 August 2024) (23 August 2024 ∷ [])) (at15 8700 9006) 4 ≡
      refused (MarginTooShort 44)
  -- "Saturday 2 February 2019, P 6900, no marks, all complete: 26, 19, 12 January (003, Table 4)."
  pub table_4 : window_days (group []) (marked (1 January 2019) (2 February 2019) []) (at15 6900 6972) ≡
      26 January 2019 ∷ 19 January 2019 ∷ 12 January 2019 ∷ []
  -- "four-quarter sums 27500, 27100, 25400, 24200, 23600, 22800, 23700, 22400, 20200, 21500 (003, Table 5 in kW), day 1 nearest: days 1, 2,
  -- 3, 4, 7 chosen."
  pub table_5_sums : map (λ (p : ℕ × Day). event_sum (at15 0 100) p.1) table5 ≡
      27500 ∷ 27100 ∷ 25400 ∷ 24200 ∷ 23600 ∷ 22800 ∷ 23700 ∷ 22400 ∷ 20200 ∷ 21500 ∷ []
  pub table_5_days : day_names table6 ≡ 1 ∷ 2 ∷ 3 ∷ 4 ∷ 7 ∷ []
  -- "quarter sums 30500, 36300, 32900, 28200 over 5: the averages of Table 6."
  pub table_6_sums : map (S 100 table6) (places 4 152) ≡ 30500 ∷ 36300 ∷ 32900 ∷ 28200 ∷ []
  pub table_6_averages : map (λ q. 5 * q) (6100 ∷ 7260 ∷ 6580 ∷ 5640 ∷ []) ≡ 30500 ∷ 36300 ∷ 32900 ∷ 28200 ∷ []
  -- "N 2, S 2507, A 15132, B 30000: numerator 30348."
  pub numerator_30348 : floored (unfloored 12 2507 (adjustment 2 15132 30000)) ≡ 30348
  -- "N 2, S 10, A 0, B 1200: numerator 0."
  pub numerator_0 : floored (unfloored 12 10 (adjustment 2 0 1200)) ≡ 0
  -- "6972 152 156 days 2 6951 6965 reach 21 over 24 adj 264", and the numerators of quarters 152 to 155 with their rounded kW
  pub worked_answer : verdict [] worked (at15 6900 6972) 4 ≡
      answered
      (record {
        days = 6951 ∷ 6965 ∷ [];
        reach = 21;
        denominator = 24;
        adjusted = pos 264;
        numerators = 30348 ∷ 30264 ∷ 30264 ∷ 30264 ∷ [];
      })
  pub worked_kilowatts : map (λ k. rounded k 24) (30348 ∷ 30264 ∷ 30264 ∷ 30264 ∷ []) ≡ 1265 ∷ 1261 ∷ 1261 ∷ 1261 ∷ []
  -- "6966 152 156 refused 8 42"
  pub worked_refusal : verdict [] worked (at15 6900 6966) 4 ≡ refused (MarginTooShort 42)
