-- The working of 01's worked listing, and each reason, sum, rank and number of the sheet on both sides of its edge. `proofs/Checks` proves it.
use Rattle.std.specs.Prelude.{◌≡◌, Bool, true, false, List, [], ◌∷◌, map, ℕ, replicate, set, pos}
use Rattle.std.proofs.Math.Option.{none, some}
use Rattle.base_lists.specs.Lists.{places}
use Rattle.calendar_groups.specs.Holidays.{group}
use Rattle.method.specs.declared.Request.{Request}
use Rattle.method.specs.Table.{Table, missing, offset, history}
use Rattle.method.specs.Checks.{◌January◌, ◌February◌, ◌April◌, ◌May◌, ◌August◌, at15, marked, worked}
use Rattle.method.specs.Edges.{five_days, lent, silent}
use Rattle.method_working.specs.declared.Reason.{Reason}
use Rattle.method_working.specs.declared.Reason.TheVariants.{TooEarly, AnotherGroup, DayBefore, NotHeld, ReadingMissing, Outage, EventRecorded, Eligible}
use Rattle.method_working.specs.Working.{reason, summed, rank_in, rank, is_chosen, chooses, ends, adjusts, answers}
use Rattle.method_working.specs.Sheet.{Sheet, sheet_of, days_taken, adjustment_shown, numerator_shown}

-- why the days so many days before the event are used or are not, with no move listed
abbrev pub reasons : Table → Request → List ℕ → List Reason
reasons t r backs = map (reason (group []) r (history t)) backs

abbrev pub ranks : Table → Request → List ℕ → List ℕ
ranks t r backs = map (rank (group []) r (history t)) backs

abbrev pub sheet : Table → Request → Sheet
sheet t r = sheet_of (group []) r (history t)

-- whether days are chosen, an adjustment is made, and there is a baseline
abbrev pub steps : Table → Request → List Bool
steps t r = chooses (group []) r (history t) ∷ adjusts (group []) r (history t) ∷ answers (group []) r (history t) ∷ []

-- 01's event on its worked listing
abbrev pub saturday : Request
saturday = at15 6900 6972

-- a request for the hour from 15:00 by Average X of Y
abbrev pub ahead : ℕ → ℕ → Request
ahead p d = record { participation = p; event = d; s = 152; e = 156; n = 148; method = 1 }

-- Wednesday 28 August 2024 with participation since a day of August
abbrev pub wednesday : ℕ → Request
wednesday p = at15 (p August 2024) (28 August 2024)

-- why Friday the 23rd is used or is not, with this mark, and with this reading at its quarter 0
abbrev pub friday : ℕ → ℕ → Reason
friday mark reading = reason (group []) (wednesday 20) (history (five_days mark reading)) 5

-- Wednesday the 28th by Average X of Y
abbrev pub ahead28 : Request
ahead28 = ahead 8700 (28 August 2024)

-- so many days from `first` on, all alike
abbrev pub level : ℕ → ℕ → Table
level first h = lent first h (offset first h)

-- 27 and 28 August, with no reading at this place
abbrev pub holed : ℕ → Table
holed place = record { first = 27 August 2024; marks = 0 ∷ 0 ∷ []; readings = set (replicate (offset (27 August 2024) 2) 1000) place missing }

-- Monday 12 August to Wednesday the 28th: ten weekdays, all alike
abbrev pub alike : Table
alike = marked (12 August 2024) (28 August 2024) []

pub record Checks : Type 0 where
  -- 01's worked listing: Friday, the three Saturdays held, and the one before them
  pub worked_reasons : reasons worked saturday (1 ∷ 7 ∷ 14 ∷ 21 ∷ 28 ∷ []) ≡ AnotherGroup ∷ Eligible ∷ Eligible ∷ Eligible ∷ NotHeld ∷ []
  pub worked_sums : map (summed saturday (history worked)) (1 ∷ 7 ∷ 14 ∷ 21 ∷ 28 ∷ []) ≡ some 4000 ∷ some 4800 ∷ some 4400 ∷ some 5207 ∷ none ∷ []
  pub worked_ranks : ranks worked saturday (1 ∷ 7 ∷ 14 ∷ 21 ∷ 28 ∷ []) ≡ 0 ∷ 2 ∷ 3 ∷ 1 ∷ 0 ∷ []
  pub worked_chosen : map (is_chosen (group []) saturday (history worked)) (1 ∷ 7 ∷ 14 ∷ 21 ∷ 28 ∷ []) ≡ false ∷ true ∷ false ∷ true ∷ false ∷ []
  pub worked_passed : (sheet worked saturday).passed ≡ 0
  pub worked_taken : (sheet worked saturday).taken ≡ 2
  pub worked_days : days_taken saturday (sheet worked saturday) ≡ 6951 ∷ 6965 ∷ []
  -- "N 2, S 2507, A 15132, B 30000: numerator 30348."
  pub worked_end : ends saturday (history worked) ≡ 148
  pub worked_a : (sheet worked saturday).own ≡ 15132
  pub worked_b : (sheet worked saturday).usual ≡ 30000
  pub worked_s : map (sheet worked saturday).sum (places 4 152) ≡ 2507 ∷ 2500 ∷ 2500 ∷ 2500 ∷ []
  pub worked_adjustment : adjustment_shown saturday (sheet worked saturday) ≡ pos 264
  pub worked_numerators : map (numerator_shown saturday (sheet worked saturday)) (places 4 152) ≡ pos 30348 ∷ pos 30264 ∷ pos 30264 ∷ pos 30264 ∷ []
  pub worked_steps : steps worked saturday ≡ true ∷ true ∷ true ∷ []
  -- day 0, before Epiphany 2000, and below it; P, and the day before it
  pub day_0 : reasons (level 0 6) (at15 0 5) (4 ∷ 5 ∷ 6 ∷ []) ≡ Eligible ∷ Eligible ∷ TooEarly ∷ []
  pub since_p : reasons (five_days 0 1000) (wednesday 21) (7 ∷ 8 ∷ []) ≡ Eligible ∷ TooEarly ∷ []
  -- D-1 is left out for a weekday alone, and not where it is of another group: a Wednesday, Easter Sunday and a Monday
  pub day_before : reasons (five_days 0 1000) (wednesday 20) (1 ∷ 2 ∷ 3 ∷ 4 ∷ 5 ∷ []) ≡ DayBefore ∷ Eligible ∷ AnotherGroup ∷ AnotherGroup ∷ Eligible ∷ []
  pub easter_sunday : reasons (marked (1 April 2024) (5 May 2024) []) (at15 8700 (5 May 2024)) (1 ∷ 2 ∷ 3 ∷ []) ≡ Eligible ∷ Eligible ∷ AnotherGroup ∷ []
  pub monday : reasons (five_days 0 1000) (at15 8700 (26 August 2024)) (1 ∷ 3 ∷ []) ≡ AnotherGroup ∷ Eligible ∷ []
  -- one day held, and the days beside it; D-1, a day of another group and one before P need not be held
  pub one_held : reasons (level (20 August 2024) 1) (at15 8700 (23 August 2024)) (2 ∷ 3 ∷ 4 ∷ []) ≡ NotHeld ∷ Eligible ∷ NotHeld ∷ []
  pub not_asked : reasons (level (28 August 2024) 1) (wednesday 22) (1 ∷ 2 ∷ 3 ∷ 11 ∷ []) ≡ DayBefore ∷ NotHeld ∷ AnotherGroup ∷ TooEarly ∷ []
  -- a missing reading comes before an outage, and an outage before an event
  pub both_marks : friday 3 1000 ≡ Outage
  pub other_marks : map (λ mark. friday mark 1000) (0 ∷ 1 ∷ 2 ∷ []) ≡ Eligible ∷ EventRecorded ∷ Outage ∷ []
  pub missing_reading : map (λ mark. friday mark missing) (0 ∷ 1 ∷ 2 ∷ 3 ∷ []) ≡ ReadingMissing ∷ ReadingMissing ∷ ReadingMissing ∷ ReadingMissing ∷ []
  -- a reading missing beside the event's quarters, 56 to 59, leaves their sum; a day not held, or below day 0, has none
  pub sums : map (λ place. summed (wednesday 1) (history (holed place)) 1) (55 ∷ 56 ∷ 59 ∷ 60 ∷ []) ≡ some 4000 ∷ none ∷ none ∷ some 4000 ∷ []
  pub no_sum : map (summed (at15 0 1) (history (level 0 2))) (1 ∷ 2 ∷ []) ≡ some 4000 ∷ none ∷ []
  pub no_sum_held : map (summed (wednesday 1) (history (holed 100))) (1 ∷ 2 ∷ []) ≡ some 4000 ∷ none ∷ []
  -- ranks count from 1, and 0 is none; of equal sums the nearer day comes first
  pub in_a_list : map (rank_in (7 ∷ 5 ∷ 6 ∷ [])) (5 ∷ 6 ∷ 7 ∷ 8 ∷ []) ≡ 2 ∷ 3 ∷ 1 ∷ 0 ∷ []
  pub ties : ranks (marked (1 January 2019) (2 February 2019) []) saturday (7 ∷ 14 ∷ 21 ∷ 28 ∷ []) ≡ 1 ∷ 2 ∷ 3 ∷ 0 ∷ []
  pub below_0 : ranks (level 0 6) (at15 0 5) (4 ∷ 5 ∷ 6 ∷ []) ≡ 1 ∷ 2 ∷ 0 ∷ []
  -- Average X of Y: of ten days four ranks are passed over, two are taken, and nothing is adjusted
  pub average_ranks : ranks alike ahead28 (2 ∷ 5 ∷ 6 ∷ 7 ∷ 8 ∷ 9 ∷ 12 ∷ 14 ∷ 15 ∷ 16 ∷ []) ≡ places 10 1
  pub average_chosen : map (is_chosen (group []) ahead28 (history alike)) (7 ∷ 8 ∷ 9 ∷ 12 ∷ []) ≡ false ∷ true ∷ true ∷ false ∷ []
  pub average_days : days_taken ahead28 (sheet alike ahead28) ≡ 20 August 2024 ∷ 19 August 2024 ∷ []
  pub average_adjustment : adjustment_shown ahead28 (sheet alike ahead28) ≡ pos 0
  pub average_numerator : numerator_shown ahead28 (sheet alike ahead28) 152 ≡ pos 2000
  -- where 8, 9 or 10 is given there is no baseline; 10 is not given by Average X of Y
  pub short_margin : steps (marked (20 August 2024) (28 August 2024) []) (at15 8700 (28 August 2024)) ≡ false ∷ false ∷ false ∷ []
  pub too_few : steps (five_days 2 1000) (wednesday 20) ≡ false ∷ false ∷ false ∷ []
  pub filled : steps (five_days 1 1000) (wednesday 20) ≡ true ∷ true ∷ true ∷ []
  pub no_window : steps silent saturday ≡ true ∷ false ∷ false ∷ []
  pub no_end : ends saturday (history silent) ≡ 0
  pub average_steps : steps silent (ahead (11 January 2019) 6972) ≡ true ∷ false ∷ true ∷ []
