-- Both sides of lines that 01 draws and does not mark P, and of the slips that it names. `proofs/Checks` proves them.
use Rattle.std.specs.Prelude.{◌≡◌, true, false, List, [], ◌∷◌, ◌++◌, map, ℕ, ◌*◌, ◌%◌, ◌<◌, replicate, set, pos}
use Rattle.calendar_groups.specs.Holidays.{group}
use Rattle.method.specs.declared.Request.{Request}
use Rattle.method.specs.declared.Refusal.{Refusal}
use Rattle.method.specs.declared.Refusal.TheVariants.{BadFile, NoEvent, BadTable, BadMark, BadReading, BadRequest, NotHeld}
use Rattle.method.specs.declared.Refusal.TheVariants.{NotYetParticipating, NoRoom, MarginTooShort, TooFew, NoAdjustmentWindow, Unwritable, BadMoves}
use Rattle.method.specs.Table.{Table, Day, event_bit, outage_bit, present, good_reading, missing, history, is_extract, day_part}
use Rattle.method.specs.Ruler.{ruler_start, ruler_end, against}
use Rattle.method.specs.Method.{chosen, days_of}
use Rattle.method.specs.Adjustment.{adjustment_end, S, A, B, rounded}
use Rattle.method.specs.Requested.{method_of}
use Rattle.method.specs.Verdict.{Reply, refused, answered, number, carries, good_request, verdict, written}
use Rattle.method.specs.CutTables.{window_days}
use Rattle.method.specs.Checks.{◌January◌, ◌February◌, ◌April◌, ◌May◌, ◌August◌, at15, marked}
use Rattle.base_lists.specs.Lists.{places}

abbrev pub chosen_of : Table → Request → List ℕ
chosen_of t r = days_of (chosen (method_of (group []) r) (history t))

abbrev pub notified : ℕ → Request
notified n = record { participation = 0; event = 1; s = 152; e = 156; n = n; method = 0 }

-- from Tuesday 20 to Wednesday 28 August 2024, with this mark on Friday the 23rd, and with this reading at its quarter 0
abbrev pub five_days : ℕ → ℕ → Table
five_days mark reading =
    record { first = 20 August 2024; marks = set (replicate 9 0) 3 mark; readings = set (replicate 864 1000) 288 reading }

-- what the event of Wednesday the 28th comes to over them, with participation since the 20th
abbrev pub wednesday : ℕ → ℕ → Reply
wednesday mark reading = verdict [] (five_days mark reading) (at15 (20 August 2024) (28 August 2024)) 4

-- one chosen day of which quarter q reads q
abbrev pub counting : List (ℕ × Day)
counting = (0, record { mark = 0; readings = places 96 0 }) ∷ []

-- two days, the second with this mark, and with this reading at place 100
abbrev pub two_days : ℕ → ℕ → Table
two_days mark reading = record { first = 27 August 2024; marks = 0 ∷ mark ∷ []; readings = set (replicate 192 1000) 100 reading }

-- the days from 11 January to 2 February 2019, the last two with no reading
abbrev pub silent : Table
silent = record { first = 11 January 2019; marks = replicate 23 0; readings = replicate (21 * 96) 1000 ++ replicate 192 missing }

-- a request for day 9006 with these P, s, e and n
abbrev pub asked : ℕ → ℕ → ℕ → ℕ → Request
asked p s e n = record { participation = p; event = 9006; s = s; e = e; n = n; method = 0 }

-- the table of `h` days from `first` on, with so many readings
abbrev pub lent : ℕ → ℕ → ℕ → Table
lent first h readings = record { first = first; marks = replicate h 0; readings = replicate readings 1000 }

-- the fourteen refusals, the numbers that they carry all distinct
abbrev pub refusals : List Refusal
refusals =
    BadFile 21 ∷ NoEvent ∷ BadTable ∷ BadMark 22 ∷ BadReading 23 ∷ BadRequest ∷ NotHeld ∷ NotYetParticipating ∷ NoRoom ∷
    MarginTooShort 24 ∷ TooFew 25 26 ∷ NoAdjustmentWindow 27 ∷ Unwritable ∷ BadMoves ∷ []

-- an answer of two quarters
abbrev pub two_quarters : Reply
two_quarters = answered (record { days = []; reach = 0; denominator = 24; adjusted = pos 0; numerators = 31 ∷ 32 ∷ [] })

pub record Edges : Type 0 where
  -- D-1 is left out for a weekday alone: Easter Sunday's window has Holy Saturday, Good Friday and Labour Day
  pub easter_sunday : window_days (group []) (marked (1 April 2024) (5 May 2024) []) (at15 8700 (5 May 2024)) ≡ 4 May 2024 ∷ 3 May 2024 ∷ 1 May 2024 ∷ []
  -- and of its three days two are chosen: N is 2 for the holiday group too
  pub easter_sunday_two : chosen_of (marked (1 April 2024) (5 May 2024) []) (at15 8700 (5 May 2024)) ≡ 4 May 2024 ∷ 3 May 2024 ∷ []
  -- equal sums: the nearer days are chosen, in that order
  pub ties : chosen_of (marked (1 January 2019) (2 February 2019) []) (at15 6900 6972) ≡ 26 January 2019 ∷ 19 January 2019 ∷ []
  -- of a Friday's look-back the 45th day is a Tuesday, and the 46th a Monday
  pub forty_five : verdict [] (marked (20 August 2024) (30 August 2024) []) (at15 8700 (30 August 2024)) 4 ≡ refused (MarginTooShort 45)
  -- "if fewer than Y but at least N exist, all of them": two Saturdays, and the third, with an event, is not added
  pub two_of_three : window_days (group []) (marked (12 January 2019) (2 February 2019) (12 January 2019 ∷ [])) (at15 (12 January 2019) 6972) ≡
      26 January 2019 ∷ 19 January 2019 ∷ []
  -- "four eligible weekdays and one complete relevant event day without outage: five chosen; without the event day, refusal 9"
  pub filled : chosen_of (five_days 1 1000) (at15 (20 August 2024) (28 August 2024)) ≡
      26 August 2024 ∷ 23 August 2024 ∷ 22 August 2024 ∷ 21 August 2024 ∷ 20 August 2024 ∷ []
  pub not_filled : wednesday 3 1000 ≡ refused (TooFew 4 8)
  -- nor does a day of outage count, or one with a reading missing, marked or not
  pub outage : wednesday 2 1000 ≡ refused (TooFew 4 8)
  pub incomplete : wednesday 0 missing ≡ refused (TooFew 4 8)
  pub incomplete_event : wednesday 1 missing ≡ refused (TooFew 4 8)
  -- "Mark bit 0: a demand response event was recorded. Bit 1: outage or force majeure."
  pub event_bits : map event_bit (0 ∷ 1 ∷ 2 ∷ 3 ∷ []) ≡ false ∷ true ∷ false ∷ true ∷ []
  pub outage_bits : map outage_bit (0 ∷ 1 ∷ 2 ∷ 3 ∷ []) ≡ false ∷ false ∷ true ∷ true ∷ []
  -- "n 12 uses ruler quarter 0; n 11 takes the other rule"; so does n 12 where a quarter of the twelve is missing
  pub n_12 : adjustment_end (notified 12) (replicate 192 1000) ≡ 12
  pub n_11 : adjustment_end (notified 11) (replicate 192 1000) ≡ 152
  pub n_12_missing : adjustment_end (notified 12) (set (replicate 192 1000) 0 missing) ≡ 152
  pub s_missing : adjustment_end (notified 11) (set (replicate 192 1000) 151 missing) ≡ 151
  pub none_left : adjustment_end (notified 11) (replicate 11 1000 ++ replicate 181 missing) ≡ 0
  -- "day D-1 is 0 to 95 and day D is 96 to 191", and "quarter t mod 96", of every event and ruler quarter
  pub ruler_of : (event : ℕ) → (ruler_start event ≡ 96) × (ruler_end event ≡ 192)
  pub mod_96 : (event t : ℕ) → t < ruler_end event → against event t ≡ t % 96
  -- "the reading at quarter t mod 96": day D-1's quarters on the ruler, and day D's; A and B over quarters 88 to 99, from one day to the other
  pub s_yesterday : S 1 counting 95 ≡ 95
  pub s_today : S 1 counting 97 ≡ 1
  pub a_across : A (places 192 0) 100 ≡ 1122
  pub b_across : B 1 counting 100 ≡ 738
  -- "halves up": 11, 12, 35 and 36 over 24
  pub halves_up : map (λ k. rounded k 24) (11 ∷ 12 ∷ 35 ∷ 36 ∷ []) ≡ 0 ∷ 1 ∷ 1 ∷ 2 ∷ []
  -- "Reading 10,000,000 taken; 10,000,001 refused."; "4,294,967,295 means missing"; "zero is a reading"
  pub reading_taken : good_reading 10000000 ≡ true
  pub reading_refused : good_reading 10000001 ≡ false
  pub missing_taken : good_reading 4294967295 ≡ true
  pub below_missing_refused : good_reading 4294967294 ≡ false
  pub missing_absent : present 4294967295 ≡ false
  pub zero_present : present 0 ≡ true
  -- "h is 0 or above 128, readings not 96·h, or F+h-1 above 36,524": the last that are taken, and one further
  pub days_taken : is_extract (lent 0 128 (128 * 96)) ≡ true
  pub days_refused : is_extract (lent 0 129 (129 * 96)) ≡ false
  pub no_days_refused : is_extract (lent 0 0 0) ≡ false
  pub one_less_refused : is_extract (lent 0 1 95) ≡ false
  pub one_more_refused : is_extract (lent 0 1 97) ≡ false
  pub last_day_taken : is_extract (lent 36523 2 192) ≡ true
  pub past_last_refused : is_extract (lent 36524 2 192) ≡ false
  -- the part of a day held, of one not held, and of a table with a reading too many
  pub its_part : day_part (two_days 0 7) (28 August 2024) ≡ set (replicate 96 1000) 4 7
  pub no_part : day_part (two_days 0 7) (29 August 2024) ≡ []
  pub no_part_refused : day_part (lent 0 1 97) 0 ≡ []
  -- "D equal to F and P equal to D: refusal 9 with 0 and 0. P one later: refusal 6."
  pub alone : verdict [] (marked (28 August 2024) (28 August 2024) []) (at15 9006 9006) 4 ≡ refused (TooFew 0 0)
  pub later : verdict [] (marked (28 August 2024) (28 August 2024) []) (at15 9007 9006) 4 ≡ refused NotYetParticipating
  -- "s outside 96..191; e outside s+1..192; n above s", and P above 36,524: the last that are taken, and one further
  pub latest_taken : good_request (asked 36524 191 192 191) ≡ true
  pub earliest_taken : good_request (asked 0 96 97 0) ≡ true
  pub p_refused : good_request (asked 36525 191 192 191) ≡ false
  pub s_refused : good_request (asked 0 95 97 0) ≡ false
  pub s_late_refused : good_request (asked 0 192 193 0) ≡ false
  pub e_refused : good_request (asked 0 96 96 0) ≡ false
  pub e_late_refused : good_request (asked 0 191 193 0) ≡ false
  pub n_refused : good_request (asked 0 96 97 97) ≡ false
  -- "tested in this order": 1 to 7, each where the next is due too. "Places count from 0 over the whole table.": of a mark with another bit
  -- the day's, of a reading its own; the day after the last is not held
  pub no_readings : verdict [] (record { first = 9006; marks = 4 ∷ []; readings = [] }) (at15 8700 9006) 4 ≡ refused BadTable
  pub second_mark : verdict [] (two_days 4 10000001) (at15 8700 9006) 4 ≡ refused (BadMark 1)
  pub reading_100 : verdict [] (two_days 0 10000001) (asked 8700 152 152 148) 4 ≡ refused (BadReading 100)
  pub no_quarters : verdict [] (lent 9005 1 96) (asked 8700 152 152 148) 4 ≡ refused BadRequest
  pub not_held : verdict [] (two_days 0 1000) (at15 9008 9007) 4 ≡ refused NotHeld
  pub not_yet : verdict [] (two_days 0 1000) (at15 9007 9006) 3 ≡ refused NotYetParticipating
  pub no_room : verdict [] (two_days 0 1000) (at15 8700 9006) 3 ≡ refused NoRoom
  -- and 10: D-1 and D with no reading
  pub no_adjustment : verdict [] silent (at15 6900 6972) 4 ≡ refused (NoAdjustmentWindow 21)
  -- every refusal has 01's number, and carries its numbers in 01's order
  pub numbers : map number refusals ≡ 11 ∷ 12 ∷ 1 ∷ 2 ∷ 3 ∷ 4 ∷ 5 ∷ 6 ∷ 7 ∷ 8 ∷ 9 ∷ 10 ∷ 13 ∷ 14 ∷ []
  pub carried : map carries refusals ≡
      (21 ∷ []) ∷ [] ∷ [] ∷ (22 ∷ []) ∷ (23 ∷ []) ∷ [] ∷ [] ∷ [] ∷ [] ∷ (24 ∷ []) ∷ (25 ∷ 26 ∷ []) ∷ (27 ∷ []) ∷ [] ∷ [] ∷ []
  -- "Refused, every lent buffer keeps its bytes. Answered, the first e-s outputs are written and the rest kept."
  pub refused_keeps : written (refused NoRoom) (41 ∷ 42 ∷ 43 ∷ []) ≡ 41 ∷ 42 ∷ 43 ∷ []
  pub answered_writes : written two_quarters (41 ∷ 42 ∷ 43 ∷ []) ≡ 31 ∷ 32 ∷ 43 ∷ []
