-- The record file on bytes: the records as 01 and orders 2 and 3 of 02 lay them down, and files on both sides of each line.
use Rattle.std.specs.Prelude.{ℕ, ◌≡◌, List, [], ◌∷◌, ◌++◌, take, replicate, Result, Ok, Err}
use Rattle.file_record.specs.Layout.{pf_record, mv_record, dy_record, ev_record, mv_records, ev_records, Event}
use Rattle.file_record.specs.Reader.{read_file, list_in, event_at_place}
use Rattle.method.specs.declared.Refusal.{Refusal}
use Rattle.method.specs.declared.Refusal.TheVariants.{BadFile}
use Rattle.method.specs.declared.Request.{Request}
use Rattle.file_record.specs.declared.Shape.{Shape}

-- P 6900, portfolio 77
unfoldable pub pf : List ℕ
pf = pf_record 6900 77

-- 1 May 2024 is moved to 7 May
unfoldable pub mv : List ℕ
mv = mv_record 8887 8893

-- 01's first event
abbrev pub event : Event
event = record { day = 6972; s = 152; e = 156; n = 148; method = 0 }

unfoldable pub ev : List ℕ
ev = ev_record event

-- a day with mark 0 and 96 readings of 1000
unfoldable pub flat : ℕ → List ℕ
flat day = dy_record day 0 (replicate 96 1000)

abbrev pub holding : ℕ → ℕ → ℕ → ℕ → Result Shape Refusal
holding moves first days events =
    Ok (record { participation = 6900; portfolio = 77; moves = moves; first = first; days = days; events = events })

abbrev pub holds : ℕ → ℕ → ℕ → Result Shape Refusal
holds first days events = holding 0 first days events

-- the first event of a file, as a request
abbrev pub event_in : List ℕ → Result Request Refusal
event_in file = event_at_place (read_file file) file 0

-- the one above, by this method
abbrev pub asks : ℕ → Result Request Refusal
asks method = Ok (record { participation = 6900; event = 6972; s = 152; e = 156; n = 148; method = method })

pub record Checks : Type 0 where
  pub pf_bytes : pf ≡ 80 ∷ 70 ∷ 244 ∷ 26 ∷ 77 ∷ 0 ∷ 0 ∷ 0 ∷ []
  pub ev_bytes : ev ≡ 69 ∷ 86 ∷ 60 ∷ 27 ∷ 152 ∷ 156 ∷ 148 ∷ 0 ∷ []
  pub dy_bytes : dy_record 6951 2 (1000 ∷ 4294967295 ∷ []) ≡ 68 ∷ 89 ∷ 39 ∷ 27 ∷ 2 ∷ 0 ∷ 232 ∷ 3 ∷ 0 ∷ 0 ∷ 255 ∷ 255 ∷ 255 ∷ 255 ∷ []
  pub mv_bytes : mv ≡ 77 ∷ 86 ∷ 183 ∷ 34 ∷ 189 ∷ 34 ∷ []
  -- an empty file, a cut PF, a foreign one, a PF alone
  pub empty : read_file [] ≡ Err (BadFile 0)
  pub cut : read_file (take 7 pf) ≡ Err (BadFile 0)
  pub foreign : read_file (ev ++ pf) ≡ Err (BadFile 0)
  pub alone : read_file pf ≡ holds 0 0 0
  -- one EV, a cut one, a second PF after it
  pub one_event : read_file (pf ++ ev) ≡ holds 0 0 1
  pub cut_event : read_file (pf ++ take 7 ev) ≡ Err (BadFile 8)
  pub second_pf : read_file (pf ++ ev ++ pf) ≡ Err (BadFile 16)
  -- its last byte is the method, whatever it is
  pub by_high : event_in (pf ++ ev) ≡ asks 0
  pub by_average : event_in (pf ++ take 7 ev ++ (1 ∷ [])) ≡ asks 1
  pub by_255 : event_in (pf ++ take 7 ev ++ (255 ∷ [])) ≡ asks 255
  -- 64 EV, and one too many
  pub all_events : read_file (pf ++ ev_records (replicate 64 event)) ≡ holds 0 0 64
  pub event_65 : read_file (pf ++ ev_records (replicate 65 event)) ≡ Err (BadFile 520)
  -- two days, a cut one, one that does not follow, one after an EV; day 65535 is never followed by day 0
  pub two_days : read_file (pf ++ flat 6951 ++ flat 6952 ++ ev) ≡ holds 6951 2 1
  pub cut_day : read_file (pf ++ flat 6951 ++ take 389 (flat 6952)) ≡ Err (BadFile 398)
  pub gap : read_file (pf ++ flat 6951 ++ flat 6953) ≡ Err (BadFile 398)
  pub late_day : read_file (pf ++ flat 6951 ++ ev ++ flat 6952) ≡ Err (BadFile 406)
  pub on_last_day : read_file (pf ++ flat 65534 ++ flat 65535) ≡ holds 65534 2 0
  pub no_turn : read_file (pf ++ flat 65535 ++ flat 0) ≡ Err (BadFile 398)
  -- an MV, a cut one, 16 of them, a seventeenth; before the PF, after a DY, after an EV; and with all that may come after it
  pub one_move : read_file (pf ++ mv) ≡ holding 1 0 0 0
  pub cut_move : read_file (pf ++ mv ++ take 5 mv) ≡ Err (BadFile 14)
  pub all_moves : read_file (pf ++ mv_records (replicate 32 65535) ++ ev) ≡ holding 16 0 0 1
  pub move_17 : read_file (pf ++ mv_records (replicate 34 0) ++ ev) ≡ Err (BadFile 104)
  pub move_first : read_file (mv ++ pf) ≡ Err (BadFile 0)
  pub move_after_day : read_file (pf ++ flat 6951 ++ mv ++ ev) ≡ Err (BadFile 398)
  pub move_after_event : read_file (pf ++ ev ++ mv) ≡ Err (BadFile 16)
  pub moves_and_day : read_file (pf ++ mv ++ mv ++ flat 6951 ++ ev) ≡ holding 2 6951 1 1
  -- what it says: the list, in its order
  pub list_said : list_in (pf ++ mv ++ mv_record 65535 0 ++ ev) ≡ 8887 ∷ 8893 ∷ 65535 ∷ 0 ∷ []
  pub no_list : list_in (pf ++ flat 6951 ++ ev) ≡ []
