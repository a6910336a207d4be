-- What holds of the record file: `laws` of `proofs/Laws.antt` proves all of it.
use Rattle.std.specs.Prelude.{ℕ, ◌+◌, ◌*◌, ◌<◌, ◌≤◌, ◌≡◌, true, false, List, ◌⊎◌, length, drop, Ok, Err}
use Rattle.file_record.specs.Layout.{Contents, file_of, Fits, Below}
use Rattle.file_record.specs.Reader.{is_pf, is_mv, is_ev, ev_length, is_dy_of, moves_in, move_start, file_base, shape_base, first_in, days_in, day_start, event_start, events_in, good_end}
use Rattle.file_record.specs.Reader.{shape_in, read_file, contents_in, shape_of}
use Rattle.file_record.specs.declared.Shape.{Shape}
use Rattle.method.specs.declared.Refusal.{Refusal}
use Rattle.method.specs.declared.Refusal.TheVariants.{BadFile}

-- an accepted file: its records are within the limits and add up to its length
pub record Accepted (file : List ℕ) (shape : Shape) : Type 0 where
  pub is_shape : shape ≡ shape_in file
  pub opens : is_pf file ≡ true
  pub moves : shape.moves ≤ 16
  pub days : shape.days ≤ 128
  pub events : shape.events ≤ 64
  pub whole : day_start (shape_base shape) shape.first shape.days + ev_length * shape.events ≡ length file

-- a file refused after its PF: every record before the place is as laid down, there is more, and it is neither the next MV nor the next DY nor an EV, unless
-- one too many
pub record StopsAt (file : List ℕ) (at : ℕ) : Type 0 where
  pub opens : is_pf file ≡ true
  pub place : at ≡ event_start file (events_in file)
  pub moves : moves_in file ≤ 16
  pub each_move : (k : ℕ) → k < moves_in file → is_mv (drop (move_start k) file) ≡ true
  pub days : days_in file ≤ 128
  pub each_day : (k : ℕ) → k < days_in file → is_dy_of (first_in file + k) (drop (day_start (file_base file) (first_in file) k) file) ≡ true
  pub events : events_in file ≤ 64
  pub each_event : (i : ℕ) → i < events_in file → is_ev (drop (event_start file i) file) ≡ true
  pub something : at < length file
  pub no_move : moves_in file < 16 → days_in file ≡ 0 → events_in file ≡ 0 → is_mv (drop at file) ≡ false
  pub no_day : days_in file < 128 → events_in file ≡ 0 → is_dy_of (first_in file + days_in file) (drop at file) ≡ false
  pub no_event : events_in file < 64 → is_ev (drop at file) ≡ false

pub record Laws : Type 0 where
  pub accepted : (file : List ℕ) (shape : Shape) → read_file file ≡ Ok shape → Accepted file shape
  pub refused : (file : List ℕ) (at : ℕ) → read_file file ≡ Err (BadFile at) → ((is_pf file ≡ false) × (at ≡ 0)) ⊎ StopsAt file at
  -- and a file is refused with nothing but 11, at 0 or where its good records end
  pub only_11 : (file : List ℕ) (w : Refusal) → read_file file ≡ Err w → (w ≡ BadFile 0) ⊎ (w ≡ BadFile (good_end file))
  -- what is written reads back, and is bytes
  pub reads_back : (c : Contents) → Fits c → (read_file (file_of c) ≡ Ok (shape_of c)) × (contents_in (file_of c) ≡ c)
  pub writes_bytes : (c : Contents) → Fits c → Below 256 (file_of c)
  -- what is read is written again, and can be
  pub written_again : (file : List ℕ) (shape : Shape) → Below 256 file → read_file file ≡ Ok shape → file_of (contents_in file) ≡ file
  pub says_what_fits : (file : List ℕ) (shape : Shape) → Below 256 file → read_file file ≡ Ok shape → Fits (contents_in file)
