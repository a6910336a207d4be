-- Document 02, order 1: "From P, a portfolio number, an extract and up to 64 events, write the file into a lent buffer and report its length."; and,
-- by order 2, from a list of moves. Order 3 gives each event its method.
use Rattle.std.specs.Prelude.{ℕ, ◌+◌, ◌/◌, ◌%◌, ◌^◌, ◌≡◌, Bool, cond, ◌&&◌, ◌||◌, List, [], ◌∷◌, ◌++◌, length, drop, leb, ltb, eqb, Result, Ok, Err}
use Rattle.base_lists.specs.Lists.{all}
use Rattle.method.specs.declared.Refusal.TheVariants.{BadTable, NoRoom, Unwritable}
use Rattle.method.specs.Table.{Table, held_days, offset}
use Rattle.file_record.specs.Layout.{Event, Contents, file_of, fits_day, fits_event}
use Rattle.method.specs.declared.Refusal.{Refusal}

-- what is lent: P, a portfolio number, an extract, a list of moves, and events as numbers, five for each: D, s, e, n and the method
pub record Lent : Type 0 where
  pub participation : ℕ
  pub portfolio : ℕ
  pub table : Table
  pub moves : List ℕ
  pub numbers : List ℕ

abbrev pub lent : ℕ → ℕ → ℕ → List ℕ → List ℕ → List ℕ → List ℕ → Lent
lent participation portfolio first marks readings moves numbers =
    record {
      participation = participation;
      portfolio = portfolio;
      table = record { first = first; marks = marks; readings = readings };
      moves = moves;
      numbers = numbers;
    }

-- the events of such numbers; fewer than five at the end are none
unfoldable pub events_of : List ℕ → List Event
events_of (d ∷ s ∷ e ∷ n ∷ m ∷ more) = record { day = d; s = s; e = e; n = n; method = m } ∷ events_of more
events_of (d ∷ s ∷ e ∷ n ∷ []) = []
events_of (d ∷ s ∷ e ∷ []) = []
events_of (d ∷ s ∷ []) = []
events_of (d ∷ []) = []
events_of [] = []

-- what the file is to say
abbrev pub said : Lent → Contents
said w =
    record {
      participation = w.participation;
      portfolio = w.portfolio;
      moves = w.moves;
      table = w.table;
      events = events_of w.numbers;
    }

-- "1 for h above 128 or readings not 96·h": neither, for so many days and readings
unfoldable pub matching : ℕ → ℕ → ℕ → Bool
matching first days readings = leb days 128 && eqb readings (offset first days)

-- P and the last of the days have two bytes, and no days have F 0
unfoldable pub days_in_bounds : ℕ → ℕ → ℕ → Bool
days_in_bounds participation first days = ltb participation (256 ^ 2) && leb (first + days) (256 ^ 2) && (ltb 0 days || eqb first 0)

-- `numbers` numbers are whole moves or events, `each` numbers for one, and at most `most` of them
unfoldable pub few_of : ℕ → ℕ → ℕ → Bool
few_of each most numbers = eqb (numbers % each) 0 && leb (numbers / each) most

-- "13 for more than 64 events, a field or day that its bytes can't hold, or no days with F other than 0": none of these; nor "a seventeenth MV"; and five
-- numbers for each event, two for each move
unfoldable pub sayable : ℕ → ℕ → ℕ → List ℕ → List ℕ → Bool
sayable participation first days moves numbers =
    days_in_bounds participation first days && few_of 2 16 (length moves) && all fits_day moves && few_of 5 64 (length numbers) && all fits_event (events_of numbers)

-- "Refusals: 1 .., then 13 .., then 7 for room", where `room` is the buffer's length; else the file's length
unfoldable pub writing : Lent → ℕ → Result ℕ Refusal
writing w room =
    let size = length (file_of (said w)) in
    let fits = cond (leb size room) (Ok size) (Err NoRoom) in
    let says = cond (sayable w.participation w.table.first (held_days w.table) w.moves w.numbers) fits (Err Unwritable) in
    cond (matching w.table.first (held_days w.table) (length w.table.readings)) says (Err BadTable)

-- what the buffer holds afterwards: the file first and the rest kept; "nothing is written on any" refusal
unfoldable pub leaving : Result ℕ Refusal → List ℕ → List ℕ → List ℕ
leaving (Ok size) file out = file ++ drop size out
leaving (Err why) file out = out

pub record Writes (w : Lent) (out : List ℕ) (r : Result ℕ Refusal) (out' : List ℕ) : Type 0 where
  pub result : r ≡ writing w (length out)
  pub output : out' ≡ leaving (writing w (length out)) (file_of (said w)) out
