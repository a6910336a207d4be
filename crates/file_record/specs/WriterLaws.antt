-- What holds of the writer, over the layout that the reader reads: `writer_laws` of `proofs/WriterLaws.antt` proves all of it.
use Rattle.std.specs.Prelude.{ℕ, ◌+◌, ◌*◌, ◌/◌, ◌^◌, ◌<◌, ◌≤◌, ◌≡◌, List, [], ◌∷◌, ◌++◌, length, take, drop, Result, Ok, Err}
use Rattle.method.specs.declared.Refusal.{Refusal}
use Rattle.method.specs.declared.Refusal.TheVariants.{Unwritable}
use Rattle.method.specs.Table.{held_days}
use Rattle.file_record.specs.Layout.{Below, Event, Contents}
use Rattle.file_record.specs.Reader.{read_file, contents_in, shape_of}
use Rattle.file_record.specs.Writer.{Lent, said, writing, Writes}
use Rattle.file_record.specs.declared.Shape.{Shape}

-- what any caller lends: marks are bytes, the portfolio number and the readings have 32 bits
pub record Wide (w : Lent) : Type 0 where
  pub portfolio : w.portfolio < 256 ^ 4
  pub marks : Below 256 w.table.marks
  pub readings : Below (256 ^ 4) w.table.readings

-- the numbers of events, five for each, and so what to lend for a file to say this
unfoldable pub numbers_of : List Event → List ℕ
numbers_of [] = []
numbers_of (v ∷ events) = v.day ∷ v.s ∷ v.e ∷ v.n ∷ v.method ∷ numbers_of events

abbrev pub to_say : Contents → Lent
to_say c =
    record {
      participation = c.participation;
      portfolio = c.portfolio;
      table = c.table;
      moves = c.moves;
      numbers = numbers_of c.events;
    }

-- a file that some call wrote: it stands first in the buffer, and its length was reported
pub record Wrote (w : Lent) (file : List ℕ) : Type 0 where
  pub out : List ℕ
  pub out' : List ℕ
  pub writes : Writes w out (Ok (length file)) out'
  pub first : take (length file) out' ≡ file

pub record WriterLaws : Type 0 where
  -- "report its length"
  pub long : (w : Lent) (file : List ℕ) → Wrote w file
      → length file ≡ 8 + 6 * (length w.moves / 2) + 390 * held_days w.table + 8 * (length w.numbers / 5)
  -- "What is written reads back as the same values"
  pub reads_back : (w : Lent) (file : List ℕ) → Wide w → Wrote w file → (read_file file ≡ Ok (shape_of (said w))) × (to_say (contents_in file) ≡ w)
  -- no two that are accepted give the same file
  pub apart : (w v : Lent) (file : List ℕ) → Wide w → Wide v → Wrote w file → Wrote v file → w ≡ v
  -- "and a file the reader accepts is written again byte for byte": given what it says, and room
  pub again : (file : List ℕ) (shape : Shape) (out : List ℕ) (r : Result ℕ Refusal) (out' : List ℕ) → Below 256 file → read_file file ≡ Ok shape
      → length file ≤ length out → Writes (to_say (contents_in file)) out r out' → (r ≡ Ok (length file)) × (out' ≡ file ++ drop (length file) out)
  -- 13 is given for nothing that a file says
  pub only_then : (file : List ℕ) (shape : Shape) (room : ℕ) → Below 256 file → read_file file ≡ Ok shape
      → writing (to_say (contents_in file)) room ≡ Err Unwritable → ⊥
  -- "nothing is written on any" refusal, and past the file nothing ever is
  pub kept : (w : Lent) (out : List ℕ) (why : Refusal) (out' : List ℕ) → Writes w out (Err why) out' → out' ≡ out
  pub rest : (w : Lent) (out : List ℕ) (size : ℕ) (out' : List ℕ) → Writes w out (Ok size) out' → drop size out' ≡ drop size out
