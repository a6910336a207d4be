-- The laws of the writer, proved.
use Prim.Native.Nat.{ℕ, ◌+◌, ◌*◌, ◌/◌, ◌≤◌}
use mathlib.Core.Path.{◌≡◌, refl, sym, ◌∙◌, ap}
use mathlib.Core.Bool.{Bool, true, false, cond}
use mathlib.Core.List.{List, ◌++◌}
use native.Mathlib.Omega.{arith}
use lib.ListN.{length, take, drop}
use lib.Dec.{leb}
use lib.Seq.{take_at, drop_at}
use Rattle.base_lists.proofs.Unique.{unique}
use Rattle.method.specs.declared.Refusal.{Refusal}
use Rattle.method.specs.declared.Refusal.TheVariants.{NoRoom, Unwritable}
use Rattle.method.specs.Table.{held_days}
use Rattle.method.proofs.Tables.{offset_is}
use Rattle.file_record.specs.Layout.{Below, file_of}
use Rattle.file_record.specs.Reader.{move_start, read_file, contents_in, shape_of}
use Rattle.file_record.specs.Writer.{Lent, said, writing, leaving, Writes}
use Rattle.file_record.specs.WriterLaws.{Wide, to_say, Wrote, WriterLaws}
use Rattle.file_record.specs.declared.Shape.{Shape}
use Rattle.file_record.proofs.Starts.{day_start_is}
use Rattle.file_record.proofs.ReadsBack.{reads_back as file_reads_back}
use Rattle.file_record.proofs.WrittenAgain.{written_again}
use Rattle.file_record.proofs.Limits.{says_what_fits}
use Rattle.file_record.proofs.Writing.{numbers_again, events_again, its_length, Accepts, accepts, fits_file, fits_matches, fits_says, wrote}
use Rattle.std.specs.Prelude.{Result, Ok, Err}

-- no two results meet the writer's contract
pub writes_unique : {w : Lent} {out : List ℕ} {r r' : Result ℕ Refusal} {after after' : List ℕ} → Writes w out r after → Writes w out r' after'
    → (r ≡ r') × (after ≡ after')
writes_unique p q = (unique p.result q.result, unique p.output q.output)

-- what is written stands first, and the rest is kept
module _ (w : Lent) (out : List ℕ) (size : ℕ) (out' : List ℕ) (q : Writes w out (Ok size) out') where
  file_first : out' ≡ file_of (said w) ++ drop size out
  file_first = q.output ∙ unfold leaving in ap (λ (r : Result ℕ Refusal). leaving r (file_of (said w)) out) (sym q.result)

  its_size : size ≡ length (file_of (said w))
  its_size = (accepts w (length out) size q.result).is

  file_is : take size out' ≡ file_of (said w)
  file_is = rw file_first (take_at (file_of (said w)) (drop size out) size (sym its_size))

  rest_kept : drop size out' ≡ drop size out
  rest_kept = rw file_first (drop_at (file_of (said w)) (drop size out) size (sym its_size))

-- a file that was written
module _ (w : Lent) (file : List ℕ) where
  module _ (q : Wrote w file) where
    accepted : Accepts w (length q.out) (length file)
    accepted = accepts w (length q.out) (length file) q.writes.result

    it_is : file ≡ file_of (said w)
    it_is = sym q.first ∙ file_is w q.out (length file) q.out' q.writes

    long_is : length file ≡ 8 + 6 * (length w.moves / 2) + 390 * held_days w.table + 8 * (length w.numbers / 5)
    long_is =
        omega (
          arith,
          accepted.is,
          its_length w accepted.match.size,
          day_start_is (move_start (length w.moves / 2)) w.table.first (held_days w.table),
          offset_is w.table.first (held_days w.table),
        )

  back : Wide w → Wrote w file → (read_file file ≡ Ok (shape_of (said w))) × (to_say (contents_in file) ≡ w)
  back wide q =
      let b = file_reads_back (said w) (fits_file w wide (accepted q)) in
      (rw (it_is q) b.0, rw (it_is q) (ap to_say b.1 ∙ rw (numbers_again w.numbers (accepted q).say.five) refl))

-- refused, the buffer is kept
refused_kept : (w : Lent) (out : List ℕ) (why : Refusal) (out' : List ℕ) → Writes w out (Err why) out' → out' ≡ out
unfolding leaving
refused_kept w out why out' q = q.output ∙ ap (λ (r : Result ℕ Refusal). leaving r (file_of (said w)) out) (sym q.result)

-- what a file says
module _ (file : List ℕ) (shape : Shape) (bytes : Below 256 file) (r : read_file file ≡ Ok shape) where
  says_so : said (to_say (contents_in file)) ≡ contents_in file
  says_so = rw (events_again (contents_in file).events) refl

  same_file : file_of (said (to_say (contents_in file))) ≡ file
  same_file = ap file_of says_so ∙ written_again file shape bytes r

  again_is : (out : List ℕ) (given : Result ℕ Refusal) (out' : List ℕ) → length file ≤ length out → Writes (to_say (contents_in file)) out given out'
      → (given ≡ Ok (length file)) × (out' ≡ file ++ drop (length file) out)
  again_is out given out' room q =
      let c = contents_in file in
      let fits = says_what_fits file shape bytes r in
      writes_unique q (wrote (to_say c) out (fits_matches c fits) (fits_says c fits) (rw same_file room) (sym (ap length same_file)) (rw same_file refl))

  never_unwritable : (room : ℕ) → writing (to_say (contents_in file)) room ≡ Err Unwritable → ⊥
  unfolding writing
  never_unwritable room e =
      let c = contents_in file in
      let fits = says_what_fits file shape bytes r in
      go (leb (length (file_of (said (to_say c)))) room) (rw (fits_matches c fits, fits_says c fits) at e)
    where
      go : (f : Bool) → cond f (Ok (length (file_of (said (to_say (contents_in file)))))) (Err NoRoom) ≡ Err Unwritable → ⊥
      go true e = let z : ◌≡◌ {A = ℕ} 0 1 = cc in omega arith
      go false e = let z : ◌≡◌ {A = ℕ} 0 1 = cc in omega arith

apart_is : (w v : Lent) (file : List ℕ) → Wide w → Wide v → Wrote w file → Wrote v file → w ≡ v
apart_is w v file wide wide' q q' = sym (back w file wide q).1 ∙ (back v file wide' q').1

pub writer_laws : WriterLaws
writer_laws =
    record {
      long = long_is;
      reads_back = back;
      apart = apart_is;
      again = λ file shape out given out' bytes r. again_is file shape bytes r out given out';
      only_then = λ file shape room bytes r. never_unwritable file shape bytes r room;
      kept = refused_kept;
      rest = rest_kept;
    }
