-- What the tests of a file to be written show, and where its records end.
use Prim.Native.Nat.{ℕ, ◌+◌, ◌-◌, ◌*◌, ◌/◌, ◌≤◌, ◌<◌}
use mathlib.Core.Path.{◌≡◌, refl}
use mathlib.Core.Bool.{true}
use mathlib.Core.List.{List, ◌++◌}
use native.Mathlib.Omega.{arith}
use native.Mathlib.Nat.{sub-zero}
use lib.ListN.{length, take}
use lib.Seq.{length-take-le}
use borrow.Rule.Slice.PartMut.{post_of}
use Rattle.method.specs.declared.Refusal.TheVariants.{NoRoom}
use Rattle.file_record.specs.declared.Shape.{Shape}
use Rattle.std.specs.Prelude.{Ok, Err}
use Rattle.file_record.specs.Layout.{file_of}
use Rattle.file_record.specs.Reader.{move_start, ev_length, shape_base, day_start}
use Rattle.file_record.specs.Writer.{Lent, lent, said, matching, sayable, Writes}
use Rattle.file_record.proofs.Starts.{day_start_most}
use Rattle.file_record.proofs.Writing.{Matches, matches, Says, says, its_length, no_room, wrote}
use Rattle.file_writing.specs.Steps.{Shaped}

-- what both tests let pass, and where its events start
module _ (participation portfolio first : ℕ) (marks readings moves numbers : List ℕ) where
  abbrev shape : Shape
  shape =
      record {
        participation = participation;
        portfolio = portfolio;
        moves = length moves / 2;
        first = first;
        days = length marks;
        events = length numbers / 5;
      }

  pub record Passed (start : ℕ) : Type 0 where
    pub matched : matching first (length marks) (length readings) ≡ true
    pub said_so : sayable participation first (length marks) moves numbers ≡ true
    pub starts : start ≡ day_start (shape_base shape) first (length marks)

  pub passed_by : {start : ℕ} → matching first (length marks) (length readings) ≡ true → sayable participation first (length marks) moves numbers ≡ true
      → start ≡ day_start (shape_base shape) first (length marks) → Passed start
  passed_by m s e = record { matched = m; said_so = s; starts = e }

module _ {participation portfolio first : ℕ} {marks readings moves numbers : List ℕ} {start : ℕ}
    (q : Passed participation portfolio first marks readings moves numbers start) where
  abbrev w : Lent
  w = lent participation portfolio first marks readings moves numbers

  abbrev end : ℕ
  end = start + ev_length * (length numbers / 5)

  match : Matches first (length marks) (length readings)
  match = matches first (length marks) (length readings) q.matched

  say : Says participation first (length marks) moves numbers
  say = says participation first (length marks) moves numbers q.said_so

  end_is : end ≡ length (file_of (said w))
  end_is = let place = q.starts in omega (arith, its_length w match.size)

  pub end_most : end ≤ 50536
  end_most =
      let place = q.starts in
      omega (arith, day_start_most (move_start (length moves / 2)) first (length marks), match.few, say.few, say.few_moves)

  module _ (out : List ℕ) where
    pub too_short : length out < end → Writes w out (Err NoRoom) out
    too_short h = no_room w out q.matched q.said_so (omega (arith, end_is))

    module _ (room : end ≤ length out) where
      pub shaped : Shaped (shape participation portfolio first marks readings moves numbers) start marks readings moves numbers (take (end - 0) out)
      shaped =
          record {
            pairs = refl;
            few = match.few;
            last = say.last;
            size = match.size;
            fields = say.fields;
            events = q.starts;
            whole = rw (sub-zero end) (length-take-le end out room);
          }

      pub written : {file : List ℕ} → file ≡ file_of (said w) → Writes w out (Ok end) (file ++ post_of 0 (end - 0) out)
      written f = wrote w out q.matched q.said_so (omega (arith, end_is)) end_is (rw (f, sub-zero end) refl)
