-- The longest file that is as laid down has 50,536 bytes, and no byte past them is looked at: of a longer file its first 50,537 bytes read as
-- the whole does.
use Prim.Native.Nat.{ℕ, zero, suc, ◌+◌, ◌-◌, ◌*◌, ◌≤◌, ◌<◌}
use mathlib.Core.Path.{◌≡◌, refl, sym, ◌∙◌}
use mathlib.Core.Bool.{Bool}
use mathlib.Core.List.{List, [], ◌∷◌}
use mathlib.Core.Logic.{⊎_elim}
use native.Mathlib.Omega.{arith}
use native.Mathlib.Nat.{sub-zero, zero-sub, suc-sub-suc, suc-mul}
use lib.ListN.{length, take, drop, length-take}
use lib.Seq.{get_or-take, take-nil}
use lib.Dec.{leb}
use borrow.Author.Tests.{le-leb, lt-leb, ne_eqb}
use Rattle.base_lists.proofs.Bools.{lt-or-le}
use Rattle.base_lists.specs.Ascii.{ascii}
use Rattle.method.specs.Table.{most_quarters}
use Rattle.file_record.specs.Reader.{number_at, opens_with, is_record, is_pf, pf_length, is_mv, mv_length, is_dy, dy_bytes, dy_length, dy_day, is_ev, ev_length, run, is_dy_of}
use Rattle.file_record.specs.declared.Shape.{Shape}
use Rattle.std.specs.Prelude.{Ok}
use Rattle.file_record.specs.Reader.{moves_from, moves_in, days_from, events_from, file_base, most_base, first_in, days_in, event_start, events_in, good_end, read_file}
use Rattle.listing_lines.specs.Listing.{longest}
use Rattle.method.proofs.Tables.{size_most}
use Rattle.file_record.proofs.Starts.{day_start_most, base_most}
use Rattle.file_record.proofs.Records.{move_record, event_record}
use Rattle.file_record.proofs.Runs.{run_most}
use Rattle.file_record.proofs.Files.{event_start_first, event_start_more, end_is_length}

drop-take : {A : Type 0} (k n : ℕ) (l : List A) → drop k (take n l) ≡ take (n - k) (drop k l)
drop-take zero n l = rw sub-zero
drop-take (suc k) zero l = rw zero-sub
drop-take (suc k) (suc n) [] = rw take-nil
drop-take (suc k) (suc n) (x ∷ l) = rw suc-sub-suc (drop-take k n l)

-- ---- tests and numbers of a record look at no byte past it
number_cut : (width at n : ℕ) (l : List ℕ) → at + width ≤ n → number_at width at (take n l) ≡ number_at width at l
unfolding number_at
number_cut zero at n l h = refl
number_cut (suc width) at n l h = rw (get_or-take n l at 0 (omega arith), number_cut width (suc at) n l (omega arith))

opens_cut : (mark : List ℕ) (n : ℕ) (l : List ℕ) → 2 ≤ n → opens_with mark (take n l) ≡ opens_with mark l
unfolding opens_with
opens_cut mark n l h = rw (get_or-take n l 0 0 (omega arith), get_or-take n l 1 0 (omega arith))

leb_cut : (k n : ℕ) (l : List ℕ) → k ≤ n → leb k (length (take n l)) ≡ leb k (length l)
leb_cut k n l h =
    ⊎_elim (λ (o : length l < k). lt-leb k (length (take n l)) (rw length-take (omega arith)) ∙ sym (lt-leb k (length l) o))
    (λ (o : k ≤ length l). le-leb k (length (take n l)) (rw length-take (omega arith)) ∙ sym (le-leb k (length l) o)) (lt-or-le (length l) k)

record_cut : (size : ℕ) (mark : List ℕ) (n : ℕ) (l : List ℕ) → 2 ≤ n → size ≤ n → is_record size mark (take n l) ≡ is_record size mark l
unfolding is_record
record_cut size mark n l two h = rw (leb_cut size n l h, opens_cut mark n l two)

day_cut : (n : ℕ) (l : List ℕ) → dy_bytes most_quarters ≤ n → is_dy (take n l) ≡ is_dy l
unfolding is_dy
day_cut n l h =
    let most : dy_length (dy_day l) ≤ n = omega (arith, size_most (dy_day l)) in
    rw (number_cut 2 2 n l (omega arith), record_cut (dy_length (dy_day l)) (ascii "DY") n l (omega arith) most, get_or-take n l 5 0 (omega arith))

day_of_cut : (day n : ℕ) (l : List ℕ) → dy_bytes most_quarters ≤ n → is_dy_of day (take n l) ≡ is_dy_of day l
unfolding is_dy_of
day_of_cut day n l h = rw (day_cut n l h, number_cut 2 2 n l (omega arith))

move_cut : (n : ℕ) (l : List ℕ) → mv_length ≤ n → is_mv (take n l) ≡ is_mv l
move_cut n l h = rw (move_record (take n l), move_record l) (record_cut mv_length (ascii "MV") n l (omega arith) h)

event_cut : (n : ℕ) (l : List ℕ) → ev_length ≤ n → is_ev (take n l) ≡ is_ev l
event_cut n l h = rw (event_record (take n l), event_record l) (record_cut ev_length (ascii "EV") n l (omega arith) h)

-- ---- nor does a run of records, each of at most `each` bytes
module _ (good : ℕ → List ℕ → Bool) (record_length : ℕ → ℕ) (each : ℕ) (most_each : (i : ℕ) → record_length i ≤ each)
    (seen : (i n : ℕ) (l : List ℕ) → each ≤ n → good i (take n l) ≡ good i l) where
  run_cut : (most i n : ℕ) (l : List ℕ) → most * each ≤ n → run good record_length most i (take n l) ≡ run good record_length most i l
  unfolding run
  run_cut zero i n l h = refl
  run_cut (suc most) i n l h =
      let size : suc most * each ≡ most * each + each = suc-mul most each in
      let room : most * each ≤ n - record_length i = omega (arith, most_each i) in
      rw (seen i n l (omega arith), drop-take (record_length i) n l, run_cut most (suc i) (n - record_length i) (drop (record_length i) l) room)

day_most : (day : ℕ) → dy_length day ≤ dy_bytes most_quarters
day_most day = omega (arith, size_most day)

days_most : (file : List ℕ) → days_in file ≤ 128
unfolding days_in days_from
days_most file = run_most is_dy_of dy_length 128 (first_in file) (drop (file_base file) file)

events_most : (file : List ℕ) → events_in file ≤ 64
unfolding events_in events_from
events_most file = run_most (λ i. is_ev) (λ i. ev_length) 64 0 (drop (event_start file 0) file)

start_most : (file : List ℕ) → event_start file 0 ≤ most_base + 128 * dy_bytes most_quarters
start_most file =
    omega (arith, event_start_first file, day_start_most (file_base file) (first_in file) (days_in file), base_most file, days_most file)

end_most : (file : List ℕ) → good_end file ≤ longest
unfolding good_end
end_most file = omega (arith, event_start_more file (events_in file), start_most file, events_most file)

pub file_most : (file : List ℕ) (shape : Shape) → read_file file ≡ Ok shape → length file ≤ longest
unfolding good_end
file_most file shape r = omega (arith, end_is_length file shape r, end_most file)

-- ---- nor does the file
module _ (n : ℕ) (file : List ℕ) (enough : longest < n) where
  moves_cut : moves_in (take n file) ≡ moves_in file
  unfolding moves_in moves_from
  moves_cut =
      rw (drop-take pf_length n file)
      (run_cut (λ i. is_mv) (λ i. mv_length) mv_length (λ i. omega arith) (λ i. move_cut) 16 0 (n - pf_length) (drop pf_length file) (omega arith))

  base_cut : file_base (take n file) ≡ file_base file
  unfolding file_base
  base_cut = rw moves_cut

  left_cut : drop (file_base (take n file)) (take n file) ≡ take (n - file_base file) (drop (file_base file) file)
  left_cut = rw base_cut (drop-take (file_base file) n file)

  enough_left : 128 * dy_bytes most_quarters ≤ n - file_base file
  enough_left = omega (arith, base_most file)

  first_cut : first_in (take n file) ≡ first_in file
  unfolding first_in
  first_cut =
      let left = drop (file_base file) file in
      let room = enough_left in
      rw (left_cut, day_cut (n - file_base file) left (omega arith), number_cut 2 2 (n - file_base file) left (omega arith))

  days_cut : days_in (take n file) ≡ days_in file
  unfolding days_in days_from
  days_cut =
      rw (first_cut, left_cut)
      (run_cut is_dy_of dy_length (dy_bytes most_quarters) day_most day_of_cut 128 (first_in file) (n - file_base file) (drop (file_base file) file) enough_left)

  start_cut : (i : ℕ) → event_start (take n file) i ≡ event_start file i
  unfolding event_start
  start_cut i = rw (base_cut, first_cut, days_cut)

  events_cut : events_in (take n file) ≡ events_in file
  unfolding events_in events_from
  events_cut =
      let start = start_most file in
      rw (start_cut 0, drop-take (event_start file 0) n file)
      (run_cut (λ i. is_ev) (λ i. ev_length) ev_length (λ i. omega arith) (λ i. event_cut) 64 0 (n - event_start file 0) (drop (event_start file 0) file) (omega arith))

  end_cut : good_end (take n file) ≡ good_end file
  unfolding good_end
  end_cut = rw events_cut (start_cut (events_in file))

  pub read_cut : longest < length file → read_file (take n file) ≡ read_file file
  unfolding read_file is_pf
  read_cut h =
      let size : longest < length (take n file) = rw length-take (omega arith) in
      rw (
        record_cut pf_length (ascii "PF") n file (omega arith) (omega arith),
        end_cut,
        ne_eqb (good_end file) (length (take n file)) (λ e. omega (arith, end_most file)),
        ne_eqb (good_end file) (length file) (λ e. omega (arith, end_most file)),
      )
