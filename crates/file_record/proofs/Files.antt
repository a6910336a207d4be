-- One law for each way out of reading a file, and what an accepted file has.
use Prim.Native.Nat.{ℕ, ◌+◌, ◌*◌, ◌<◌, ◌≤◌}
use mathlib.Core.Path.{◌≡◌, refl, sym, ◌∙◌, ap}
use mathlib.Core.Bool.{Bool, true, false, cond}
use mathlib.Core.List.{List}
use native.Mathlib.Omega.{arith}
use borrow.Author.Tests.{eq-eqb, ne_eqb, eqb-true}
use lib.ListN.{length, drop, length-drop}
use lib.Dec.{eqb}
use Rattle.base_lists.specs.Ascii.{ascii}
use Rattle.file_record.specs.declared.Shape.{Shape}
use Rattle.file_record.specs.Reader.{number_at, is_record, is_pf, pf_length, is_mv, mv_length, is_dy, is_ev, is_dy_of, dy_length, dy_day, ev_length, moves_from, days_from, events_from}
use Rattle.file_record.specs.Reader.{moves_in, move_start, file_base, first_in, days_in, day_start, event_start, events_in, good_end, shape_in, read_file}
use Rattle.file_record.specs.Laws.{Accepted}
use Rattle.file_record.proofs.Starts.{base_is}
use Rattle.file_record.proofs.Records.{whole_record, move_whole, day_cut, day_of_is, named_day}
use Rattle.file_record.proofs.Runs.{run_most, fits}
use Rattle.std.specs.Prelude.{Ok, Err}
use Rattle.method.specs.declared.Refusal.TheVariants.{BadFile}

-- the DY start within a file that opens with a PF
pub base_within : (file : List ℕ) → is_pf file ≡ true → file_base file ≤ length file
unfolding is_pf file_base moves_in moves_from
base_within file t =
    let opening = whole_record pf_length (ascii "PF") file t in
    omega (
      arith,
      fits (λ j. is_mv) (λ j. mv_length) (λ j k. mv_length * k) (λ j. refl) (λ j k. omega arith) (λ i l m. move_whole l m) 16 0 (drop pf_length file),
      length-drop pf_length file,
    )

-- the first day: of bytes that no DY has room in, of a DY, and of something else
abbrev pub first_of : List ℕ → ℕ
first_of left = cond (is_dy left) (dy_day left) 0

pub first_cut : (file : List ℕ) (at : ℕ) → length file < at + 6 → 0 ≡ first_of (drop at file)
first_cut file at h = let o : length (drop at file) < 6 = omega (arith, length-drop at file) in rw (day_cut (drop at file) o)

pub first_named : (left : List ℕ) {day : ℕ} → day ≡ dy_day left → is_dy_of day left ≡ true → day ≡ first_of left
first_named left {day} e t = rw (day_of_is day left t) e

pub first_other : (left : List ℕ) {day : ℕ} → day ≡ dy_day left → is_dy_of day left ≡ false → 0 ≡ first_of left
first_other left {day} e t = rw (sym (named_day left) ∙ (rw e at t))

-- where an EV starts, and where the first does
pub event_start_is : (file : List ℕ) (i : ℕ) → event_start file i ≡ day_start (file_base file) (first_in file) (days_in file) + ev_length * i
unfolding event_start
event_start_is file i = refl

pub event_start_more : (file : List ℕ) (i : ℕ) → event_start file i ≡ event_start file 0 + ev_length * i
event_start_more file i = omega (arith, event_start_is file i, event_start_is file 0)

pub event_start_first : (file : List ℕ) → event_start file 0 ≡ day_start (file_base file) (first_in file) (days_in file)
event_start_first file = omega (arith, event_start_is file 0)

-- where the DY start, from the number of MV
pub base_from : (file : List ℕ) {moves base : ℕ} → moves ≡ moves_in file → base ≡ move_start moves → base ≡ file_base file
unfolding file_base
base_from file m g = rw (g, m) refl

-- refused at 0: an empty or cut file, and a foreign one
pub file_foreign : (file : List ℕ) → is_record pf_length (ascii "PF") file ≡ false → Err (BadFile 0) ≡ read_file file
unfolding read_file is_pf
file_foreign file t = rw t

-- the first day, from where the DY start
pub first_from : (file : List ℕ) {base first : ℕ} → base ≡ file_base file → first ≡ first_of (drop base file) → first ≡ first_in file
unfolding first_in
first_from file g f = rw g at f

module _ (file : List ℕ) {moves base first days start events : ℕ} (m : moves ≡ moves_in file) (g : base ≡ move_start moves) (f : first ≡ first_in file)
    (d : days ≡ days_from first (drop base file)) (s : start ≡ day_start base first days) (v : events ≡ events_from (drop start file)) where
  b : base ≡ file_base file
  b = base_from file m g

  days_are : days ≡ days_in file
  unfolding days_in
  days_are = rw (b, f) at d

  start_is : start ≡ event_start file 0
  start_is = s ∙ (rw (b, f, days_are) (sym (event_start_first file)))

  events_are : events ≡ events_in file
  unfolding events_in
  events_are = v ∙ ap (λ (x : ℕ). events_from (drop x file)) start_is

  end_is : start + ev_length * events ≡ good_end file
  unfolding good_end
  end_is = omega (arith, event_start_more file (events_in file), start_is, events_are)

  -- the records end where the file does
  pub file_good : {participation portfolio : ℕ} → is_record pf_length (ascii "PF") file ≡ true → start + ev_length * events ≡ length file
      → participation ≡ number_at 2 2 file → portfolio ≡ number_at 4 4 file
      → Ok (record { participation = participation; portfolio = portfolio; moves = moves; first = first; days = days; events = events }) ≡ read_file file
  unfolding read_file is_pf shape_in
  file_good t e p n =
      rw (t, eq-eqb (good_end file) (length file) (sym end_is ∙ e), p, n, m, f, ← days_are, ← events_are)

  pub file_bad : is_record pf_length (ascii "PF") file ≡ true → (start + ev_length * events ≡ length file → ⊥)
      → Err (BadFile (start + ev_length * events)) ≡ read_file file
  unfolding read_file is_pf
  file_bad t e =
      rw (t, ne_eqb (good_end file) (length file) (λ same. e (end_is ∙ same)), end_is)

-- what an accepted file has
pub shape_fits : (file : List ℕ) (shape : Shape) → read_file file ≡ Ok shape → Accepted file shape
unfolding read_file shape_in good_end moves_in moves_from days_in days_from events_in events_from
shape_fits file shape t = go (is_pf file) (eqb (good_end file) (length file)) refl refl t
  where
    go : (p q : Bool) → is_pf file ≡ p → eqb (good_end file) (length file) ≡ q → cond p (cond q (Ok (shape_in file)) (Err (BadFile (good_end file)))) (Err (BadFile 0)) ≡ Ok shape
        → Accepted file shape
    go true true e g r =
        let same : shape ≡ shape_in file = cc in
        let end : event_start file (events_in file) ≡ length file = eqb-true (good_end file) (length file) g in
        record {
          is_shape = same;
          opens = e;
          moves = rw same (run_most (λ i. is_mv) (λ i. mv_length) 16 0 (drop pf_length file));
          days = rw same (run_most is_dy_of dy_length 128 (first_in file) (drop (file_base file) file));
          events = rw same (run_most (λ i. is_ev) (λ i. ev_length) 64 0 (drop (event_start file 0) file));
          whole = rw (base_is file same, same) (sym (event_start_is file (events_in file)) ∙ end);
        }
    go true false e g r = let z : ◌≡◌ {A = ℕ} 0 1 = cc in absurd (omega arith)
    go false q e g r = let z : ◌≡◌ {A = ℕ} 0 1 = cc in absurd (omega arith)

pub end_is_length : (file : List ℕ) (shape : Shape) → read_file file ≡ Ok shape → event_start file (events_in file) ≡ length file
unfolding shape_in
end_is_length file shape r =
    let q : Accepted file shape = shape_fits file shape r in
    event_start_is file (events_in file) ∙ (rw (base_is file q.is_shape, q.is_shape) at q.whole)
