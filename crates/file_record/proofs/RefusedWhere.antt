-- Where a file is refused: every record before the place is as laid down, and what stands there is not, or is one too many.
use Prim.Native.Nat.{ℕ, ◌+◌, ◌*◌, ◌<◌, ◌≤◌}
use mathlib.Core.Path.{◌≡◌, refl, sym, ◌∙◌}
use mathlib.Core.Bool.{Bool, true, false, cond}
use mathlib.Core.List.{List}
use mathlib.Core.Logic.{◌⊎◌, inl, inr}
use native.Mathlib.Omega.{arith}
use borrow.Author.Tests.{eqb-false}
use lib.Arith.{lt_of_le-ne}
use lib.ListN.{length, drop, length-drop}
use lib.Seq.{drop-drop}
use lib.Dec.{eqb}
use Rattle.file_record.specs.Reader.{is_pf, pf_length, is_mv, mv_length, is_ev, ev_length, is_dy_of, dy_length, moves_from, moves_in, move_start, days_from, events_from}
use Rattle.file_record.specs.Reader.{file_base, first_in, days_in, day_start, event_start, events_in}
use Rattle.file_record.specs.Reader.{good_end, shape_in, read_file}
use Rattle.file_record.specs.Laws.{StopsAt}
use Rattle.file_record.proofs.Starts.{day_start_none, day_start_from, day_start-cons}
use Rattle.file_record.proofs.Records.{day_whole, event_whole}
use Rattle.file_record.proofs.Runs.{run_most, each, next, fits}
use Rattle.file_record.proofs.Files.{base_within, event_start_first, event_start_more}
use Rattle.std.specs.Prelude.{Ok, Err}
use Rattle.method.specs.declared.Refusal.{Refusal}
use Rattle.method.specs.declared.Refusal.TheVariants.{BadFile}

-- the moves of a file, its days, and its events
module _ (file : List ℕ) where
  each_move_in : (k : ℕ) → k < moves_in file → is_mv (drop (move_start k) file) ≡ true
  unfolding moves_in moves_from
  each_move_in k o =
      rw (← drop-drop (mv_length * k) pf_length file)
      (each (λ j. is_mv) (λ j. mv_length) (λ j n. mv_length * n) (λ j. refl) (λ j n. omega arith) 16 0 (drop pf_length file) k o)

  next_move_in : moves_in file < 16 → is_mv (drop (file_base file) file) ≡ false
  unfolding moves_in moves_from file_base
  next_move_in o =
      rw (← drop-drop (mv_length * moves_in file) pf_length file)
      (next (λ j. is_mv) (λ j. mv_length) (λ j n. mv_length * n) (λ j. refl) (λ j n. omega arith) 16 0 (drop pf_length file) o)

  pub each_day_in : (k : ℕ) → k < days_in file → is_dy_of (first_in file + k) (drop (day_start (file_base file) (first_in file) k) file) ≡ true
  unfolding days_in days_from
  each_day_in k o =
      rw (day_start_from (file_base file) (first_in file) k, ← drop-drop (day_start 0 (first_in file) k) (file_base file) file)
      (each is_dy_of dy_length (day_start 0) (day_start_none 0) day_start-cons 128 (first_in file) (drop (file_base file) file) k o)

  next_day_in : days_in file < 128 → is_dy_of (first_in file + days_in file) (drop (event_start file 0) file) ≡ false
  unfolding days_in days_from
  next_day_in o =
      rw (event_start_first file, day_start_from (file_base file) (first_in file) (days_in file), ← drop-drop (day_start 0 (first_in file) (days_in file)) (file_base file) file)
      (next is_dy_of dy_length (day_start 0) (day_start_none 0) day_start-cons 128 (first_in file) (drop (file_base file) file) o)

  days_within : file_base file ≤ length file → event_start file 0 ≤ length file
  unfolding days_in days_from
  days_within opening =
      omega (
        arith,
        fits is_dy_of dy_length (day_start 0) (day_start_none 0) day_start-cons day_whole 128 (first_in file) (drop (file_base file) file),
        length-drop (file_base file) file,
        event_start_first file,
        day_start_from (file_base file) (first_in file) (days_in file),
      )

stops : (file : List ℕ) (at : ℕ) → is_pf file ≡ true → at ≡ event_start file (events_in file) → (at ≡ length file → ⊥) → StopsAt file at
unfolding moves_in moves_from days_in days_from events_in events_from
stops file at e place other =
    let v = events_in file in
    let left = drop (event_start file 0) file in
    let dys : event_start file 0 ≤ length file = days_within file (base_within file e) in
    let evs : ev_length * v ≤ length left = fits (λ j. is_ev) (λ j. ev_length) (λ j k. ev_length * k) (λ j. refl) (λ j k. omega arith) (λ i l t. event_whole l t) 64 0 left in
    record {
      opens = e;
      place = place;
      moves = run_most (λ j. is_mv) (λ j. mv_length) 16 0 (drop pf_length file);
      each_move = each_move_in file;
      days = run_most is_dy_of dy_length 128 (first_in file) (drop (file_base file) file);
      each_day = each_day_in file;
      events = run_most (λ j. is_ev) (λ j. ev_length) 64 0 left;
      each_event = λ i o. rw (event_start_more file i, ← drop-drop (ev_length * i) (event_start file 0) file)
          (each (λ j. is_ev) (λ j. ev_length) (λ j k. ev_length * k) (λ j. refl) (λ j k. omega arith) 64 0 left i o);
      something = lt_of_le-ne (omega (arith, length-drop (event_start file 0) file, event_start_more file v)) other;
      no_move = λ o d z. rw (place, z, event_start_first file, d, day_start_none (file_base file) (first_in file)) (next_move_in file o);
      no_day = λ o z. rw (place, z) (next_day_in file o);
      no_event = λ o. rw (place, event_start_more file v, ← drop-drop (ev_length * v) (event_start file 0) file)
          (next (λ j. is_ev) (λ j. ev_length) (λ j k. ev_length * k) (λ j. refl) (λ j k. omega arith) 64 0 left o);
    }

pub refused_where : (file : List ℕ) (at : ℕ) → read_file file ≡ Err (BadFile at) → ((is_pf file ≡ false) × (at ≡ 0)) ⊎ StopsAt file at
unfolding read_file days_in days_from events_in events_from good_end
refused_where file at t = go (is_pf file) (eqb (good_end file) (length file)) refl refl t
  where
    go : (p q : Bool) → is_pf file ≡ p → eqb (good_end file) (length file) ≡ q
        → cond p (cond q (Ok (shape_in file)) (Err (BadFile (good_end file)))) (Err (BadFile 0)) ≡ Err (BadFile at) → ((is_pf file ≡ false) × (at ≡ 0)) ⊎ StopsAt file at
    go true true e g r = let z : ◌≡◌ {A = ℕ} 0 1 = cc in absurd (omega arith)
    go true false e g r =
        let end : good_end file ≡ at = cc in
        inr (stops file at e (sym end) (λ same. eqb-false (good_end file) (length file) g (end ∙ same)))
    go false q e g r = inl (e, cc)

-- a refusal is 11
pub only_11 : (file : List ℕ) (w : Refusal) → read_file file ≡ Err w → (w ≡ BadFile 0) ⊎ (w ≡ BadFile (good_end file))
unfolding read_file
only_11 file w t = go (is_pf file) (eqb (good_end file) (length file)) t
  where
    go : (p q : Bool) → cond p (cond q (Ok (shape_in file)) (Err (BadFile (good_end file)))) (Err (BadFile 0)) ≡ Err w
        → (w ≡ BadFile 0) ⊎ (w ≡ BadFile (good_end file))
    go true true r = let z : ◌≡◌ {A = ℕ} 0 1 = cc in absurd (omega arith)
    go true false r = inr cc
    go false q r = inl cc
