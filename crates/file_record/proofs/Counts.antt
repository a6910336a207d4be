-- The runs of a file's MV and EV, as the code counts them: by the places where they start.
use Prim.Native.Nat.{ℕ, ◌+◌, ◌*◌}
use mathlib.Core.Path.{◌≡◌, refl}
use mathlib.Core.List.{List}
use native.Mathlib.Omega.{arith}
use lib.ListN.{drop}
use Rattle.std.specs.List.{prefix_len, range_with_len}
use Rattle.file_record.specs.Reader.{mv_length, is_mv, moves_from, moves_in, move_start, ev_length, is_ev, events_from}
use Rattle.file_record.proofs.Runs.{run_from}

pub moves_counted : (file : List ℕ) → prefix_len (λ k. is_mv (drop (move_start k) file)) (range_with_len 0 16) ≡ moves_in file
unfolding moves_in moves_from
moves_counted file = run_from (λ i. is_mv) (λ i. mv_length) file 0 move_start (λ k. omega arith) 16 refl

pub events_counted : (file : List ℕ) (start : ℕ) → prefix_len (λ i. is_ev (drop (start + ev_length * i) file)) (range_with_len 0 64) ≡ events_from (drop start file)
unfolding events_from
events_counted file start = run_from (λ i. is_ev) (λ i. ev_length) file 0 (λ i. start + ev_length * i) (λ k. omega arith) 64 (omega arith)
