-- `day_readings::joined` meets its contract. The invariant: none of the readings passed, and `more`, is above the bits.
use Rattle.std.proofs.Common.{ℕ, ◌+◌, ◌%◌, ◌^◌, ◌<◌, ◌≤◌, get_or}
use Rattle.day_readings.proofs.joined.Given as goal

abbrev pub invariant-loop-reading : goal.invariant-loop-reading
invariant-loop-reading l = (k : ℕ) → k < l.reading-index → (get_or l.block k 0 + l.more) % 2 ^ 32 ≤ l.bits
