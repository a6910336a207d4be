-- Where the ruler ends, and what stands against a ruler quarter of the one day and of the other.
use Prim.Native.Nat.{ℕ, ◌+◌, ◌-◌, ◌≤◌, ◌<◌}
use mathlib.Core.Path.{◌≡◌, sym}
use Rattle.method.specs.Table.{size as size_of}
use Rattle.method.specs.Ruler.{ruler_start, ruler_end, against}
use Rattle.method.proofs.Ruler.{quarter_before, quarter_from}

pub stands_before : (event t : ℕ) {start : ℕ} → start ≡ ruler_start event → t < start → t ≡ against event t
unfolding against
stands_before event t e o = sym (quarter_before event t (rw e at o))

pub stands_from : (event t : ℕ) {start : ℕ} → start ≡ ruler_start event → start ≤ t → t - start ≡ against event t
unfolding against
stands_from event t e o = rw e (sym (quarter_from event t (rw e at o)))

pub ends : (event : ℕ) {start size : ℕ} → start ≡ ruler_start event → size ≡ size_of event → start + size ≡ ruler_end event
unfolding ruler_end
ends event e f = rw (e, f)
