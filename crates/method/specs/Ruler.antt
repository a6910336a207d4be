-- 01, "The lent table and the request": "three places s, e, n on a two-day ruler where day D-1 is 0 to 95 and day D is 96 to 191". Each event
-- day has its own ruler.
use Rattle.std.specs.Prelude.{ℕ, ◌+◌, ◌-◌, cond, ltb}
use Rattle.method.specs.Table.{size}

-- where day D starts on it, after the quarters of D-1
unfoldable pub ruler_start : ℕ → ℕ
ruler_start event = size (event - 1)

-- where day D, and with it the ruler, ends
unfoldable pub ruler_end : ℕ → ℕ
ruler_end event = ruler_start event + size event

-- which quarter of its day a ruler quarter is
unfoldable pub quarter_of : ℕ → ℕ → ℕ
quarter_of event t = cond (ltb t (ruler_start event)) t (t - ruler_start event)

-- which reading of a window day stands against a ruler quarter: "the reading at quarter t mod 96"
unfoldable pub against : ℕ → ℕ → ℕ
against event t = quarter_of event t
