-- 01, "Choosing the days": what a relevant day is, with the word by which it is ranked.
use Rattle.std.specs.Prelude.{ℕ, ◌+◌, ◌-◌, ◌*◌, ◌%◌, ◌^◌, cond, List, Option, Some, None}
use Rattle.method.specs.declared.Request.{Request}
use Rattle.method.specs.Table.{Day}
use Rattle.method.specs.Eligible.{eligible, spare, event_sum}
use Rattle.engine_judging.specs.declared.Judged.{Judged}
use Rattle.engine_judging.specs.declared.Judged.TheVariants.{Eligible, Spare}

-- what a mark and readings say of a day
abbrev pub day_from : ℕ → List ℕ → Day
day_from mark readings = record { mark = mark; readings = readings }

-- the word of the day `back` days before the event, as a number of 64 bits: its sum, and how near it lies
unfoldable pub word_at : Request → ℕ → Day → ℕ
word_at request back day = (64 * event_sum request day + (46 - back)) % 2 ^ 64

unfoldable pub judged_at : Request → ℕ → Day → Option Judged
judged_at request back day =
    cond (eligible day) (Some (Eligible (word_at request back day))) (cond (spare day) (Some (Spare (word_at request back day))) None)
