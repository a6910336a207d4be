-- The lines of what a call gives back.
use Rattle.std.specs.Prelude.{ℕ, ◌-◌, min, List, ◌∷◌, take}
use Rattle.method.specs.declared.Request.{Request}
use Rattle.method.specs.Table.{most_quarters}
use Rattle.engine_answer.specs.declared.Answer.{Answer}
use Rattle.listing_lines.specs.Lines.{Line}
use Rattle.listing_lines.specs.Listing.{event_line, quarter_lines}

-- answered, with the numerators of the event's quarters
abbrev pub answer_lines : Request → Answer → List ℕ → List Line
answer_lines r a numerators =
    event_line r (take a.chosen.count a.chosen.days) a.chosen.reach a.denominator a.adjustment ∷
    quarter_lines a.denominator r.s (take (min (r.e - r.s) most_quarters) numerators)
