-- 01, "Record file, listing, host entry": the lines of a file's listing.
use Rattle.std.specs.Prelude.{ℕ, zero, suc, ◌+◌, ◌*◌, List, [], ◌∷◌, ◌++◌, map, length, ℤ, Result, Ok, Err}
use Rattle.base_digits.specs.Digits.{dec, decimal}
use Rattle.base_lists.specs.Ascii.{ascii}
use Rattle.method.specs.declared.Request.{Request}
use Rattle.method.specs.declared.Refusal.{Refusal}
use Rattle.method.specs.declared.Refusal.TheVariants.{BadFile}
use Rattle.method.specs.Adjustment.{rounded}
use Rattle.method.specs.Table.{Table, most_quarters}
use Rattle.method.specs.Verdict.{Reply, refused, answered, number, carries, verdict}
use Rattle.file_record.specs.declared.Shape.{Shape}
use Rattle.file_record.specs.Reader.{dy_bytes, ev_length, most_base, read_file, list_in, table_in, request_at}
use Rattle.listing_lines.specs.Lines.{Field, Line, lines_text}

abbrev pub numbers : List ℕ → List Field
numbers ns = map dec ns

-- "A refused file prints only `file refused OFFSET`."
unfoldable pub refused_line : ℕ → Line
refused_line offset = ascii "file" ∷ ascii "refused" ∷ dec offset ∷ []

-- the offset at which a file is refused, by 11 alone
unfoldable pub offset_of : Refusal → ℕ
offset_of (BadFile at) = at
offset_of other = 0

-- "Header: number, P, F, h."
unfoldable pub header_line : Shape → Line
header_line file =
    ascii "portfolio" ∷ dec file.portfolio ∷ ascii "from" ∷ dec file.participation ∷
    ascii "held" ∷ dec file.first ∷ dec file.days ∷ []

-- "D, s, e", by which the lines of an event open
abbrev pub event_fields : Request → List Field
event_fields r = dec r.event ∷ dec r.s ∷ dec r.e ∷ []

-- "Event line: D, s, e, N, chosen days by rank, reach, denominator, adjustment numerator."
unfoldable pub event_line : Request → List ℕ → ℕ → ℕ → ℤ → Line
event_line r days reach denominator adjustment =
    event_fields r ++ (ascii "days" ∷ dec (length days) ∷ numbers days) ++
    (ascii "reach" ∷ dec reach ∷ ascii "over" ∷ dec denominator ∷ ascii "adj" ∷ decimal adjustment ∷ [])

-- "Quarter line: t, numerator, rounded kW."
unfoldable pub quarter_line : ℕ → ℕ → ℕ → Line
quarter_line denominator t numerator = dec t ∷ dec numerator ∷ dec (rounded numerator denominator) ∷ []

-- those of the quarters from `t` on
unfoldable pub quarter_lines : ℕ → ℕ → List ℕ → List Line
quarter_lines denominator t [] = []
quarter_lines denominator t (k ∷ numerators) = quarter_line denominator t k ∷ quarter_lines denominator (suc t) numerators

-- "Refusal line: D, s, e, number and what it carries."
unfoldable pub refusal_line : Request → Refusal → Line
refusal_line r w = event_fields r ++ (ascii "refused" ∷ dec (number w) ∷ numbers (carries w))

unfoldable pub event_lines : Request → Reply → List Line
event_lines r (refused w) = refusal_line r w ∷ []
event_lines r (answered a) =
    event_line r a.days a.reach a.denominator a.adjusted ∷ quarter_lines a.denominator r.s a.numerators

-- what a request comes to by a list of moves over a table, with room for a day's quarters: refusal 7 is never shown
unfoldable pub replied_lines : List ℕ → Table → Request → List Line
replied_lines moves t r = event_lines r (verdict moves t r most_quarters)

unfoldable pub event_text : List ℕ → Table → Request → List ℕ
event_text moves t r = lines_text (replied_lines moves t r)

-- the lines of so many events, from a place on
unfoldable pub lines_from : List ℕ → ℕ → ℕ → List Line
lines_from file zero place = []
lines_from file (suc count) place = replied_lines (list_in file) (table_in file) (request_at file place) ++ lines_from file count (suc place)

unfoldable pub listing_lines : Result Shape Refusal → List ℕ → List Line
listing_lines (Ok shape) file = header_line shape ∷ lines_from file shape.events 0
listing_lines (Err refusal) file = refused_line (offset_of refusal) ∷ []

-- "The listing program reads a file on standard input.": what it prints
unfoldable pub listing : List ℕ → List ℕ
listing file = lines_text (listing_lines (read_file file) file)

-- the longest file that is as laid down: the most before the days, 16 MV among it, 128 of the longest days, and 64 events
abbrev pub longest : ℕ
longest = most_base + 128 * dy_bytes most_quarters + 64 * ev_length
