-- The calls that the demands speak of, and what they give back.
use Rattle.std.specs.Prelude.{ℕ, ◌/◌, List, reverse, length, get_or, Result, Ok, Err}
use Rattle.method.specs.declared.Request.{Request}
use Rattle.method.specs.declared.Refusal.{Refusal}
use Rattle.method.specs.Table.{Table}
use Rattle.method.specs.Verdict.{Reply, carries}
use Rattle.file_record.specs.Reader.{list_in, table_in, request_at}
use Rattle.engine_answer.specs.declared.Answer.{Answer}
use Rattle.engine_answer.specs.Answer.{Answers}
use Rattle.table_bytes.specs.Output.{AnswersInBytes}
use Rattle.host_answer.specs.Telling.{number_of}
use Rattle.base_bytes.specs.Bytes.{reading_bytes}

-- a request by a list of moves over a lent table (`table_baseline::baseline`, and `hp_baseline_table` for C), or the event at a place of a file (`file_baseline::file_baseline`, and
-- `hp_baseline` for C)
pub data Call : Type 0 where
  over_table : List ℕ → Table → Request → Call
  of_file : List ℕ → ℕ → Call

-- its list of moves, its extract, and its request
abbrev pub moves : Call → List ℕ
moves (over_table list t r) = list
moves (of_file file place) = list_in file

abbrev pub extract : Call → Table
extract (over_table list t r) = t
extract (of_file file place) = table_in file

abbrev pub request : Call → Request
request (over_table list t r) = r
request (of_file file place) = request_at file place

-- how many places of the output a numerator takes, how numerators stand there, and for how many there is room
abbrev pub per_quarter : Call → ℕ
per_quarter (over_table list t r) = 1
per_quarter (of_file file place) = 4

abbrev pub stand : Call → List ℕ → List ℕ
stand (over_table list t r) numerators = numerators
stand (of_file file place) numerators = reading_bytes numerators

abbrev pub room : Call → List ℕ → ℕ
room (over_table list t r) out = length out
room (of_file file place) out = length out / 4

-- the result `a`, and the output that was `out` before and is `after` now, are those of a reply
abbrev pub Gets : Call → Reply → Result Answer Refusal → List ℕ → List ℕ → Type 0
Gets (over_table list t r) reply a out after = Answers reply a out after
Gets (of_file file place) reply a out after = AnswersInBytes reply a out after

-- "it gets 0 or the refusal number"
abbrev pub result : Result Answer Refusal → ℕ
result a = number_of a

-- the reach that is reported: an answer's own, else the last number that 9 or 10 carries
abbrev pub reported : Result Answer Refusal → ℕ
reported (Ok a) = a.chosen.reach
reported (Err w) = get_or (reverse (carries w)) 0 0
