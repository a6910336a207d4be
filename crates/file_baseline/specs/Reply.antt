-- 01, "Record file, listing, host entry": "calls one entry with the file as bytes, the event's place from 0 and a byte buffer for 4-byte
-- little-endian numerators".
use Rattle.std.specs.Prelude.{ℕ, ◌/◌, List, Result, Ok, Err}
use Rattle.method.specs.declared.Request.{Request}
use Rattle.method.specs.declared.Refusal.{Refusal}
use Rattle.method.specs.Table.{Table}
use Rattle.method.specs.Verdict.{Reply, refused, verdict}
use Rattle.file_record.specs.Reader.{read_file, list_in, table_in, event_at_place}

-- "tested in this order": 11, 12, then 1 to 10 over the file's table, 14 among them by its list of moves. A buffer of `room` bytes holds `room / 4` numerators.
abbrev pub reply_to : Result Request Refusal → List ℕ → Table → ℕ → Reply
reply_to (Err refusal) moves table room = refused refusal
reply_to (Ok request) moves table room = verdict moves table request (room / 4)

unfoldable pub file_reply : List ℕ → ℕ → ℕ → Reply
file_reply file place room = reply_to (event_at_place (read_file file) file place) (list_in file) (table_in file) room
