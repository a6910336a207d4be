-- What a caller written in C is told by include/honeyplank.h of the overlap that an event of a file needs, and from which day on the file's days may be cut.
-- The calendar, the list of moves and the request alone decide, whatever days are held.
use Rattle.std.specs.Prelude.{ℕ, ◌-◌, Bool, not, List, [], ◌∷◌, ◌++◌, map, ℤ, ltb, Option, None, Result, Ok, Err}
use Rattle.base_lists.specs.Lists.{keep, any, least_of, places}
use Rattle.calendar_groups.specs.Holidays.{group}
use Rattle.method.specs.declared.Request.{Request}
use Rattle.method.specs.declared.Refusal.{Refusal}
use Rattle.method.specs.declared.Refusal.TheVariants.{BadRequest, NotYetParticipating}
use Rattle.method.specs.Table.{Day, History, held, history}
use Rattle.method.specs.Method.{whole_reach}
use Rattle.method.specs.Requested.{method_of}
use Rattle.method.specs.Verdict.{good_request, list_refusals}
use Rattle.file_record.specs.declared.Shape.{Shape}
use Rattle.file_record.specs.Reader.{list_in, table_in, request_at, read_file, event_at_place}
use Rattle.host_answer.specs.Names.{told, told_if, refusal_row, row_from, row_after}

-- 14, 4 and 6, the refusals that no day of a table decides
unfoldable pub overlap_tests : List ℕ → Request → List (Bool × Refusal)
overlap_tests moves r = list_refusals moves ++ ((not (good_request r), BadRequest) ∷ (ltb r.event r.participation, NotYetParticipating) ∷ [])

-- so many days before the event always suffice: what refusal 8 carries
abbrev pub enough_days : List ℕ → Request → ℕ
enough_days moves r = whole_reach (method_of (group moves) r)

-- the first of these days
abbrev pub needed_from : List ℕ → Request → ℕ
needed_from moves r = r.event - enough_days moves r

-- how many days are held before an event day that is held; how many always suffice; how many of these are not held; the first of these
unfoldable pub numbers_of : Bool → ℕ → ℕ → ℕ → List (Option ℤ)
numbers_of there before far event = told_if there (told before) ∷ told far ∷ told_if there (told (far - before)) ∷ told (event - far) ∷ []

unfoldable pub overlap_numbers : List ℕ → History Day → Request → List (Option ℤ)
overlap_numbers moves h r = numbers_of (held h r.event) (r.event - h.first) (enough_days moves r) r.event

-- from HP_OVERLAP_HELD on, which is 41
abbrev pub row_at : Result Request Refusal → List ℕ → List (Option ℤ)
row_at (Ok r) file = row_after (overlap_tests (list_in file) r) (row_from 41 (overlap_numbers (list_in file) (history (table_in file)) r))
row_at (Err w) file = refusal_row w

-- of the event at a place of a file
unfoldable pub overlap_row : List ℕ → ℕ → List (Option ℤ)
overlap_row file place = row_at (event_at_place (read_file file) file place) file

-- none of 14, 4 and 6 applies
unfoldable pub is_asked : List ℕ → Request → Bool
is_asked moves r = not (any (λ (p : Bool × Refusal). p.0) (overlap_tests moves r))

-- the days from which such requests need days on
unfoldable pub needed_days : List ℕ → List Request → List ℕ
needed_days moves requests = map (needed_from moves) (keep (is_asked moves) requests)

-- the least of some days; nothing where there is none
unfoldable pub least_told : List ℕ → Option ℤ
least_told [] = None
least_told (d ∷ days) = told (least_of d days)

-- HP_OVERLAP_FROM, the least of all events of a file; nothing of a file that is refused
abbrev pub cut_from : Result Shape Refusal → List ℕ → Option ℤ
cut_from (Ok shape) file = least_told (needed_days (list_in file) (map (request_at file) (places shape.events 0)))
cut_from (Err w) file = None
