-- The overlap on files: 01's first event, on a Saturday, and one on a weekday, with days and without, refused and not.
use Rattle.std.specs.Prelude.{ℕ, ◌≡◌, List, [], ◌∷◌, ◌++◌, take, ℤ, Option, None}
use Rattle.file_record.specs.Layout.{pf_record, ev_record}
use Rattle.file_record.specs.Reader.{read_file}
use Rattle.file_record.specs.Checks.{pf, mv, ev, flat}
use Rattle.host_answer.specs.Names.{told, refusal_row, row_from}
use Rattle.method.specs.declared.Refusal.TheVariants.{BadFile, NoEvent, BadRequest, NotYetParticipating, BadMoves}
use Rattle.host_overlap.specs.Overlap.{overlap_row, cut_from}

-- Wednesday 30 January 2019, by Average X of Y
unfoldable pub wednesday : List ℕ
wednesday = ev_record (record { day = 6969; s = 152; e = 156; n = 148; method = 1 })

-- a method that is none
unfoldable pub unknown : List ℕ
unknown = take 7 ev ++ (2 ∷ [])

abbrev pub told_event : Option ℤ → Option ℤ → Option ℤ → Option ℤ → List (Option ℤ)
told_event held suffices more day = row_from 41 (held ∷ suffices ∷ more ∷ day ∷ [])

abbrev pub cut : List ℕ → Option ℤ
cut file = cut_from (read_file file) file

pub record Checks : Type 0 where
  -- Saturday 2 February 2019: the Saturdays back to 22 December; no day is held, two are, more than enough are
  pub no_days : overlap_row (pf ++ ev) 0 ≡ told_event None (told 42) None (told 6930)
  pub two_days : overlap_row (pf ++ flat 6971 ++ flat 6972 ++ ev) 0 ≡ told_event (told 1) (told 42) (told 41) (told 6930)
  pub day_before : overlap_row (pf ++ flat 6971 ++ ev) 0 ≡ told_event None (told 42) None (told 6930)
  -- the weekdays back to 17 December, the day 44 days before it, the day 45 days before it being a Sunday
  pub weekday : overlap_row (pf ++ ev ++ wednesday) 1 ≡ told_event None (told 44) None (told 6925)
  -- P is the Monday 9 days before it, and no earlier day is relevant
  pub since : overlap_row (pf_record 6960 77 ++ wednesday) 0 ≡ told_event None (told 9) None (told 6960)
  -- 11 and 12; 14, 4 and 6
  pub refused : overlap_row (take 7 pf) 0 ≡ refusal_row (BadFile 0)
  pub none_there : overlap_row (pf ++ ev) 1 ≡ refusal_row NoEvent
  pub bad_moves : overlap_row (pf ++ mv ++ mv ++ ev) 0 ≡ refusal_row BadMoves
  pub bad_request : overlap_row (pf ++ unknown) 0 ≡ refusal_row BadRequest
  pub not_yet : overlap_row (pf_record 6973 77 ++ ev) 0 ≡ refusal_row NotYetParticipating
  -- the least of the events that need days; none
  pub one_cut : cut (pf ++ ev) ≡ told 6930
  pub least_cut : cut (pf ++ ev ++ unknown ++ wednesday) ≡ told 6925
  pub no_cut : cut (pf ++ unknown) ≡ None
  pub empty_cut : cut pf ≡ None
  pub refused_cut : cut (take 7 pf) ≡ None
