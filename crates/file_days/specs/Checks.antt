-- What a file says of a day, on bytes: both sides of the days that it holds and of the quarters of a day, and a file that is refused.
use Rattle.std.specs.Prelude.{ℕ, ◌≡◌, List, [], ◌∷◌, ◌++◌, take, replicate, Option, Some, None}
use Rattle.file_record.specs.Layout.{dy_record}
use Rattle.file_record.specs.Reader.{read_file}
use Rattle.file_record.specs.Checks.{pf, ev, flat}
use Rattle.file_days.specs.HeldDay.{mark_in, reading_in}

-- day 6951, flat, and day 6952 with an outage and the last of its readings missing
unfoldable pub two_days : List ℕ
two_days = pf ++ flat 6951 ++ dy_record 6952 2 (replicate 95 500 ++ (4294967295 ∷ [])) ++ ev

abbrev pub mark : List ℕ → ℕ → Option ℕ
mark file day = mark_in (read_file file) file day

abbrev pub reading : List ℕ → ℕ → ℕ → Option ℕ
reading file day quarter = reading_in (read_file file) file day quarter

pub record Checks : Type 0 where
  pub mark_before : mark two_days 6950 ≡ None
  pub mark_first : mark two_days 6951 ≡ Some 0
  pub mark_last : mark two_days 6952 ≡ Some 2
  pub mark_after : mark two_days 6953 ≡ None
  pub mark_refused : mark (take 405 two_days) 6951 ≡ None
  pub reading_first : reading two_days 6951 0 ≡ Some 1000
  pub reading_next : reading two_days 6952 94 ≡ Some 500
  pub reading_missing : reading two_days 6952 95 ≡ Some 4294967295
  pub reading_past : reading two_days 6951 96 ≡ None
  pub reading_after : reading two_days 6953 0 ≡ None
  pub reading_refused : reading (take 405 two_days) 6951 0 ≡ None
