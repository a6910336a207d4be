-- What the worked case does not show: the longest event and file, a refused file, two numbers carried, a minus sign, moves. `proofs/Worked` proves it.
use Rattle.std.specs.Prelude.{◌≡◌, [], ◌∷◌, ◌++◌, length, negsuc}
use Rattle.method.specs.declared.Request.{Request}
use Rattle.method.specs.declared.Refusal.TheVariants.{TooFew}
use Rattle.method.specs.Checks.{worked}
use Rattle.file_record.specs.Layout.{pf_record, mv_record}
use Rattle.file_record.specs.Checks.{pf, mv, flat, ev}
use Rattle.listing_lines.specs.Lines.{line_text}
use Rattle.listing_lines.specs.Listing.{event_line, refusal_line, replied_lines, listing, longest}
use Rattle.listing_lines.specs.Worked.{line}

-- over all 96 quarters of the worked case's day
abbrev pub whole_day : Request
whole_day = record { participation = 6900; event = 6972; s = 96; e = 192; n = 96; method = 0 }

pub record Edges : Type 0 where
  -- it is answered, in a line of its own and one for each quarter: 96 have room
  pub whole_day_lines : length (replied_lines [] worked whole_day) ≡ 97
  -- "Event line: .. adjustment numerator.", possibly negative: here -264
  pub negative : line_text (event_line whole_day (6951 ∷ 6965 ∷ []) 21 24 (negsuc 263)) ≡
      line "6972 96 192 days 2 6951 6965 reach 21 over 24 adj -264"
  -- "Refusal line: D, s, e, number and what it carries."
  pub two_carried : line_text (refusal_line whole_day (TooFew 4 8)) ≡ line "6972 96 192 refused 9 4 8"
  -- "A refused file prints only `file refused OFFSET`.": one with a byte after its first record
  pub file_refused : listing (pf_record 6900 77 ++ (0 ∷ [])) ≡ line "file refused 8"
  -- order 2: the first line is as it was, and 14 is a refusal as the others are: 2 May is no fixed-date holiday
  pub moves_held : listing (pf ++ mv) ≡ line "portfolio 77 from 6900 held 0 0"
  pub moves_refused : listing (pf ++ mv_record 8888 8893 ++ flat 6972 ++ ev) ≡ line "portfolio 77 from 6900 held 6972 1" ++ line "6972 152 156 refused 14"
  pub longest_file : longest ≡ 50536
