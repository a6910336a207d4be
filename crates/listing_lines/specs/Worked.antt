-- 01's worked case, "The case below prints whole.": its file and its listing. `proofs/Worked` proves it.
use Rattle.std.specs.Prelude.{ℕ, List, [], ◌∷◌, ◌++◌}
use Prim.Native.String.{String}
use Rattle.base_lists.specs.Ascii.{ascii}
use Rattle.method.specs.Checks.{worked}
use Rattle.file_record.specs.Layout.{Event, Contents}
use Rattle.listing_lines.specs.Lines.{newline}

-- an hour from 15:00, notified an hour before
abbrev at15 : ℕ → Event
at15 day = record { day = day; s = 152; e = 156; n = 148; method = 0 }

-- "Input: P 6900, portfolio 77, days 6951 to 6972, ..; events (6972, 152, 156, 148) and (6966, 152, 156, 148)."
abbrev pub worked_contents : Contents
worked_contents = record { participation = 6900; portfolio = 77; moves = []; table = worked; events = at15 6972 ∷ at15 6966 ∷ [] }

-- a line of a text
abbrev pub line : String → List ℕ
line text = ascii text ++ (newline ∷ [])

abbrev pub worked_listing : List ℕ
worked_listing =
    line "portfolio 77 from 6900 held 6951 22" ++
    line "6972 152 156 days 2 6951 6965 reach 21 over 24 adj 264" ++
    line "152 30348 1265" ++
    line "153 30264 1261" ++
    line "154 30264 1261" ++
    line "155 30264 1261" ++
    line "6966 152 156 refused 8 42"
