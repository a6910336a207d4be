-- The writer on both sides of each line of order 1, and of what orders 2 and 3 add.
use Rattle.std.specs.Prelude.{ℕ, ◌≡◌, List, [], ◌∷◌, ◌++◌, take, replicate, Result, Ok, Err}
use Rattle.method.specs.declared.Refusal.TheVariants.{BadTable, NoRoom, Unwritable}
use Rattle.file_record.specs.Layout.{file_of}
use Rattle.file_record.specs.Writer.{Lent, lent, said, writing, leaving}
use Rattle.file_record.specs.Checks.{pf, mv, ev, flat}
use Rattle.method.specs.declared.Refusal.{Refusal}

-- P 6900 and portfolio 77, so many days from `first` on with so many readings, all 1000, and these events
abbrev pub given : ℕ → ℕ → ℕ → List ℕ → Lent
given first days readings numbers = lent 6900 77 first (replicate days 0) (replicate readings 1000) [] numbers

-- no days, and these moves
abbrev pub moves : List ℕ → Lent
moves numbers = lent 6900 77 0 [] [] numbers []

-- no days, and these events
abbrev pub events : List ℕ → Lent
events numbers = given 0 0 0 numbers

-- of an event whose five numbers are these, with room
abbrev pub fields : ℕ → ℕ → ℕ → ℕ → ℕ → Result ℕ Refusal
fields day s e n method = writing (events (day ∷ s ∷ e ∷ n ∷ method ∷ [])) 16

-- a buffer of so many bytes after a call, each of which was 170
abbrev pub left : Lent → ℕ → List ℕ
left w room = leaving (writing w room) (file_of (said w)) (replicate room 170)

pub record WriterChecks : Type 0 where
  -- "An extract of no days, with F 0, is written without DY": 8 bytes, and not in 7; with another F it is 13
  pub no_days : writing (events []) 8 ≡ Ok 8
  pub short : writing (events []) 7 ≡ Err NoRoom
  pub first_alone : writing (given 1 0 0 []) 8 ≡ Err Unwritable
  -- one day and an event; a reading too few or too many; no day with a reading; 129 days
  pub day_and_event : writing (given 6951 1 96 (6972 ∷ 152 ∷ 156 ∷ 148 ∷ 0 ∷ [])) 406 ≡ Ok 406
  pub reading_95 : writing (given 6951 1 95 []) 406 ≡ Err BadTable
  pub reading_97 : writing (given 6951 1 97 []) 406 ≡ Err BadTable
  pub reading_alone : writing (given 0 0 1 []) 406 ≡ Err BadTable
  pub day_129 : writing (given 0 129 0 []) 60000 ≡ Err BadTable
  -- 1 before 13, and 13 before 7
  pub one_first : writing (given 1 0 1 (0 ∷ [])) 0 ≡ Err BadTable
  pub thirteen_first : writing (given 1 0 0 []) 0 ≡ Err Unwritable
  -- what two bytes hold: the days up to 65535, past the calendar too, P and D; what one holds: s, e, n and the method
  pub day_65535 : writing (given 65535 1 96 []) 398 ≡ Ok 398
  pub day_65536 : writing (given 65535 2 192 []) 788 ≡ Err Unwritable
  pub participation_65535 : writing (lent 65535 77 0 [] [] [] []) 8 ≡ Ok 8
  pub participation_65536 : writing (lent 65536 77 0 [] [] [] []) 8 ≡ Err Unwritable
  pub all_fields : fields 65535 255 255 255 255 ≡ Ok 16
  pub event_65536 : fields 65536 255 255 255 255 ≡ Err Unwritable
  pub start_256 : fields 65535 256 255 255 255 ≡ Err Unwritable
  pub end_256 : fields 65535 255 256 255 255 ≡ Err Unwritable
  pub notice_256 : fields 65535 255 255 256 255 ≡ Err Unwritable
  pub method_256 : fields 65535 255 255 255 256 ≡ Err Unwritable
  -- 64 events and 65; numbers that are not five for each, of which four are an event without its method
  pub events_64 : writing (events (replicate 320 0)) 520 ≡ Ok 520
  pub events_65 : writing (events (replicate 325 0)) 528 ≡ Err Unwritable
  pub four_numbers : writing (events (6972 ∷ 152 ∷ 156 ∷ 148 ∷ [])) 520 ≡ Err Unwritable
  pub six_numbers : writing (events (replicate 6 0)) 520 ≡ Err Unwritable
  -- 16 moves and 17; half a move; what its two bytes hold
  pub moves_16 : writing (moves (replicate 32 0)) 104 ≡ Ok 104
  pub moves_17 : writing (moves (replicate 34 0)) 110 ≡ Err Unwritable
  pub half_a_move : writing (moves (replicate 3 0)) 110 ≡ Err Unwritable
  pub move_65535 : writing (moves (65535 ∷ 65535 ∷ [])) 14 ≡ Ok 14
  pub old_65536 : writing (moves (65536 ∷ 0 ∷ [])) 14 ≡ Err Unwritable
  pub new_65536 : writing (moves (0 ∷ 65536 ∷ [])) 14 ≡ Err Unwritable
  -- what stands in the buffer: the records in their order, and the rest kept; refused, all of it
  pub stands : left (given 6951 1 96 (6972 ∷ 152 ∷ 156 ∷ 148 ∷ 0 ∷ [])) 408 ≡ pf ++ flat 6951 ++ ev ++ (170 ∷ 170 ∷ [])
  pub moves_stand : left (lent 6900 77 0 [] [] (8887 ∷ 8893 ∷ []) (6972 ∷ 152 ∷ 156 ∷ 148 ∷ 0 ∷ [])) 23 ≡ pf ++ mv ++ ev ++ (170 ∷ [])
  pub method_stands : left (events (6972 ∷ 152 ∷ 156 ∷ 148 ∷ 255 ∷ [])) 16 ≡ pf ++ take 7 ev ++ (255 ∷ [])
  pub keeps : left (events []) 7 ≡ replicate 7 170
