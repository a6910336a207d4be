-- Command lines with what they ask for: each word that is known, its neighbours, and words together. `proofs/Edges` proves it.
use Prim.Native.String.{String}
use Rattle.std.specs.Prelude.{◌≡◌, List, [], ◌∷◌, map, Result, Ok, Err}
use Rattle.base_lists.specs.Ascii.{ascii}
use Rattle.program_words.specs.declared.Wanted.{Wanted}
use Rattle.program_words.specs.declared.Wanted.TheVariants.{Nothing, Input, File, Help, Version}
use Rattle.program_words.specs.declared.WrongUse.{WrongUse}
use Rattle.program_words.specs.declared.WrongUse.TheVariants.{Unknown, Second}
use Rattle.program_words.specs.Words.{start, words_from}

-- the words after the program's own name
abbrev pub by : List String → Result Wanted WrongUse
by words = words_from start 1 (map ascii words)

pub record Edges : Type 0 where
  pub none : by [] ≡ Ok Nothing
  pub help : by ("--help" ∷ []) ≡ Ok Help
  pub help_short : by ("-h" ∷ []) ≡ Ok Help
  pub version : by ("--version" ∷ []) ≡ Ok Version
  pub version_short : by ("-V" ∷ []) ≡ Ok Version
  -- cut, too long, in the other case, two in one
  pub cut : by ("--hel" ∷ []) ≡ Err (Unknown 1)
  pub longer : by ("--help " ∷ []) ≡ Err (Unknown 1)
  pub upper : by ("-H" ∷ []) ≡ Err (Unknown 1)
  pub lower : by ("-v" ∷ []) ≡ Err (Unknown 1)
  pub two : by ("-hV" ∷ []) ≡ Err (Unknown 1)
  pub three_dashes : by ("---" ∷ []) ≡ Err (Unknown 1)
  -- names
  pub name : by ("a.rec" ∷ []) ≡ Ok (File 1)
  pub empty : by ("" ∷ []) ≡ Ok (File 1)
  pub dash_within : by ("./-h" ∷ []) ≡ Ok (File 1)
  -- standard input, and the end of the options
  pub input : by ("-" ∷ []) ≡ Ok Input
  pub end : by ("--" ∷ []) ≡ Ok Nothing
  pub end_input : by ("--" ∷ "-" ∷ []) ≡ Ok Input
  pub end_name : by ("--" ∷ "-h" ∷ []) ≡ Ok (File 2)
  pub end_twice : by ("--" ∷ "--" ∷ []) ≡ Ok (File 2)
  pub name_end : by ("a" ∷ "--" ∷ []) ≡ Ok (File 1)
  -- one file
  pub two_names : by ("a" ∷ "b" ∷ []) ≡ Err (Second 2)
  pub name_input : by ("a" ∷ "-" ∷ []) ≡ Err (Second 2)
  pub input_twice : by ("-" ∷ "-" ∷ []) ≡ Err (Second 2)
  pub end_between : by ("a" ∷ "--" ∷ "-x" ∷ []) ≡ Err (Second 3)
  -- the first that asks for no file settles it
  pub name_help : by ("a" ∷ "--help" ∷ "b" ∷ []) ≡ Ok Help
  pub help_version : by ("-h" ∷ "-V" ∷ []) ≡ Ok Help
  pub unknown_help : by ("-x" ∷ "-h" ∷ []) ≡ Err (Unknown 1)
  pub second_help : by ("a" ∷ "b" ∷ "-h" ∷ []) ≡ Err (Second 2)
