-- What the words of a command line ask for, as Unix programs have it.
use Rattle.std.specs.Prelude.{ℕ, suc, Bool, false, cond, ◌||◌, List, [], ◌∷◌, take}
use Rattle.std.specs.Prelude.{Result, Ok, Err}
use Rattle.std.specs.Str.{bytes_eq}
use Prim.Native.String.{String}
use Rattle.base_lists.specs.Ascii.{ascii}
use Rattle.program_words.specs.declared.Line.{Line}
use Rattle.program_words.specs.declared.Wanted.{Wanted}
use Rattle.program_words.specs.declared.Wanted.TheVariants.{Nothing, Input, File, Help, Version}
use Rattle.program_words.specs.declared.WrongUse.{WrongUse}
use Rattle.program_words.specs.declared.WrongUse.TheVariants.{Unknown, Second}

-- the same bytes
abbrev pub same : List ℕ → List ℕ → Bool
same = bytes_eq

abbrev pub spells : List ℕ → String → Bool
spells word text = same word (ascii text)

unfoldable pub is_help : List ℕ → Bool
is_help word = spells word "-h" || spells word "--help"

unfoldable pub is_version : List ℕ → Bool
is_version word = spells word "-V" || spells word "--version"

-- it has the shape of an option: its first byte is a dash
unfoldable pub is_option : List ℕ → Bool
is_option word = spells (take 1 word) "-"

-- it ends the options
unfoldable pub is_end : List ℕ → Bool
is_end word = spells word "--"

-- what a word that is not `-` asks for, where options are read
unfoldable pub option_by : List ℕ → ℕ → Result Wanted WrongUse
option_by word place =
    cond (is_end word) (Ok Nothing)
    (cond (is_help word) (Ok Help) (cond (is_version word) (Ok Version) (cond (is_option word) (Err (Unknown place)) (Ok (File place)))))

-- what the word at a place asks for by itself: `-` is standard input, and once the options are ended every other is a name
unfoldable pub asked_by : Bool → List ℕ → ℕ → Result Wanted WrongUse
asked_by ended word place = cond (spells word "-") (Ok Input) (cond ended (Ok (File place)) (option_by word place))

-- what is wanted where the word at a place asks for more beside a file that was named: one file is listed
unfoldable pub besides : Wanted → Result Wanted WrongUse → ℕ → Result Wanted WrongUse
besides before (Ok Nothing) place = Ok before
besides before (Ok Input) place = Err (Second place)
besides before (Ok (File at)) place = Err (Second place)
besides before (Ok Help) place = Ok Help
besides before (Ok Version) place = Ok Version
besides before (Err wrong) place = Err wrong

-- what is wanted where the word at a place asks for more: the first word that asks for no file settles it
unfoldable pub joined : Result Wanted WrongUse → Result Wanted WrongUse → ℕ → Result Wanted WrongUse
joined (Ok Nothing) more place = more
joined (Ok Input) more place = besides Input more place
joined (Ok (File at)) more place = besides (File at) more place
joined (Ok Help) more place = Ok Help
joined (Ok Version) more place = Ok Version
joined (Err wrong) more place = Err wrong

unfoldable pub with_word : Line → List ℕ → ℕ → Line
with_word line word place =
    record {
      wanted = joined line.wanted (asked_by line.ended word place) place;
      ended = line.ended || is_end word;
    }

-- before any word
abbrev pub start : Line
start = record { wanted = Ok Nothing; ended = false }

-- what all the words ask for, those from a place on after a line
unfoldable pub words_from : Line → ℕ → List (List ℕ) → Result Wanted WrongUse
words_from line place [] = line.wanted
words_from line place (word ∷ words) = words_from (with_word line word place) (suc place) words
