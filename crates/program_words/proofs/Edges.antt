-- The edges of the words: each computes.
use mathlib.Core.Path.{refl}
use Rattle.program_words.specs.Words.{is_help, is_version, is_option, is_end, option_by, asked_by, besides, joined, with_word, words_from}
use Rattle.program_words.specs.Edges.{Edges}

pub edges : Edges
unfolding is_help is_version is_option is_end option_by asked_by besides joined with_word words_from
edges =
    record {
      none = refl;
      help = refl;
      help_short = refl;
      version = refl;
      version_short = refl;
      cut = refl;
      longer = refl;
      upper = refl;
      lower = refl;
      two = refl;
      three_dashes = refl;
      name = refl;
      empty = refl;
      dash_within = refl;
      input = refl;
      end = refl;
      end_input = refl;
      end_name = refl;
      end_twice = refl;
      name_end = refl;
      two_names = refl;
      name_input = refl;
      input_twice = refl;
      end_between = refl;
      name_help = refl;
      help_version = refl;
      unknown_help = refl;
      second_help = refl;
    }
