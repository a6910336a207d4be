-- The window of an event by rank (`window_of`), and what the private functions give on the way, for any rules.
use Rattle.std.specs.Prelude.{ℕ, Bool, List, length, get_or, ltb}
use Rattle.method.specs.declared.Request.{Request}
use Rattle.method.specs.Table.{History}
use Rattle.method.specs.Method.{Method, days_of, window, is_short}
use Rattle.engine_ranking.specs.Steps.{padded}
use Rattle.engine_rules.specs.declared.Rules.{Rules as Numbers}
use Rattle.engine_look_back.specs.declared.Found.{Found}
use Rattle.engine_choice.specs.Steps.{days_in, filled_of}
use Rattle.engine_window.specs.declared.Window.{Window}

unfoldable pub window_of : {A O : Type 0} → Method A O → History A → Window
window_of m h =
    record {
      short = is_short m h;
      most = m.most;
      days = padded 10 (days_of (m.rank (window m h)));
      size = length (window m h);
      passed = m.passed (length (window m h));
      taken = m.taken (length (window m h));
    }

-- the days of the first words of a row, in ten places, with noughts after the last
abbrev pub ranked : ℕ → List ℕ → ℕ → List ℕ
ranked event row size = padded 10 (days_in event row 0 size)

-- the window of a row of so many words
abbrev pub row_window : ℕ → Numbers → List ℕ → ℕ → Bool → Window
row_window event numbers row size short =
    record {
      short = short;
      most = numbers.most;
      days = ranked event row size;
      size = size;
      passed = get_or numbers.passed size 0;
      taken = get_or numbers.taken size 0;
    }

-- the window where the eligible days do not fill it
abbrev pub few_window : Request → Numbers → Found → ℕ → ℕ → Window
few_window r numbers found before reach =
    row_window r.event numbers (filled_of numbers found).words (filled_of numbers found).count (ltb before reach)
