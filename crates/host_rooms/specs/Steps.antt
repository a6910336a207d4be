-- What is told of a window by value.
use Rattle.std.specs.Prelude.{not, List, [], ◌∷◌, ℤ, Option}
use Rattle.engine_window.specs.declared.Window.{Window}
use Rattle.host_answer.specs.Names.{told, told_if}

-- Y; its size and the ranks passed over and taken, where 8 is not given
unfoldable pub window_row : Window → List (Option ℤ)
window_row w =
    let shown = told_if (not w.short) in
    told w.most ∷ shown (told w.size) ∷ shown (told w.passed) ∷ shown (told w.taken) ∷ []
