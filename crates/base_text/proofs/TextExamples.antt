-- Worked examples: a text that fits and one that does not.
use mathlib.Core.Path.{◌≡◌, refl}
use Rattle.base_lists.specs.Ascii.{ascii}
use Rattle.base_text.specs.TextSteps.{put}

room : (put (ascii "......") 3 (ascii "264") ≡ ascii "...264") × (put (ascii "......") 4 (ascii "264") ≡ ascii "......")
unfolding put
room = (refl, refl)
