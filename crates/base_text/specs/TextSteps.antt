-- A piece of text put into a lent buffer.
use Rattle.std.specs.Prelude.{ℕ, ◌+◌, ◌≡◌, cond, List, ◌++◌, length, take, drop, leb}
use Rattle.base_text.specs.declared.Text.{Text}

-- the buffer `d` with the text `t` at place `at`, where it fits whole; else `d` as it is
unfoldable pub put : List ℕ → ℕ → List ℕ → List ℕ
put d at t = cond (leb (at + length t) (length d)) (take at d ++ t ++ drop (at + length t) d) d

-- the place after it: past the end where it did not fit, so that nothing after it is written
unfoldable pub next : List ℕ → ℕ → List ℕ → ℕ
next d at t = cond (leb at (length d)) (at + length t) at

-- `d'` is the buffer `d` with the text `t` put at place `at`, and `r` the place after it
pub record Puts (d : List ℕ) (at : ℕ) (t : List ℕ) (r : ℕ) (d' : List ℕ) : Type 0 where
  pub next : r ≡ next d at t
  pub holds : d' ≡ put d at t

-- two texts in a row, both or neither: the place after them is that after the second, or after the first where not even that fits
pub record PutsBoth (d : List ℕ) (at : ℕ) (a b : List ℕ) (r : ℕ) (d' : List ℕ) : Type 0 where
  pub next : r ≡ next d (next d at a) b
  pub holds : d' ≡ put d at (a ++ b)

-- what is written to is still the same lent buffer
pub record Keeps (t t' : Text) : Type 0 where
  pub same : t'.out.ghost_name ≡ t.out.ghost_name
  pub size : length t'.out.now ≡ length t.out.now
