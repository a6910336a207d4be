-- What the functions ensure of their results.
use Rattle.std.specs.Prelude.{◌≡◌, ℕ, zero, suc, ◌-◌, ◌<◌, ◌≤◌, true, List, take, drop, slice_index, Option, Some, None}
use Rattle.base_lists.specs.Lists.{all}
use Rattle.method.specs.Table.{present, missing}

-- the `run` readings before `end` are present, up to twelve, and where they are fewer the one before them is missing
pub record RunBefore (readings : List ℕ) (end run : ℕ) : Type 0 where
  pub most : run ≤ 12
  pub clear : all present (take run (drop (end - run) readings)) ≡ true
  pub stops : run < 12 → slice_index readings (end - run - 1) ≡ missing

-- where a window ends, of a place that is 0 where there is none
unfoldable pub found : ℕ → Option ℕ
found zero = None
found (suc k) = Some (suc k)
