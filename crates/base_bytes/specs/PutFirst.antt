-- A buffer that values are put into: they stand first where all of them fit, and else nothing is changed.
use Rattle.std.specs.Prelude.{cond, List, ◌++◌, length, drop, leb}

unfoldable pub put_first : {A : Type 0} → List A → List A → List A
put_first values buffer = cond (leb (length values) (length buffer)) (values ++ drop (length values) buffer) buffer
