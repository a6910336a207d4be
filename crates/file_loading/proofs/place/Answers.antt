-- `file_loading::place` meets its contract: the readings before the span are left out.
use native.Mathlib.Omega.{arith}
use Rattle.file_loading.proofs.Loading.{place_is}
use Rattle.file_loading.proofs.place.Goals as goal

pub overflow_sub-result : goal.overflow_sub-result
overflow_sub-result c =
    let a = c.args in
    omega (arith, place_is a.shape a.span a.k c.requires, c.offset-2.ensures, c.offset.ensures)

pub returns : goal.returns
returns c =
    let a = c.args in
    rw (c.offset-2.ensures, c.offset.ensures) (place_is a.shape a.span a.k c.requires).1
