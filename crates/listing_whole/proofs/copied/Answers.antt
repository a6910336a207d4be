-- `listing_whole::copied` meets its contract: the listing of the buffer that any listing fits does not fit the lent one, or is copied.
use Rattle.listing_whole.proofs.Whole.{not_fitting, copied}
use Rattle.listing_whole.proofs.copied.Goals as goal

pub returns-then-out-end : goal.returns-then-out-end
returns-then-out-end c =
    let a = c.args in
    not_fitting a.file.now a.out.now c.put_listing-end.ensures.0 c.if-out-end.true

pub returns : goal.returns
returns c =
    let a = c.args in
    copied a.file.now a.out.now c.put_listing-end.ensures.0 c.if-out-end.false c.copy_from_slice.ensures.after
