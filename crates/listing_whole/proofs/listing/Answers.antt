-- `listing_whole::listing` meets its contract: by way of a buffer of its own, or straight into the lent one.
use Rattle.listing_whole.proofs.Whole.{straight}
use Rattle.listing_whole.proofs.listing.Goals as goal

pub returns : goal.returns
returns c =
    let a = c.args in
    straight a.file.now a.out.now c.put_listing.ensures.0
