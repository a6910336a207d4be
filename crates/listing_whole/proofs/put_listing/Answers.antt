-- `listing_whole::put_listing` meets its contract: a refused file's line, or the listing of a file.
use mathlib.Core.Path.{sym, ◌∙◌}
use native.Mathlib.Omega.{arith}
use Rattle.listing_whole.proofs.Whole.{refusal_listed}
use Rattle.listing_whole.proofs.put_listing.Goals as goal

pub returns-in-Err : goal.returns-in-Err
returns-in-Err c =
    let refused = sym c.read_file.ensures ∙ c.in-Err.is in
    (refusal_listed c.args.file.now (omega arith) refused c.opening.ensures, omega (arith, c.opening.ensures.most))
