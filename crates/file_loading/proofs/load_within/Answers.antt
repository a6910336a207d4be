-- `file_loading::load_within` meets its contract: where the days fit, and where they do not.
use mathlib.Core.Path.{sym, ◌∙◌}
use lib.ListN.{length}
use Rattle.file_loading.proofs.Loading.{fits_is, fitted}
use Rattle.file_loading.proofs.load_within.Goals as goal

pub load_marks-requires : goal.load_marks-requires
load_marks-requires c =
    let a = c.args in
    let f = fitted a.shape a.span a.file.now (length a.marks.now) (length a.readings.now) (sym c.fits-fits.ensures ∙ c.if-fits.true) in
    (f.stands.long, f.few)

pub load_readings-requires : goal.load_readings-requires
load_readings-requires c =
    let a = c.args in
    let f = fitted a.shape a.span a.file.now (length a.marks.now) (length a.readings.now) (sym c.fits-fits.ensures ∙ c.if-fits.true) in
    (f.stands, f.enough)

pub returns-then-fits-clause-said : goal.returns-then-fits-clause-said
returns-then-fits-clause-said c =
    let a = c.args in
    c.fits-fits.ensures ∙ sym (fits_is a.shape a.span a.file.now (length a.marks.now) (length a.readings.now))

pub returns-else-fits-clause-said : goal.returns-else-fits-clause-said
returns-else-fits-clause-said c =
    let a = c.args in
    c.fits-fits.ensures ∙ sym (fits_is a.shape a.span a.file.now (length a.marks.now) (length a.readings.now))
