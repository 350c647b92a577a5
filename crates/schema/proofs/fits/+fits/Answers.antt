use Rattle.std.proofs.Common.{sym}
use Rattle.schema.proofs.Views.{fits_each-lengths}
use Rattle.schema.proofs.fits.+fits.Goals as goal

pub fits_each-returns-then-fields-values : goal.fits_each-returns-then-fields-values
fits_each-returns-then-fields-values t c = sym (fits_each-lengths c.args.fields.now c.args.values.now c.if-fields-values.true)
