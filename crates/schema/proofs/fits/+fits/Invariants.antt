use Rattle.std.proofs.Common.{◌≡◌, drop}
use Rattle.schema.specs.Values.{views, each}
use Rattle.schema.specs.Fits.{fits_inside, fits_each}
use Rattle.schema.specs.Views.{field_view, field_views}
use Rattle.schema.proofs.fits.+fits.Given as goal

-- the answer for the items that are left is that for all
abbrev pub invariant-fits-loop-item : goal.invariant-fits-loop-item
invariant-fits-loop-item l = each (fits_inside (field_view l.field)) (views (drop l.item-index l.item-items)) ≡ each (fits_inside (field_view l.field)) (views l.item-items)

-- the answer for the fields that are left is that for all
abbrev pub invariant-fits_each-loop-i : goal.invariant-fits_each-loop-i
invariant-fits_each-loop-i l = fits_each (field_views (drop l.i l.fields)) (views (drop l.i l.values)) ≡ fits_each (field_views l.fields) (views l.values)
