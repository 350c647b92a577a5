-- Views of lists of values and of fields, element by element.
use Rattle.std.proofs.Common.{◌≡◌, ◌≢◌, false, List, [], ◌∷◌, length, refl, ap, suc}
use Rattle.lists.proofs.Booleans.{and_false as and_no}
use Rattle.schema.specs.declared.value.Value.{Value}
use Rattle.schema.specs.declared.field.Field.{Field as CodeField}
use Rattle.schema.specs.Values.{view, views}
use Rattle.schema.specs.Fits.{fits, fits_each}
use Rattle.schema.specs.Views.{field_view, field_views}

-- another number of values than of fields
pub fits_each-lengths : (fs : List CodeField) (vs : List Value) → length fs ≢ length vs → fits_each (field_views fs) (views vs) ≡ false
fits_each-lengths [] [] h = absurd (h refl)
fits_each-lengths [] (v ∷ vs) h = refl
fits_each-lengths (f ∷ fs) [] h = refl
fits_each-lengths (f ∷ fs) (v ∷ vs) h = rw (fits_each-lengths fs vs (λ e. h (ap suc e))) (and_no (fits (field_view f) (view v)))
