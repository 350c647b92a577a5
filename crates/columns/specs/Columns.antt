-- Some of the columns of a schema, by their places or names.
use Rattle.std.specs.Prelude.{ℕ, suc, List, take, Option, Some, None, if◌then◌else◌}
use Rattle.schema.specs.Cutting.{is_among}
use Rattle.schema.specs.Shape.{Fields, no_fields, field}
pub use Rattle.table.specs.Cursors.{Columns, wanted_places, cut, is_field}
pub use Rattle.table.specs.Views.{names_view}

-- the fields at these places of a schema, in its order; the first one has this place
abbrev pub fields_at : List ℕ → ℕ → Fields → Fields
fields_at places i no_fields = no_fields
fields_at places i (field f fs) = if is_among places i then field f (fields_at places (suc i) fs) else fields_at places (suc i) fs

-- the fields of a schema, where there is one
abbrev pub fields_in : Option Fields → Fields
fields_in None = no_fields
fields_in (Some fs) = fs

-- the wanted columns of a schema, in its order
abbrev pub wanted_fields : Columns → Fields → Fields
wanted_fields columns fs = fields_at (wanted_places columns 0 fs) 0 fs

-- the first so many of some things, where a limit is given, or all of them
abbrev pub first_of : {A : Type 0} → Option ℕ → List A → List A
first_of None xs = xs
first_of (Some limit) xs = take limit xs
