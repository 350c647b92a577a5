-- A description with a column more.
use Rattle.std.specs.Prelude.{◌≡◌, List}
use Rattle.schema.specs.Shape.{Field}
use Rattle.schema.specs.Elements.{Element}
use Rattle.schema.specs.Fronts.{with_field}
use Rattle.schema.specs.Growing.{IsColumnFor}
use Rattle.manifest.specs.Groups.{Root}

-- the field that these elements are comes after those of the old schema; all else is the same
pub record IsWidened (old : Root) (elements : List Element) (new : Root) : Type 0 where
  pub column : Field
  pub is_column : IsColumnFor old.schema elements column
  pub is : new ≡ record old { schema = with_field old.schema column }
