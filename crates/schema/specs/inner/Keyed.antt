-- How the schema of a table is made of that of its files and its key columns.
use Rattle.std.specs.Prelude.{◌≡◌, ◌≢◌, ℕ, Bool, true, not, ◌&&◌, ◌==◌, List, [], ◌∷◌, Option, Some, None, if◌then◌else◌}
use Rattle.schema.specs.Shape.{Fields, count}
use Rattle.schema.specs.Elements.{Element}
use Rattle.schema.specs.Listed.{listings, group_element, root_name}
use Rattle.schema.specs.Law.{AreValid}
use Rattle.schema.specs.Cutting.{is_among}
use Rattle.schema.specs.Keys.{KeyColumn, AreKeys, without_keys, places_of, fields_besides, field_at, key_field}
use Rattle.schema.specs.inner.Reading.{join_fields}
use Rattle.schema.specs.Fronts.{fields_after}

-- the first key column with this place; None if there is none
abbrev pub key_at : ℕ → List KeyColumn → Option KeyColumn
key_at place [] = None
key_at place (k ∷ keys) = if k.at == place then Some k else key_at place keys

-- whether a key column has this place
abbrev pub has_key : List KeyColumn → ℕ → Bool
has_key keys place = is_among (places_of keys) place

-- `out` lists the root and the first `place` fields of each table over the files' fields: key columns, and the first `next` of the files' fields
pub record IsMade (keys : List KeyColumn) (stored : Fields) (place next : ℕ) (out : List Element) (children : ℕ) : Type 0 where
  pub made : Fields
  pub listed : out ≡ group_element root_name None None children ∷ listings made
  pub counted : count made ≡ place
  pub valid : AreValid stored → AreValid made
  pub besides : join_fields (fields_besides (has_key keys) 0 made) (fields_after next stored) ≡ stored
  pub begins : (fs : Fields) → AreKeys keys fs → without_keys keys fs ≡ stored
      → (rest : Fields) × (fs ≡ join_fields made rest) × (fields_besides (has_key keys) place rest ≡ fields_after next stored)

-- `out` lists the fields of the one table over the files' fields that has these key columns, if there is one
pub record IsMadeWhole (keys : List KeyColumn) (stored : Fields) (out : List Element) : Type 0 where
  pub made : Fields
  pub listed : out ≡ group_element root_name None None (count made) ∷ listings made
  pub valid : AreValid stored → AreValid made
  pub besides : without_keys keys made ≡ stored
  pub alone : (fs : Fields) → AreKeys keys fs → without_keys keys fs ≡ stored → fs ≡ made

-- whether no number comes twice
abbrev pub are_distinct : List ℕ → Bool
are_distinct [] = true
are_distinct (n ∷ ns) = not (is_among ns n) && are_distinct ns

-- the key column has a name, and stands at its place
pub record IsKeyOf (fs : Fields) (k : KeyColumn) : Type 0 where
  pub named : k.name ≢ []
  pub there : field_at k.at fs ≡ Some (key_field k)
