-- Which fields are key columns.
use Rattle.std.specs.Prelude.{◌≡◌, ℕ, List, Some, string_bytes}
use Rattle.schema.specs.declared.key.KeyColumn.{KeyColumn as CodeKeyColumn}
use Rattle.schema.specs.declared.key.KeyKind.{KeyKind}
use Rattle.schema.specs.declared.value.Repetition.TheVariants.{Required}
use Rattle.schema.specs.Shape.{Field, leaf, Fields}
use Rattle.schema.specs.Keys.{key_type, key_field, field_at, key_column_view}

-- the field can be a key column of this name and this type
abbrev pub IsKeyField : List ℕ → Field → KeyKind → Type 0
IsKeyField name f kind = f ≡ leaf name Required (key_type kind)

-- no field can be a key column of this name
abbrev pub HasNoKeyField : List ℕ → Fields → Type 0
HasNoKeyField name fs = (at : ℕ) (kind : KeyKind) → field_at at fs ≡ Some (leaf name Required (key_type kind)) → ⊥

-- the key column of this name, where its field stands
abbrev pub IsKeyColumnOf : List ℕ → Fields → CodeKeyColumn → Type 0
IsKeyColumnOf name fs c = (string_bytes c.name ≡ name) × (field_at c.at fs ≡ Some (key_field (key_column_view c)))
