-- Key columns of a table, which its folders name and its files leave out (fastparquet, "hive" scheme).
use Rattle.std.specs.Prelude.{◌≡◌, ◌≢◌, ℕ, zero, suc, ◌+◌, ◌<◌, ◌≤◌, Bool, false, List, [], ◌∷◌, length, map, Option, Some, None, if◌then◌else◌, string_bytes, IsTrue}
use Rattle.std.specs.List.{AllByRecursion}
use Rattle.schema.specs.declared.value.Kind.{Kind}
use Rattle.schema.specs.declared.value.Kind.TheVariants as kind
use Rattle.schema.specs.declared.value.Repetition.TheVariants.{Required}
use Rattle.schema.specs.declared.annotation.ConvertedType.TheVariants as converted
use Rattle.schema.specs.declared.key.KeyKind.{KeyKind}
use Rattle.schema.specs.declared.key.KeyKind.TheVariants.{Boolean, Int32, Int64, Utf8}
use Rattle.schema.specs.declared.key.KeyColumn.{KeyColumn as CodeKeyColumn}
use Rattle.schema.specs.Annotations.{LeafType, Annotation, plain, known}
use Rattle.schema.specs.Values.{ValueTree, ValueTrees, no_values, value as item, member_at}
use Rattle.schema.specs.Shape.{Field, leaf, Fields, no_fields, field, count}
use Rattle.schema.specs.Fits.{fits_each}
use Rattle.schema.specs.Law.{IsSchema, IsWithinLimits}
use Rattle.schema.specs.Cutting.{is_among}

-- a key column: its place among the table's top-level fields, its name and its type
pub record KeyColumn : Type 0 where
  pub at : ℕ
  pub name : List ℕ
  pub kind : KeyKind

-- a `KeyColumn` of the program, with the bytes of its name
abbrev pub key_column_view : CodeKeyColumn → KeyColumn
key_column_view k = record { at = k.at; name = string_bytes k.name; kind = k.kind }

-- the key columns of a list of the program, in order
abbrev pub key_columns_view : List CodeKeyColumn → List KeyColumn
key_columns_view keys = map key_column_view keys

-- the places of key columns among the table's top-level fields, in the order of the key columns
abbrev pub places_of : List KeyColumn → List ℕ
places_of keys = map (λ k. k.at) keys

-- the physical type of a key column: BOOLEAN, INT32, INT64, or BYTE_ARRAY for text
abbrev pub stored_kind : KeyKind → Kind
stored_kind Boolean = kind.Boolean
stored_kind Int32 = kind.Int32
stored_kind Int64 = kind.Int64
stored_kind Utf8 = kind.ByteArray

-- the annotation of a key column: UTF8 for text, none for the other types
abbrev pub stored_annotation : KeyKind → Annotation
stored_annotation Utf8 = known converted.Utf8
stored_annotation _ = plain

-- the leaf type of a key column: without scale and precision
abbrev pub key_type : KeyKind → LeafType
key_type k = record { kind = stored_kind k; annotation = stored_annotation k; scale = None; precision = None }

-- the field of a key column: REQUIRED, at the top
abbrev pub key_field : KeyColumn → Field
key_field k = leaf k.name Required (key_type k.kind)

-- the field at a place, the first of which is 0; None past the end
abbrev pub field_at : ℕ → Fields → Option Field
field_at i no_fields = None
field_at zero (field f fs) = Some f
field_at (suc i) (field f fs) = field_at i fs

-- no number comes twice
abbrev pub AreDistinct : List ℕ → Type 0
AreDistinct [] = Unit {0}
AreDistinct (n ∷ ns) = (is_among ns n ≡ false) × AreDistinct ns

-- key columns that can partition a table with these fields: at most eight, each with a name and in its place, and some
-- column is no key
pub record AreKeys (keys : List KeyColumn) (fs : Fields) : Type 0 where
  pub few : length keys ≤ 8
  pub rest : length keys < count fs
  pub distinct : AreDistinct (places_of keys)
  pub named : AllByRecursion (λ (k : KeyColumn). k.name ≢ []) keys
  pub there : AllByRecursion (λ (k : KeyColumn). field_at k.at fs ≡ Some (key_field k)) keys

-- the fields at the places that are not gone, where the first of these fields has the place i
abbrev pub fields_besides : (ℕ → Bool) → ℕ → Fields → Fields
fields_besides gone i no_fields = no_fields
fields_besides gone i (field f fs) = if gone i then fields_besides gone (suc i) fs else field f (fields_besides gone (suc i) fs)

-- the values at the places that are not gone, where the first of these values has the place i
abbrev pub values_besides : (ℕ → Bool) → ℕ → ValueTrees → ValueTrees
values_besides gone i no_values = no_values
values_besides gone i (item v vs) = if gone i then values_besides gone (suc i) vs else item v (values_besides gone (suc i) vs)

-- the fields of a table's files: those of the table that are not key columns
abbrev pub without_keys : List KeyColumn → Fields → Fields
without_keys keys fs = fields_besides (is_among (places_of keys)) 0 fs

-- a row as a table's files have it: without its values in the key columns
abbrev pub row_without_keys : List KeyColumn → ValueTrees → ValueTrees
row_without_keys keys row = values_besides (is_among (places_of keys)) 0 row

-- the fields of a table with these keys, whose files have these fields
pub record IsTableOver (keys : List KeyColumn) (stored fs : Fields) : Type 0 where
  pub schema : IsSchema fs
  pub within : IsWithinLimits fs
  pub keyed : AreKeys keys fs
  pub besides : without_keys keys fs ≡ stored

-- the key of a row: its values in the key columns, in the order of the folders
abbrev pub key_of_row : List KeyColumn → ValueTrees → List ValueTree
key_of_row keys row = map (λ (k : KeyColumn). member_at k.at row) keys

-- how many values a row has
abbrev pub width : ValueTrees → ℕ
width no_values = 0
width (item v vs) = suc (width vs)

-- a row of the table: it has this key in the key columns, and the values of the stored row in the others
pub record IsRowOf (keys : List KeyColumn) (key : List ValueTree) (stored row : ValueTrees) : Type 0 where
  pub besides : row_without_keys keys row ≡ stored
  pub keyed : key_of_row keys row ≡ key
  pub whole : width row ≡ width stored + length keys

-- the rows of the table for the stored rows, one for each and in their order, all with this key
abbrev pub AreRowsOf : List KeyColumn → List ValueTree → List ValueTrees → List ValueTrees → Type 0
AreRowsOf keys key [] [] = Unit {0}
AreRowsOf keys key (s ∷ stored) (r ∷ rows) = IsRowOf keys key s r × AreRowsOf keys key stored rows
AreRowsOf keys key _ _ = ⊥

-- a row that fits some fields still fits when the fields at some places are gone, and their values with them
abbrev pub BesidesFit : Type 0
BesidesFit = (gone : ℕ → Bool) (i : ℕ) (fs : Fields) (row : ValueTrees) → IsTrue (fits_each fs row) → IsTrue (fits_each (fields_besides gone i fs) (values_besides gone i row))

-- two rows of one width are the same if they have the same values at the places that are gone and at the others
abbrev pub RowsAreOne : Type 0
RowsAreOne = (gone : ℕ → Bool) (i : ℕ) (one other : ValueTrees) → width one ≡ width other → values_besides gone i one ≡ values_besides gone i other
    → ((place : ℕ) → IsTrue (gone (i + place)) → member_at place one ≡ member_at place other) → one ≡ other
