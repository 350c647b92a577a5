-- Which values and rows fit a schema: the physical types of parquet.thrift, Type, and text as LogicalTypes.md has it.
use Rattle.std.specs.Prelude.{ℕ, ℤ, pos, negsuc, nat_lt, ◌==◌, Bool, true, false, ◌&&◌, List, length, if◌then◌else◌, IsTrue}
use Rattle.std.specs.List.{list_all, AllByRecursion}
use Rattle.std.specs.Str.{is_utf8}
use Rattle.schema.specs.declared.value.Repetition.{Repetition}
use Rattle.schema.specs.declared.value.Repetition.TheVariants.{Required, Optional, Repeated}
use Rattle.schema.specs.declared.value.Kind.{Kind}
use Rattle.schema.specs.declared.value.Kind.TheVariants.{Boolean, Int32, Int64, ByteArray, FixedLenByteArray}
use Rattle.schema.specs.Annotations.{LeafType, is_text}
use Rattle.schema.specs.Values.{ValueTree, null, boolean, integer, bytes, group, list, ValueTrees, no_values, value as item, each}
use Rattle.schema.specs.Shape.{Field, leaf, fields, Fields, no_fields, field}

-- whether a signed number is at least -half and less than half
abbrev pub is_within : ℕ → ℤ → Bool
is_within half (pos n) = nat_lt n half
is_within half (negsuc n) = nat_lt n half

-- whether each of these numbers is a byte
abbrev pub are_bytes : List ℕ → Bool
are_bytes s = list_all (λ b. nat_lt b 256) s

-- whether a value is of a physical type
abbrev pub fits_kind : Kind → ValueTree → Bool
fits_kind Boolean (boolean b) = true
fits_kind Int32 (integer z) = is_within 2147483648 z
fits_kind Int64 (integer z) = is_within 9223372036854775808 z
fits_kind ByteArray (bytes s) = are_bytes s
fits_kind (FixedLenByteArray n) (bytes s) = length s == n && are_bytes s
fits_kind _ _ = false

-- whether a value is bytes that are UTF-8
abbrev pub is_valid_text : ValueTree → Bool
is_valid_text (bytes s) = is_utf8 s
is_valid_text _ = false

-- whether a value is of a leaf's type, the leaf's repetition aside: of the physical type, and UTF-8 if the leaf holds text
abbrev pub fits_leaf : LeafType → ValueTree → Bool
fits_leaf t v = fits_kind t.kind v && (if is_text t.kind t.annotation then is_valid_text v else true)

-- whether a value fits a field with this repetition: an OPTIONAL field takes null too, a REPEATED one a list
abbrev pub fits_as : Repetition → (ValueTree → Bool) → ValueTree → Bool
fits_as Required p v = p v
fits_as Optional p null = true
fits_as Optional p v = p v
fits_as Repeated p (list vs) = each p vs
fits_as Repeated p _ = false

-- whether a value is a group whose members pass the test
abbrev pub is_group : (ValueTrees → Bool) → ValueTree → Bool
is_group p (group vs) = p vs
is_group p _ = false

-- whether a value fits a field, and whether values fit some fields: one value for each field
abbrev mutual
  pub fits : Field → ValueTree → Bool
  fits (leaf n r t) v = fits_as r (fits_leaf t) v
  fits (fields n r a fs) v = fits_as r (is_group (fits_each fs)) v

  pub fits_each : Fields → ValueTrees → Bool
  fits_each no_fields no_values = true
  fits_each (field f fs) (item v vs) = fits f v && fits_each fs vs
  fits_each _ _ = false

-- whether a value fits a field, the field's own repetition aside
abbrev pub fits_inside : Field → ValueTree → Bool
fits_inside (leaf n r t) v = fits_leaf t v
fits_inside (fields n r a fs) v = is_group (fits_each fs) v

-- each row has one fitting value for each top-level field
abbrev pub RowsFit : Fields → List ValueTrees → Type 0
RowsFit fs rows = AllByRecursion (λ row. IsTrue (fits_each fs row)) rows
