-- Files that were written before fields were added to a table: they have the first of its fields, and their rows have Null
-- in the others.
use Rattle.std.specs.Prelude.{◌≡◌, ℕ, zero, suc, ◌-◌, ◌≤◌, IsTrue, List, ◌++◌, length, map, replicate, take, None}
use Rattle.schema.specs.declared.value.Repetition.TheVariants.{Optional}
use Rattle.schema.specs.Values.{ValueTrees, null, no_values, value as item}
use Rattle.schema.specs.Shape.{Field, Fields, no_fields, field, count, repetition_of}
use Rattle.schema.specs.Stripe.{Entry, leaves_of, columns}
use Rattle.schema.specs.Law.{IsSchema}
use Rattle.schema.specs.Fits.{fits_each, RowsFit}

-- the first n of some fields; all of them if there are fewer
abbrev pub first_fields : ℕ → Fields → Fields
first_fields zero fs = no_fields
first_fields (suc n) no_fields = no_fields
first_fields (suc n) (field f fs) = field f (first_fields n fs)

-- the fields after the first n; none if there are no more than n
abbrev pub fields_after : ℕ → Fields → Fields
fields_after zero fs = fs
fields_after (suc n) no_fields = no_fields
fields_after (suc n) (field f fs) = fields_after n fs

-- each of these fields is OPTIONAL
abbrev pub AreOptional : Fields → Type 0
AreOptional no_fields = Unit {0}
AreOptional (field f fs) = (repetition_of f ≡ Optional) × AreOptional fs

-- a file can have the first n of a table's fields: at least one, at most all of them, and the fields that the file lacks are OPTIONAL
pub record IsFront (n : ℕ) (fs : Fields) : Type 0 where
  pub some : 1 ≤ n
  pub there : n ≤ count fs
  pub optional : AreOptional (fields_after n fs)

-- a row of the first of these fields, with Null for each of the others
abbrev pub padded : Fields → ValueTrees → ValueTrees
padded no_fields row = row
padded (field f fs) no_values = item null (padded fs no_values)
padded (field f fs) (item v vs) = item v (padded fs vs)

-- the entry of a leaf in a row in which the leaf's OPTIONAL top-level field is null
abbrev pub absent_entry : Entry
absent_entry = record { repetition = 0; definition = 0; value = None }

-- some fields, and a further one at the end
abbrev pub with_field : Fields → Field → Fields
with_field no_fields g = field g no_fields
with_field (field f fs) g = field f (with_field fs g)

-- a row with Null at the end
abbrev pub with_null : ValueTrees → ValueTrees
with_null no_values = item null no_values
with_null (item v vs) = item v (with_null vs)

-- ---- what holds of the first fields of a table

-- the leaves of the first fields are the first leaves
abbrev pub FrontsHaveFirstLeaves : Type 0
FrontsHaveFirstLeaves = (n : ℕ) (fs : Fields) → leaves_of (first_fields n fs) ≡ take (length (leaves_of (first_fields n fs))) (leaves_of fs)

-- the number of leaves of the first fields of a schema says how many of its fields these are
abbrev pub LeavesTellFronts : Type 0
LeavesTellFronts = (n m : ℕ) (fs : Fields) → IsSchema fs → n ≤ count fs → m ≤ count fs → length (leaves_of (first_fields n fs)) ≡ length (leaves_of (first_fields m fs)) → n ≡ m

-- a row that fits the fields of a file fits all the fields of the table when it is padded
abbrev pub PaddedRowsFit : Type 0
PaddedRowsFit = (n : ℕ) (fs : Fields) (row : ValueTrees) → IsFront n fs → IsTrue (fits_each (first_fields n fs) row) → IsTrue (fits_each fs (padded fs row))

-- padding leaves a row that fits all the fields as it is
abbrev pub WholeRowsArePadded : Type 0
WholeRowsArePadded = (fs : Fields) (row : ValueTrees) → IsTrue (fits_each fs row) → padded fs row ≡ row

-- padding a row to some more fields and then to all is padding it to all
abbrev pub PaddingComposes : Type 0
PaddingComposes = (n : ℕ) (fs : Fields) (row : ValueTrees) → padded fs (padded (first_fields n fs) row) ≡ padded fs row

-- the columns of padded rows are those of the rows, and for each other leaf a null for each row
abbrev pub PaddedRowsHaveColumns : Type 0
PaddedRowsHaveColumns = (n : ℕ) (fs : Fields) (rows : List ValueTrees) → IsFront n fs → RowsFit (first_fields n fs) rows
    → columns fs (map (padded fs) rows) ≡ columns (first_fields n fs) rows ++ replicate (length (leaves_of fs) - length (leaves_of (first_fields n fs))) (replicate (length rows) absent_entry)
