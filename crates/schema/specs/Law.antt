-- Which trees of fields are schemas, and what holds of them.
use Rattle.std.specs.Prelude.{◌≡◌, ℕ, ℤ, Option, ◌<◌, ◌≤◌, ◌^◌, false, List, [], ◌∷◌, IsTrue, MatchOption, length}
use Rattle.std.specs.List.{AllByRecursion}
use Rattle.std.specs.Str.{is_utf8}
use Rattle.thrift_compact.specs.Tree.{Fields as Struct, fields_nest}
use Rattle.thrift_compact.specs.Writable.{HasBytes}
use Rattle.schema.specs.declared.value.Kind.{Kind}
use Rattle.schema.specs.declared.value.Kind.TheVariants.{FixedLenByteArray}
use Rattle.schema.specs.Annotations.{LeafType, Annotation, plain, known, other_converted, other_logical, annotation_of, converted_number, logical_struct, is_half}
use Rattle.schema.specs.Values.{ValueTrees, group}
use Rattle.schema.specs.Shape.{Field, leaf, fields, Fields, no_fields, field, name_of}
use Rattle.schema.specs.Fits.{fits_leaf, RowsFit}
use Rattle.schema.specs.Stripe.{Leaf, leaves_of, Entry, column, columns, greatest_repetition, greatest_definition, stripe}

-- the names of fields
abbrev pub names : Fields → List (List ℕ)
names no_fields = []
names (field f fs) = name_of f ∷ names fs

-- no two of these names are the same
abbrev pub AllDiffer : List (List ℕ) → Type 0
AllDiffer [] = Unit {0}
AllDiffer (n ∷ ns) = AllByRecursion (λ m. n ≡ m → ⊥) ns × AllDiffer ns

-- there is at least one field
abbrev pub IsFilled : Fields → Type 0
IsFilled no_fields = ⊥
IsFilled (field f fs) = Unit {0}

-- the fields of one group: there is at least one, and siblings have names of their own, in UTF-8
pub record IsGroupOf (fs : Fields) : Type 0 where
  pub some : IsFilled fs
  pub differ : AllDiffer (names fs)
  pub text : AllByRecursion (λ n. IsTrue (is_utf8 n)) (names fs)

-- The struct of a logicalType can stand in a footer: there it is three levels down, and a struct nests at most 32 deep.
-- Some bytes have it.
pub record IsWritable (s : Struct) : Type 0 where
  pub shallow : fields_nest s ≤ 29
  pub bytes : HasBytes s

-- a struct that is kept can be written again, and is not FLOAT16's
abbrev pub KeepsWritable : Annotation → Type 0
KeepsWritable plain = Unit {0}
KeepsWritable (known c) = Unit {0}
KeepsWritable (other_converted z) = Unit {0}
KeepsWritable (other_logical s) = IsWritable s × (is_half s ≡ false)

-- the length of fixed values is at least 1, and one that an i32 holds
abbrev pub HasLength : Kind → Type 0
HasLength (FixedLenByteArray n) = (1 ≤ n) × (n < 2 ^ 31)
HasLength _ = Unit {0}

-- a leaf type that an element can give: its annotation is what is decided from what is written for it, and its length and its struct are allowed
pub record IsLeafType (t : LeafType) : Type 0 where
  pub decided : annotation_of t.kind (converted_number t.annotation) (logical_struct t.annotation) ≡ t.annotation
  pub length : HasLength t.kind
  pub keeps : KeepsWritable t.annotation

-- at and below a field, and below some fields: each leaf has a type that an element can give, and the fields of each group are a group's
abbrev mutual
  pub IsValid : Field → Type 0
  IsValid (leaf n r t) = IsLeafType t
  IsValid (fields n r a fs) = IsGroupOf fs × AreValid fs

  pub AreValid : Fields → Type 0
  AreValid no_fields = Unit {0}
  AreValid (field f fs) = IsValid f × AreValid fs

-- the fields of a schema's root: those of a group (`IsGroupOf`), and valid at and below each of them
abbrev pub IsSchema : Fields → Type 0
IsSchema fs = IsGroupOf fs × AreValid fs

-- at most 1,024 leaves, and 32 fields on the path to each
pub record IsWithinLimits (fs : Fields) : Type 0 where
  pub leaves : length (leaves_of fs) ≤ 1024
  pub depth : AllByRecursion (λ (l : Leaf). length l.steps ≤ 32) (leaves_of fs)

-- the greatest levels of a leaf are those at the end of the path to it
pub record HasGreatestLevels (l : Leaf) : Type 0 where
  pub repetition : l.greatest_repetition ≡ greatest_repetition l.steps
  pub definition : l.greatest_definition ≡ greatest_definition l.steps

-- each leaf of some fields has the greatest levels of the path to it
abbrev pub LevelsAreOfSteps : Type 0
LevelsAreOfSteps = (fs : Fields) → AllByRecursion HasGreatestLevels (leaves_of fs)

-- an entry within these greatest levels: it has a value, which fits, exactly when its definition level is the greatest
pub record IsEntry (most full : ℕ) (t : LeafType) (e : Entry) : Type 0 where
  pub repetition : e.repetition ≤ most
  pub definition : e.definition ≤ full
  pub value : MatchOption e.value (e.definition < full) (λ v. (e.definition ≡ full) × IsTrue (fits_leaf t v))

-- an entry within the greatest levels of a leaf: it has a value, of the leaf's type, exactly when its definition level is the greatest
abbrev pub IsEntryOf : Leaf → Entry → Type 0
IsEntryOf l e = IsEntry l.greatest_repetition l.greatest_definition l.leaf_type e

-- the columns of rows that fit have only entries that are of their leaves (`IsEntryOf`)
abbrev pub EntriesAreOfLeaves : Type 0
EntriesAreOfLeaves = (fs : Fields) (rows : List ValueTrees) → RowsFit fs rows → AllByRecursion (λ l. AllByRecursion (IsEntryOf l) (column rows l.steps)) (leaves_of fs)

-- the first of the entries begins a row, and no other does
abbrev pub BeginsOneRow : List Entry → Type 0
BeginsOneRow [] = ⊥
BeginsOneRow (e ∷ es) = (e.repetition ≡ 0) × AllByRecursion (λ other. 0 < other.repetition) es

-- of the entries that a row that fits gives to a leaf, the first begins a row, and no other does
abbrev pub RowsBeginOnce : Type 0
RowsBeginOnce = (fs : Fields) (rows : List ValueTrees) → RowsFit fs rows
    → AllByRecursion (λ (l : Leaf). AllByRecursion (λ row. BeginsOneRow (stripe l.steps (group row) 0 0 0)) rows) (leaves_of fs)

-- an annotation that was decided once is decided so again from what is written for it
abbrev pub AnnotationsAreKept : Type 0
AnnotationsAreKept = (k : Kind) (z : Option ℤ) (s : Option Struct)
    → annotation_of k (converted_number (annotation_of k z s)) (logical_struct (annotation_of k z s)) ≡ annotation_of k z s

-- rows that fit one schema and have the same columns are the same rows
abbrev pub ColumnsDetermineRows : Type 0
ColumnsDetermineRows = (fs : Fields) (xs ys : List ValueTrees) → IsSchema fs → RowsFit fs xs → RowsFit fs ys → columns fs xs ≡ columns fs ys → xs ≡ ys

-- each leaf of a schema that keeps a struct keeps one that some bytes have
abbrev pub KeptStructsHaveBytes : Type 0
KeptStructsHaveBytes = (fs : Fields) → IsSchema fs → AllByRecursion (λ (l : Leaf). KeepsWritable l.leaf_type.annotation) (leaves_of fs)
