-- What a column says of the meaning of its values, in words: parquet.thrift, ConvertedType and LogicalType.
use Rattle.std.specs.Prelude.{ℕ, ℤ, pos, List, ◌++◌, Option, Some, None, option_map, codes}
use Rattle.std.specs.Fmt.{signed_decimal}
use Rattle.thrift_compact.specs.Tree.{Fields, no_fields, field}
use Rattle.schema.specs.Annotations.{Annotation, plain, known, other_converted, other_logical, LeafType, number_of}
use Rattle.reports.specs.Names.{converted_name, logical_name}

-- a name, or the number itself where it has none
abbrev pub name_or_number : Option (List ℕ) → ℤ → List ℕ
name_or_number (Some name) z = name
name_or_number None z = signed_decimal z

-- the number that is said, and 0 where none is
abbrev pub or_zero : Option ℤ → ℤ
or_zero (Some z) = z
or_zero None = pos 0

-- a converted type with a precision and a scale
abbrev pub decimal_words : List ℕ → ℤ → ℤ → List ℕ
decimal_words name precision scale = name ++ (codes ", precision " ++ (signed_decimal precision ++ (codes ", scale " ++ signed_decimal scale)))

-- a converted type, and the precision and the scale of a column that says a precision
abbrev pub converted_words : List ℕ → Option ℤ → Option ℤ → List ℕ
converted_words name (Some precision) scale = decimal_words name precision (or_zero scale)
converted_words name None scale = name

-- a logical type
abbrev pub logical_words : List ℕ → List ℕ
logical_words name = codes "logical " ++ name

-- the name of the member that is set in a logical type, or its id where it has no name; None where none is set
abbrev pub member_name : Fields → Option (List ℕ)
member_name (field id value members) = Some (name_or_number (logical_name id) id)
member_name no_fields = None

-- what a logical type says, if a member of it is set
abbrev pub logical_note : Fields → Option (List ℕ)
logical_note tree = option_map logical_words (member_name tree)

-- what a converted type says by its number
abbrev pub converted_note : ℤ → Option ℤ → Option ℤ → List ℕ
converted_note z precision scale = converted_words (name_or_number (converted_name z) z) precision scale

-- what an annotation says, next to a precision and a scale
abbrev pub annotation_note : Annotation → Option ℤ → Option ℤ → Option (List ℕ)
annotation_note plain precision scale = None
annotation_note (known converted) precision scale = Some (converted_note (pos (number_of converted)) precision scale)
annotation_note (other_converted z) precision scale = Some (converted_note z precision scale)
annotation_note (other_logical tree) precision scale = logical_note tree

-- what a column says of the meaning of its values; None where it says nothing
abbrev pub note_of : LeafType → Option (List ℕ)
note_of t = annotation_note t.annotation t.precision t.scale
