-- How numbers and strings are printed.
use Rattle.std.specs.Prelude.{ℕ, ℤ, ◌%◌, ◌^◌, List, Option, Some, None}
use Rattle.std.specs.Int.{w64, cast_unsigned}
use Rattle.serde_json.specs.Data.{Num, unsigned}
use Rattle.serde_json.specs.Find.{of_integer}
use Rattle.schema.specs.declared.value.Kind.{Kind}
use Rattle.schema.specs.declared.value.Kind.TheVariants.{Int32}
use Rattle.schema.specs.declared.order.Order.{Order}
use Rattle.schema.specs.declared.order.Order.TheVariants as order
use Rattle.serde_json.specs.Data as json
use Rattle.serde_json.specs.Written.{compact_text, number_text}
use Rattle.leaftext.specs.declared.leaf_form.Form.{Form}
use Rattle.leaftext.specs.Forms.{form_text}
use Rattle.rowtext.specs.Json.{text_or}
use Rattle.rowtext.specs.declared.scalars.Numbers.{Numbers}
use Rattle.rowtext.specs.declared.scalars.Numbers.TheVariants.{Signed, Unsigned32, Unsigned64, Texts}

-- how the numbers of a leaf are printed
abbrev pub numbers_of : Kind → Option Order → Numbers
numbers_of Int32 (Some order.Unsigned) = Unsigned32
numbers_of _ (Some order.Unsigned) = Unsigned64
numbers_of _ _ = Signed

-- the same where the numbers may have texts of a form
abbrev pub numbers_as : Option Form → Kind → Option Order → Numbers
numbers_as (Some form) k o = Texts form
numbers_as None k o = numbers_of k o

-- the JSON number that is printed for an integer: itself, or the unsigned number of its lowest 32 bits or of all 64
abbrev pub number_shown : Numbers → ℤ → Num
number_shown Signed z = of_integer z
number_shown Unsigned32 z = unsigned (cast_unsigned w64 z % 2 ^ 32)
number_shown Unsigned64 z = unsigned (cast_unsigned w64 z)
number_shown (Texts form) z = of_integer z

-- what is printed for an integer: its text if it has one, and else its number
abbrev pub integer_text : Numbers → ℤ → List ℕ
integer_text Signed z = number_text (number_shown Signed z)
integer_text Unsigned32 z = number_text (number_shown Unsigned32 z)
integer_text Unsigned64 z = number_text (number_shown Unsigned64 z)
integer_text (Texts form) z = compact_text (text_or (form_text form z) (json.number (of_integer z)))
