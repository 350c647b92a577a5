-- The text of a value of a leaf.
use Rattle.std.specs.Prelude.{ℕ, Bool, List, if◌then◌else◌}
use Rattle.json.specs.Print.{quoted}
use Rattle.serde_json.specs.Data as json
use Rattle.serde_json.specs.Written.{compact_text}
use Rattle.hex.specs.Hex.{encode_lower}
use Rattle.schema.specs.Values.{ValueTree, boolean, integer, bytes}
use Rattle.rowtext.specs.declared.scalars.Numbers.{Numbers}
use Rattle.rowtext.specs.declared.scalars.Numbers.TheVariants.{Texts}
use Rattle.rowtext.specs.Json.{bytes_shown}
use Rattle.rowtext.specs.inner.Scalars.{integer_text}

-- the text of bytes that are no text: as their form shows them, and else their hexadecimal digits in quotes
abbrev pub digits_text : Numbers → List ℕ → List ℕ
digits_text (Texts form) s = compact_text (bytes_shown form s)
digits_text _ s = quoted (encode_lower s)

-- the text of bytes: themselves in quotes if they are text
abbrev pub bytes_text : Numbers → Bool → List ℕ → List ℕ
bytes_text n t s = if t then quoted s else digits_text n s

-- the text of a value of a leaf; null for a value that no leaf has
abbrev pub value_text : Numbers → Bool → ValueTree → List ℕ
value_text n t (boolean b) = compact_text (json.boolean b)
value_text n t (integer z) = integer_text n z
value_text n t (bytes s) = bytes_text n t s
value_text n t _ = compact_text json.null
