-- The content of a string with escapes, and the bytes for which it stands.
use Rattle.std.specs.Prelude.{◌≡◌, ℕ, ◌+◌, ◌-◌, ◌*◌, ◌%◌, ◌==◌, true, nat_le, List, [], ◌∷◌, ◌++◌, Option, Some, None, if◌then◌else◌}
use Rattle.std.specs.Str.{is_utf8}
use Rattle.json.specs.Lex.{between, in_string, lex, tokens}
use Rattle.json.specs.Print.{escape}
use Rattle.json.specs.Token.{Token, string}
use Rattle.schema.specs.Fits.{are_bytes}

-- the byte for which a letter behind a backslash stands
abbrev pub byte_of_letter : ℕ → ℕ
byte_of_letter c = if c == 98 then 8 else if c == 102 then 12 else if c == 110 then 10 else if c == 114 then 13 else if c == 116 then 9 else c

-- the value of a digit in lower case
abbrev pub value_of_digit : ℕ → ℕ
value_of_digit c = (if nat_le c 57 then c - 48 else c - 87) % 16

-- the bytes for which the content of a string stands; what stands there from behind a backslash; from behind its `u`, where the last two of four digits count
abbrev mutual
  pub unescape : List ℕ → List ℕ
  unescape [] = []
  unescape (x ∷ s) = if x == 92 then behind_backslash s else x ∷ unescape s

  pub behind_backslash : List ℕ → List ℕ
  behind_backslash [] = []
  behind_backslash (c ∷ s) = if c == 117 then behind_u s else byte_of_letter c ∷ unescape s

  pub behind_u : List ℕ → List ℕ
  behind_u (a ∷ b ∷ c ∷ d ∷ s) = (value_of_digit c * 16 + value_of_digit d) ∷ unescape s
  behind_u _ = []

-- bytes that are UTF-8
abbrev pub IsText : List ℕ → Type 0
IsText s = (are_bytes s ≡ true) × (is_utf8 s ≡ true)

-- the content of a string as the text is printed
abbrev pub IsPrintedText : List ℕ → List ℕ → Type 0
IsPrintedText raw s = IsText s × (raw ≡ escape s)

-- ---- strings with escapes in any form

-- the string that tokens begin with; none where they begin with none
abbrev pub first_string : List Token → Option (List ℕ)
first_string (string s ∷ ts) = Some s
first_string _ = None

-- the bytes of the string that a text begins with, in its quotes; none where it begins with none
abbrev pub string_in : List ℕ → Option (List ℕ)
string_in text = first_string (tokens text)

abbrev or_empty : Option (List ℕ) → List ℕ
or_empty None = []
or_empty (Some s) = s

-- these bytes, or none where the text begins with no string
abbrev pub bytes_in : List ℕ → List ℕ
bytes_in text = or_empty (string_in text)

-- a string stands there in its quotes, and the lexer goes on after it with what is left
abbrev pub IsStringBefore : List ℕ → List ℕ → Type 0
IsStringBefore text left = (xs : List ℕ) × (text ≡ 34 ∷ xs) × (lex in_string (xs ++ left) ≡ lex between left)
