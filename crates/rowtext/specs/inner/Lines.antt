-- What is read of a line.
use Rattle.std.specs.Prelude.{◌≡◌, ℕ, Bool, true, false, List, [], ◌∷◌, ◌++◌, drop, Some}
use Rattle.json.specs.Json.{value}
use Rattle.json.specs.Lex.{Lexeme, Place, fresh, after_value, between, lex, punctuate, begins_colon, may_begin, operator_lexeme}
use Rattle.json.specs.Token.{Token, key}
use Rattle.json.specs.Word.{ends_word}
use Rattle.serde_json.specs.Data.{Data, Members, no_members, member}
use Rattle.serde_json.specs.Read.{of_json, converted}
use Rattle.serde_json.specs.Written.{compact_text}
use Rattle.schema.specs.Shape.{Fields, field}
use Rattle.schema.specs.Values.{ValueTree, ValueTrees}
use Rattle.schema.specs.Values as row
use Rattle.rowtext.specs.Json.{field_json}
use Rattle.rowtext.specs.declared.cursor.Cursor.{Cursor}
use Rattle.rowtext.specs.inner.Slots.{slot_of, key_in, key_of}

-- what is left of a line
abbrev pub rest_of : Cursor → List ℕ
rest_of l = drop l.at l.text.now

-- the lexemes of what is left
abbrev pub lexemes_of : Cursor → List Lexeme
lexemes_of l = lex between (rest_of l)

-- the tokens of what is left, at this place of the grammar
abbrev pub tokens_at : Place → Cursor → List Token
tokens_at p l = punctuate p (lexemes_of l)

-- the place at which the first member or item of an object or an array may stand, or a further one
abbrev pub place_of : Bool → Place
place_of true = fresh
place_of false = after_value

-- these bytes were read
abbrev pub Takes : Cursor → Cursor → List ℕ → Type 0
Takes old new s = rest_of old ≡ s ++ rest_of new

-- these bytes were read, and the blanks after them
abbrev pub TakesText : Cursor → Cursor → List ℕ → Type 0
TakesText old new s = (r : List ℕ) × (rest_of old ≡ s ++ r) × (lexemes_of new ≡ lex between r)

-- a value that passes was read, as it is shown
abbrev pub IsShown : (ValueTree → Bool) → (ValueTree → Data) → Cursor → ValueTree → Cursor → Type 0
IsShown passes shown old v new = (passes v ≡ true) × Takes old new (compact_text (shown v))

-- blanks were passed over, and the value before them has ended
abbrev pub EndsValue : Cursor → Cursor → Type 0
EndsValue old new = (ends_word (rest_of old) ≡ true) × (lexemes_of new ≡ lexemes_of old) × (begins_colon (lexemes_of new) ≡ false)

-- a name was read where a member may begin, with its colon
abbrev pub IsKeyAt : List ℕ → Cursor → Cursor → Type 0
IsKeyAt k old new = (p : Place) → may_begin p ≡ true → tokens_at p old ≡ key k ∷ tokens_at fresh new

-- a value was read where one may begin, nested at most so deep
abbrev pub IsValueAt : ℕ → Data → Cursor → Cursor → Type 0
IsValueAt deep d old new = (p : Place) → may_begin p ≡ true → converted of_json (value deep (tokens_at p old)) ≡ Some (d, tokens_at after_value new)

-- a member or an item may begin
abbrev pub IsMore : Bool → Cursor → Cursor → Type 0
IsMore is_first old new = (p : Place) × (may_begin p ≡ true) × (tokens_at (place_of is_first) old ≡ tokens_at p new)

-- an object or an array has ended with this bracket
abbrev pub IsClosed : ℕ → Cursor → Cursor → Type 0
IsClosed closing old new = lexemes_of old ≡ operator_lexeme closing ∷ lexemes_of new

-- before the first member a brace stands in place of a comma
abbrev pub with_comma : Bool → List ℕ → List ℕ
with_comma true s = 44 ∷ s
with_comma false s = s

-- the members of an object, each with a comma before it, in the order of the fields
abbrev pub members_shown : Fields → ValueTrees → List ℕ
members_shown (field f fs) (row.value v vs) = (key_in (slot_of f) ++ compact_text (field_json f v)) ++ members_shown fs vs
members_shown _ _ = []

-- a member, with a comma before it
abbrev pub keyed : List ℕ → Data → List ℕ
keyed k d = key_of k ++ compact_text d

-- the members of an object, each with a comma before it
abbrev pub open_text : Members → List ℕ
open_text no_members = []
open_text (member k d ms) = keyed k d ++ open_text ms
