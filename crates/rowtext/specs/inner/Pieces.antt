-- What the pieces of a row are that was read from a line.
use Rattle.std.specs.Prelude.{◌≡◌, ℕ, ℤ, Bool, true, List, ◌∷◌, ◌++◌, map, Option, Some}
use Rattle.json.specs.Lex.{fresh, after_value, token}
use Rattle.json.specs.Print.{IsNumber}
use Rattle.json.specs.Token as lexed
use Rattle.json.specs.Word.{ends_word}
use Rattle.serde_json.specs.Data.{Data, string}
use Rattle.serde_json.specs.Data as json
use Rattle.serde_json.specs.Read.{number_of}
use Rattle.serde_json.specs.Written.{number_text}
use Rattle.schema.specs.Shape.{Fields}
use Rattle.schema.specs.Annotations.{LeafType, order_of}
use Rattle.schema.specs.Fits.{fits_leaf}
use Rattle.schema.specs.Values.{ValueTree, null, boolean, integer, bytes, ValueTrees}
use Rattle.assemble.specs.Sinks.{Token, single, group_begins, group_ends, list_begins, list_ends, tokens, tokens_each}
use Rattle.leaftext.specs.declared.leaf_form.Form.{Form}
use Rattle.leaftext.specs.Forms.{form_read}
use Rattle.rowtext.specs.Json.{number_json, leaf_json}
use Rattle.rowtext.specs.Reading.{leaf_read_by, items_read, members_read_as}
use Rattle.rowtext.specs.declared.cursor.Cursor.{Cursor}
use Rattle.rowtext.specs.declared.pieces.Piece.{Piece}
use Rattle.rowtext.specs.declared.pieces.Piece.TheVariants.{Null, Bool as OfBool, Int, Text, Escaped, Quoted, Digits, GroupBegins, GroupEnds, ListBegins, ListEnds}
use Rattle.json.specs.Print.{quoted}
use Rattle.rowtext.specs.inner.Escapes.{unescape, IsText, bytes_in}
use Rattle.rowtext.specs.inner.Fill.{HoldsItems, HoldsMembers}
use Rattle.rowtext.specs.inner.Lines.{rest_of, lexemes_of, Takes, IsShown, IsValueAt, tokens_at}
use Rattle.rowtext.specs.inner.LowerDigits.{bytes_of_pairs}

-- what a sink is shown of a piece
abbrev pub token_of : Piece → Token
token_of Null = single null
token_of (OfBool b) = single (boolean b)
token_of (Int z) = single (integer z)
token_of (Text s) = single (bytes s.now)
token_of (Escaped s) = single (bytes (unescape s.now))
token_of (Quoted s) = single (bytes (bytes_in s.now))
token_of (Digits s) = single (bytes (bytes_of_pairs s.now))
token_of GroupBegins = group_begins
token_of GroupEnds = group_ends
token_of ListBegins = list_begins
token_of ListEnds = list_ends

-- what a sink is shown of pieces, one token for each
abbrev pub tokens_of : List Piece → List Token
tokens_of ps = map token_of ps

-- pieces were added, which are these tokens
abbrev pub Grows : List Piece → List Piece → List Token → Type 0
Grows old new ts = tokens_of new ≡ tokens_of old ++ ts

-- pieces are the values of a row
abbrev pub IsShownAs : List Piece → ValueTrees → Type 0
IsShownAs ps vs = tokens_of ps ≡ tokens_each vs

-- a text was read, whose piece this is
abbrev pub IsTextRead : Cursor → Cursor → Piece → Type 0
IsTextRead old new p = (s : List ℕ) × (IsText s × ((token_of p ≡ single (bytes s)) × Takes old new (quoted s)))

-- bytes of a leaf were added, which a string shows
abbrev pub IsAdded : LeafType → List ℕ → List Piece → List Piece → Type 0
IsAdded t s before after = (b : List ℕ) × ((fits_leaf t (bytes b) ≡ true) × ((leaf_json t (bytes b) ≡ string s) × Grows before after (tokens (bytes b))))

-- a value that passes was read, as it is shown, and its pieces were added
abbrev pub IsRead : (ValueTree → Bool) → (ValueTree → Data) → Cursor → Cursor → List Piece → List Piece → Type 0
IsRead passes shown old new before after = (v : ValueTree) × (IsShown passes shown old v new × Grows before after (tokens v))

-- values that pass together were read, whose text this is, and their pieces were added
abbrev pub AreRead : (ValueTrees → Bool) → (ValueTrees → List ℕ) → List ℕ → List ℕ → List Piece → List Piece → Type 0
AreRead passes text old new before after = (vs : ValueTrees) × ((passes vs ≡ true) × ((old ≡ text vs ++ new) × Grows before after (tokens_each vs)))

-- a JSON value that is no array and no object, and has a text
abbrev pub IsScalar : Data → Type 0
IsScalar json.null = Unit {0}
IsScalar (json.boolean b) = Unit {0}
IsScalar (json.number n) = IsNumber (number_text n) × (number_of (number_text n) ≡ Some n)
IsScalar (json.string s) = Unit {0}
IsScalar (json.array ds) = ⊥
IsScalar (json.object ms) = ⊥

-- the token of such a value
abbrev pub scalar_token : Data → lexed.Token
scalar_token json.null = lexed.null
scalar_token (json.boolean b) = lexed.boolean b
scalar_token (json.number n) = lexed.number (number_text n)
scalar_token (json.string s) = lexed.string s
scalar_token _ = lexed.bad

-- such a value was read, if what is left ends it
abbrev pub IsScalarAt : Data → Cursor → Cursor → Type 0
IsScalarAt d old new = IsScalar d × (ends_word (rest_of new) ≡ true → lexemes_of old ≡ token (scalar_token d) ∷ lexemes_of new)

-- a text was read by its string, whose escapes have any form, and this is its piece
abbrev pub IsTextLexed : Cursor → Cursor → Piece → Type 0
IsTextLexed old new p = (s : List ℕ) × IsText s × (token_of p ≡ single (bytes s)) × (lexemes_of old ≡ token (lexed.string s) ∷ lexemes_of new)

-- an integer of a leaf was read, as it is shown, and its piece was added
abbrev pub IsIntegerRead : LeafType → Cursor → Cursor → List Piece → List Piece → Type 0
IsIntegerRead t old new before after =
    (z : ℤ) × (fits_leaf t (integer z) ≡ true) × Takes old new (number_text (number_json t.kind (order_of t) z)) × Grows before after (tokens (integer z))

-- the number whose text this is was added
abbrev pub IsNumberAdded : Form → LeafType → List ℕ → List Piece → List Piece → Type 0
IsNumberAdded form t s before after = (z : ℤ) × (form_read form s ≡ Some z) × (fits_leaf t (integer z) ≡ true) × Grows before after (tokens (integer z))

-- a value of a leaf was read, whose values have texts of this form, and its pieces were added
abbrev pub IsLeafRead : Option Form → LeafType → Cursor → Cursor → List Piece → List Piece → Type 0
IsLeafRead form t old new before after =
    (d : Data) × (v : ValueTree) × IsScalarAt d old new × (leaf_read_by form t d ≡ Some v) × Grows before after (tokens v)

-- a value was read, as which `read` takes its JSON value, and its pieces were added
abbrev pub IsTaken : (Data → Option ValueTree) → ℕ → Cursor → Cursor → List Piece → List Piece → Type 0
IsTaken read deep old new before after = (d : Data) × (v : ValueTree) × IsValueAt deep d old new × (read d ≡ Some v) × Grows before after (tokens v)

-- the items of an array were read, after its bracket, and their pieces were added
abbrev pub AreItemsTaken : (Data → Option ValueTree) → ℕ → Cursor → Cursor → List Piece → List Piece → Type 0
AreItemsTaken inside deep old new before after =
    (vs : ValueTrees) × HoldsItems (items_read inside) deep (tokens_at fresh old) vs (tokens_at after_value new) × Grows before after (tokens_each vs)

-- the members of an object were read, after its brace, and the pieces of all fields were added
abbrev pub AreMembersTaken : Bool → Fields → ℕ → Cursor → Cursor → List Piece → List Piece → Type 0
AreMembersTaken texts fs deep old new before after =
    (vs : ValueTrees) × HoldsMembers (members_read_as texts fs) deep (tokens_at fresh old) vs (tokens_at after_value new) × Grows before after (tokens_each vs)
