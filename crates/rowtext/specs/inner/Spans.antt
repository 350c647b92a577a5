-- What is read of the members of an object, which stand in the order of their names or in any order.
use Rattle.std.specs.Prelude.{◌≡◌, ℕ, zero, suc, ◌<◌, Bool, true, false, ◌&&◌, List, [], ◌∷◌, ◌++◌, length, Option, Some, None, get_or, slice_range, slice_set, take, ◌⊎◌}
use Rattle.json.specs.Lex.{token}
use Rattle.json.specs.Token.{string}
use Rattle.serde_json.specs.Data.{Data}
use Rattle.serde_json.specs.Written.{compact_text}
use Rattle.schema.specs.declared.value.Repetition.{Repetition}
use Rattle.schema.specs.declared.value.Repetition.TheVariants.{Required, Optional, Repeated}
use Rattle.schema.specs.Fits.{fits}
use Rattle.schema.specs.Shape.{Field, Fields, no_fields, field, repetition_of}
use Rattle.schema.specs.Values.{ValueTree, null}
use Rattle.assemble.specs.Sinks.{Token, single, list_begins, list_ends, tokens}
use Rattle.rowtext.specs.Json.{field_json}
use Rattle.rowtext.specs.Reading.{field_read_as}
use Rattle.rowtext.specs.declared.cursor.Cursor.{Cursor}
use Rattle.rowtext.specs.declared.pieces.Piece.{Piece}
use Rattle.rowtext.specs.declared.spans.Span.{Span}
use Rattle.rowtext.specs.inner.Fill.{IsCalled}
use Rattle.rowtext.specs.inner.Lines.{lexemes_of, IsKeyAt, IsValueAt, with_comma}
use Rattle.rowtext.specs.inner.Pieces.{tokens_of, Grows}
use Rattle.rowtext.specs.inner.Slots.{slot_of, key_in}

-- what the pieces of a member are; nothing where it was not read
abbrev pub span_tokens : List Piece → Option Span → List Token
span_tokens ps None = []
span_tokens ps (Some s) = tokens_of (slice_range ps s.from s.to)

-- the member was read: it is known where its pieces are
abbrev pub IsSpan : Option Span → Type 0
IsSpan None = ⊥
IsSpan (Some s) = Unit {0}

-- a value fits the field of this index
abbrev pub fits_at : Fields → ℕ → ValueTree → Bool
fits_at no_fields i v = false
fits_at (field f fs) zero v = fits f v
fits_at (field f fs) (suc i) v = fits_at fs i v

-- the text of the member of the field of this index, with a comma before it
abbrev pub member_text : Fields → ℕ → ValueTree → List ℕ
member_text no_fields i v = []
member_text (field f fs) zero v = key_in (slot_of f) ++ compact_text (field_json f v)
member_text (field f fs) (suc i) v = member_text fs i v

-- what a sink is shown of a member that is absent
abbrev pub absent_tokens : Repetition → List Token
absent_tokens Required = single null ∷ []
absent_tokens Optional = single null ∷ []
absent_tokens Repeated = list_begins ∷ list_ends ∷ []

-- what a sink is shown of a member, by where its pieces are
abbrev pub part_tokens : Field → List Piece → Option Span → List Token
part_tokens f ps None = absent_tokens (repetition_of f)
part_tokens f ps (Some s) = tokens_of (slice_range ps s.from s.to)

-- what a sink is shown of the members, in the order of the fields
abbrev pub parts_tokens : Fields → List Piece → List (Option Span) → List Token
parts_tokens (field f fs) ps (s ∷ ss) = part_tokens f ps s ++ parts_tokens fs ps ss
parts_tokens _ ps _ = []

-- a member of this repetition may be absent
abbrev pub may_lack : Repetition → Bool
may_lack Required = false
may_lack Optional = true
may_lack Repeated = true

-- a member was read, or may be absent
abbrev pub is_there : Field → Option Span → Bool
is_there f None = may_lack (repetition_of f)
is_there f (Some s) = true

-- each member was read, or may be absent
abbrev pub are_there : Fields → List (Option Span) → Bool
are_there no_fields [] = true
are_there (field f fs) (s ∷ ss) = is_there f s && are_there fs ss
are_there _ _ = false

-- all members were read, one after another in the order of the fields, from one index up to the other
abbrev pub AreJoined : ℕ → List (Option Span) → ℕ → Type 0
AreJoined from [] to = from ≡ to
AreJoined from (None ∷ ss) to = ⊥
AreJoined from (Some s ∷ ss) to = (s.from ≡ from) × AreJoined s.to ss to

-- the pieces from an index on are those of all fields, in their order
abbrev pub AreArranged : Fields → List (Option Span) → ℕ → List Piece → List Piece → Type 0
AreArranged fs ss from old new =
    (AreJoined from ss (length old) × (new ≡ old)) ⊎ ((are_there fs ss ≡ true) × Grows (take from old) new (parts_tokens fs old ss))

-- nothing was known of the member of this index, and its pieces are those from one length up to the other
abbrev pub IsNoted : List (Option Span) → ℕ → Span → List (Option Span) → Type 0
IsNoted old i s new = (i < length old) × ((get_or old i None ≡ None) × (new ≡ slice_set old i (Some s)))

-- the member of this index was read, as it is printed
abbrev pub IsMemberRead : Fields → ℕ → Bool → List ℕ → List ℕ → List Piece → List Piece → List (Option Span) → List (Option Span) → Type 0
IsMemberRead fs i first old new ks bs before after =
    (v : ValueTree) × ((fits_at fs i v ≡ true) × ((with_comma first old ≡ member_text fs i v ++ new) × (Grows ks bs (tokens v) × IsNoted before i (record { from = length ks; to = length bs }) after)))

-- what a member of the field of this index is read as
abbrev pub read_at : Bool → Fields → ℕ → Data → Option ValueTree
read_at texts no_fields i d = None
read_at texts (field f fs) zero d = field_read_as texts f (Some d)
read_at texts (field f fs) (suc i) d = read_at texts fs i d

-- the name of the field of this index was read, up to its colon
abbrev pub IsNameBefore : Fields → ℕ → Cursor → Cursor → Type 0
IsNameBefore fs i old new = (k : List ℕ) × IsCalled fs i k × (lexemes_of old ≡ token (string k) ∷ lexemes_of new)

-- the name of the field of this index was read, with its colon
abbrev pub IsNameAt : Fields → ℕ → Cursor → Cursor → Type 0
IsNameAt fs i old new = (k : List ℕ) × IsCalled fs i k × IsKeyAt k old new

-- a member was read, and it is known where its pieces are
abbrev pub IsMemberTaken : Bool → Fields → ℕ → Cursor → Cursor → List Piece → List Piece → List (Option Span) → List (Option Span) → Type 0
IsMemberTaken texts fs deep old new ks bs before after =
    (k : List ℕ) × (i : ℕ) × (d : Data) × (v : ValueTree) × (mid : Cursor) × IsKeyAt k old mid × IsCalled fs i k × IsValueAt deep d mid new × (read_at texts fs i d ≡ Some v)
    × Grows ks bs (tokens v) × IsNoted before i (record { from = length ks; to = length bs }) after
