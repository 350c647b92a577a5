-- Schemas as JSON values (RFC 8259): an array of fields, each an object of one of two forms, and the list of elements (parquet.thrift, SchemaElement) that it says.
use Rattle.std.specs.Option.{option_map_or}
use Rattle.std.specs.Prelude.{◌≡◌, ◌⊎◌, ◌↔◌, ℕ, ◌^◌, ◌<◌, ℤ, pos, Bool, true, false, ◌||◌, ◌&&◌, bytes_eq, codes, List, [], ◌∷◌, length, Option, Some, None, IsSome, if◌then◌else◌}
use Rattle.serde_json.specs.Data.{Data, Num, number, string, array, object, Items, no_items, item, Members, no_members, member}
use Rattle.serde_json.specs.Find.{as_i64, as_object, get_member}
use Rattle.serde_json.specs.Events.{items_len}
use Rattle.serde_json.specs.Read.{read}
use Rattle.bits.specs.declared.refusal.Refusal.{Refusal}
use Rattle.bits.specs.declared.refusal.Refusal.TheVariants.{Script, Memory}
use Rattle.thrift_compact.specs.Tree.{Fields as Struct}
use Rattle.thrift_compact.specs.Compact.{IsThrift}
use Rattle.schema.specs.declared.value.Kind.{Kind}
use Rattle.schema.specs.declared.building.Typed.TheVariants.{Stored}
use Rattle.schema.specs.Annotations.{Annotation, known, annotation_of}
use Rattle.schema.specs.Shape.{Fields}
use Rattle.schema.specs.Elements.{Element}
use Rattle.schema.specs.Fits.{is_within}
use Rattle.schema.specs.Listed.{root_name, group_element}
use Rattle.schema.specs.Listing.{typed, Branch, branch, Branches, no_branches, branches, depth_first, depth_first_each, IsSchemaOf}
use Rattle.schema.specs.Faults.{HasFault}
use Rattle.rowtext.specs.Reading.{bytes_of_digits}

-- ---- the words of the form

-- a word, and its number
abbrev pub Word : Type 0
Word = List ℕ × ℤ

-- the number of a text that is one of the words
abbrev pub number_of : List Word → List ℕ → Option ℤ
number_of [] s = None
number_of (w ∷ ws) s = if bytes_eq w.0 s then Some w.1 else number_of ws s

-- FieldRepetitionType (parquet.thrift) by its words
abbrev pub repetitions : List Word
repetitions = (codes "required", pos 0) ∷ (codes "optional", pos 1) ∷ (codes "repeated", pos 2) ∷ []

-- Type (parquet.thrift) by its words
abbrev pub types : List Word
types = (codes "boolean", pos 0) ∷ (codes "int32", pos 1) ∷ (codes "int64", pos 2) ∷ (codes "bytes", pos 6) ∷ (codes "fixed", pos 7) ∷ []

-- ConvertedType (parquet.thrift) of leaves by its words
abbrev pub notes : List Word
notes =
    (codes "utf8", pos 0) ∷ (codes "enum", pos 4) ∷ (codes "decimal", pos 5) ∷ (codes "date", pos 6) ∷ (codes "time_millis", pos 7) ∷ (codes "time_micros", pos 8)
    ∷ (codes "timestamp_millis", pos 9) ∷ (codes "timestamp_micros", pos 10) ∷ (codes "uint_8", pos 11) ∷ (codes "uint_16", pos 12) ∷ (codes "uint_32", pos 13)
    ∷ (codes "uint_64", pos 14) ∷ (codes "int_8", pos 15) ∷ (codes "int_16", pos 16) ∷ (codes "int_32", pos 17) ∷ (codes "int_64", pos 18) ∷ (codes "json", pos 19)
    ∷ (codes "bson", pos 20) ∷ (codes "interval", pos 21) ∷ []

-- ConvertedType (parquet.thrift) of groups by its words
abbrev pub group_notes : List Word
group_notes = (codes "map", pos 1) ∷ (codes "map_key_value", pos 2) ∷ (codes "list", pos 3) ∷ []

-- the names of the members that a leaf may have
abbrev pub leaf_members : List (List ℕ)
leaf_members = codes "name" ∷ codes "rep" ∷ codes "type" ∷ codes "length" ∷ codes "note" ∷ codes "scale" ∷ codes "precision" ∷ codes "converted" ∷ codes "logical" ∷ []

-- the names of the members that a group may have
abbrev pub group_members : List (List ℕ)
group_members = codes "name" ∷ codes "rep" ∷ codes "fields" ∷ codes "note" ∷ []

-- a name is one of these
abbrev pub is_one_of : List (List ℕ) → List ℕ → Bool
is_one_of [] k = false
is_one_of (n ∷ ns) k = bytes_eq n k || is_one_of ns k

-- each member has one of these names
abbrev pub are_called : List (List ℕ) → Members → Bool
are_called ns no_members = true
are_called ns (member k d ms) = is_one_of ns k && are_called ns ms

-- a JSON value is an object, and each of its members has one of these names
abbrev pub has_only : List (List ℕ) → Data → Bool
has_only ns d = option_map_or (are_called ns) (as_object d) false

-- ---- what one member says

-- a JSON value is this string
abbrev pub IsText : Data → List ℕ → Type 0
IsText d s = d ≡ string s

-- a JSON value is one of these words, the one with this number
abbrev pub IsWord : List Word → Data → ℤ → Type 0
IsWord ws d z = (s : List ℕ) × (d ≡ string s) × (number_of ws s ≡ Some z)

-- a JSON value is this integer, of 32 bits
abbrev pub IsInt32 : Data → ℤ → Type 0
IsInt32 d z = (n : Num) × (d ≡ number n) × (as_i64 n ≡ Some z) × (is_within 2147483648 z ≡ true)

-- a JSON value is the hexadecimal digits, in lower case, of the bytes of this struct
abbrev pub IsStruct : Data → Struct → Type 0
IsStruct d s = (digits bytes : List ℕ) × (d ≡ string digits) × (bytes_of_digits digits ≡ Some bytes) × IsThrift bytes s (length bytes)

-- the object has a member of this name, which says this
abbrev pub Has : {A : Type 0} → (Data → A → Type 0) → List ℕ → Members → A → Type 0
Has Says name ms x = (d : Data) × (get_member name ms ≡ Some d) × Says d x

-- the object has no member of this name
abbrev pub Lacks : List ℕ → Members → Type 0
Lacks name ms = get_member name ms ≡ None

-- the object has a member of this name, which says this; or it has no such member, and this is none
abbrev pub MayHave : {A : Type 0} → (Data → A → Type 0) → List ℕ → Members → Option A → Type 0
MayHave Says name ms None = Lacks name ms
MayHave Says name ms (Some x) = Has Says name ms x

-- ---- fields

-- an annotation has a name over the type of its leaf
abbrev pub is_known : Annotation → Bool
is_known (known c) = true
is_known _ = false

-- what the element is annotated with has no name over its type
abbrev pub IsUnnamed : Element → Type 0
IsUnnamed e = (z : ℤ) (k : Kind) → e.kind ≡ Some z → typed z e.type_length ≡ Some (Stored k) → is_known (annotation_of k e.converted_type e.logical_type) ≡ false

-- the note of a leaf: none; a ConvertedType by its name; or `other`,
-- with the number of a ConvertedType or the struct of a LogicalType that has no name over the type
abbrev pub IsNote : Option ℤ → Option Struct → Type 0 → Members → Type 0
IsNote None None Unnamed ms = Lacks (codes "note") ms × Lacks (codes "converted") ms × Lacks (codes "logical") ms
IsNote (Some z) None Unnamed ms =
    (Has (IsWord notes) (codes "note") ms z × Lacks (codes "converted") ms × Lacks (codes "logical") ms)
    ⊎ (Has IsText (codes "note") ms (codes "other") × Has IsInt32 (codes "converted") ms z × Lacks (codes "logical") ms × Unnamed)
IsNote None (Some s) Unnamed ms = Has IsText (codes "note") ms (codes "other") × Lacks (codes "converted") ms × Has IsStruct (codes "logical") ms s × Unnamed
IsNote (Some z) (Some s) Unnamed ms = ⊥

-- the members of a leaf, in any order, and no others; it has a length just where its type is fixed
pub record IsLeaf (e : Element) (ms : Members) : Type 0 where
  pub kind : ℤ
  pub repetition : ℤ
  pub called : Has IsText (codes "name") ms e.name
  pub repeats : Has (IsWord repetitions) (codes "rep") ms repetition
  pub stored : Has (IsWord types) (codes "type") ms kind
  pub length : MayHave IsInt32 (codes "length") ms e.type_length
  pub fixed : IsSome e.type_length ↔ (kind ≡ pos 7)
  pub note : IsNote e.converted_type e.logical_type (IsUnnamed e) ms
  pub scale : MayHave IsInt32 (codes "scale") ms e.scale
  pub precision : MayHave IsInt32 (codes "precision") ms e.precision
  pub only : are_called leaf_members ms ≡ true
  pub no_fields : Lacks (codes "fields") ms
  pub element : e ≡ record e { kind = Some kind; repetition_type = Some repetition; num_children = None; field_id = None }

-- the members of a group with these fields, in any order, and no others
pub record IsGroup (e : Element) (below : Items) (ms : Members) : Type 0 where
  pub repetition : ℤ
  pub called : Has IsText (codes "name") ms e.name
  pub repeats : Has (IsWord repetitions) (codes "rep") ms repetition
  pub fields : get_member (codes "fields") ms ≡ Some (array below)
  pub note : MayHave (IsWord group_notes) (codes "note") ms e.converted_type
  pub only : are_called group_members ms ≡ true
  pub few : items_len below < 2 ^ 31
  pub element : e ≡ group_element e.name (Some repetition) e.converted_type (items_len below)

-- a field is a leaf, or a group with those below it; fields are items, one for each
abbrev mutual
  pub SaysField : Branch → Data → Type 0
  SaysField (branch e bs) d = (ms : Members) × (d ≡ object ms) × ((IsLeaf e ms × (bs ≡ no_branches)) ⊎ ((below : Items) × IsGroup e below ms × SaysFields bs below))

  pub SaysFields : Branches → Items → Type 0
  SaysFields no_branches no_items = Unit {0}
  SaysFields (branches b bs) (item d ds) = SaysField b d × SaysFields bs ds
  SaysFields _ _ = ⊥

-- the elements of one field
abbrev pub SaysColumn : Data → List Element → Type 0
SaysColumn d es = (b : Branch) × SaysField b d × (es ≡ depth_first b)

-- ---- whole texts

-- a JSON value says these elements: it is an array of fields, and the elements are the root, and those of the fields depth first
pub record SaysSchema (d : Data) (es : List Element) : Type 0 where
  pub below : Items
  pub fields : Branches
  pub listed : d ≡ array below
  pub few : items_len below < 2 ^ 31
  pub say : SaysFields fields below
  pub elements : es ≡ group_element root_name None None (items_len below) ∷ depth_first_each fields

-- the elements that a text says
abbrev pub SaysElements : List ℕ → List Element → Type 0
SaysElements text es = (d : Data) × (read text ≡ Some d) × SaysSchema d es

-- a text says the elements of this schema
abbrev pub IsSchemaText : List ℕ → Fields → Type 0
IsSchemaText text fs = (es : List Element) × SaysElements text es × IsSchemaOf es fs

-- that fault is in the text: it says no elements, or those that it says have that fault; no other refusal comes
abbrev pub IsRefusedSchema : List ℕ → Refusal → Type 0
IsRefusedSchema text Script = (es : List Element) → SaysElements text es → ⊥
IsRefusedSchema text Memory = Unit {0}
IsRefusedSchema text e = (es : List Element) × SaysElements text es × HasFault es e
