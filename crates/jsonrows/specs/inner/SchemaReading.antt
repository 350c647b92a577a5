-- What each of the functions that read a schema's text finds, member by member.
use Rattle.std.specs.Prelude.{◌≡◌, ℕ, zero, suc, ◌^◌, ℤ, pos, Bool, true, not, ◌&&◌, nat_lt, bytes_eq, codes, List, [], ◌∷◌, ◌++◌, length, Option, Some, None, option_map, option_and_then, if◌then◌else◌}
use Rattle.std.specs.Ordering.{int_eq}
use Rattle.serde_json.specs.Data.{Data, Items, no_items, item}
use Rattle.serde_json.specs.Find.{get, as_str, as_number, as_i64, as_array}
use Rattle.serde_json.specs.Events.{items_len}
use Rattle.serde_json.specs.Read.{read}
use Rattle.thrift_compact.specs.Tree.{Fields as Struct}
use Rattle.thrift_compact.specs.Compact.{IsThrift}
use Rattle.schema.specs.Elements.{Element}
use Rattle.schema.specs.Fits.{is_within}
use Rattle.schema.specs.declared.value.Kind.{Kind}
use Rattle.schema.specs.declared.building.Typed.{Typed}
use Rattle.schema.specs.declared.building.Typed.TheVariants.{Stored}
use Rattle.schema.specs.Annotations.{annotation_of}
use Rattle.schema.specs.Listing.{typed}
use Rattle.jsonrows.specs.declared.schema_reading.Numbers.{Numbers}
use Rattle.rowtext.specs.Reading.{bytes_of_digits}
use Rattle.jsonrows.specs.SchemaJson.{Word, number_of, repetitions, types, notes, group_notes, leaf_members, group_members, has_only, is_known}

infixl 10 ◌>>=◌
-- the second step with the value of the first; none if the first gave none
abbrev pub ◌>>=◌ : {A B : Type 0} → Option A → (A → Option B) → Option B
o >>= f = option_and_then f o

-- the number of the word that a JSON value is; none if it is none of these words
abbrev pub word_of : List Word → Data → Option ℤ
word_of ws d = option_and_then (number_of ws) (as_str d)

-- the integer of 32 bits that a JSON value is; none if it is no such integer
abbrev pub int32_of : Data → Option ℤ
int32_of d = option_and_then (λ z. if is_within 2147483648 z then Some z else None) (option_and_then as_i64 (as_number d))

-- what a member says that may be absent; none if it is there and says nothing
abbrev pub optional : {A : Type 0} → (Data → Option A) → Option Data → Option (Option A)
optional found None = Some None
optional found (Some d) = option_map Some (found d)

-- a member that must be absent; none if it is there
abbrev pub absent : Option Data → Option (Option ℤ)
absent None = Some None
absent (Some d) = None

-- the length of the values of a leaf: a fixed type has one, and others have none; none if that is not so
abbrev pub length_of : ℤ → Option Data → Option (Option ℤ)
length_of kind o = if int_eq kind (pos 7) then option_map Some (option_and_then int32_of o) else absent o

-- the numbers of a leaf: its type, the length, the scale and the precision
abbrev pub numbers_of : Data → Option Numbers
numbers_of d = do
  kind ← option_and_then (word_of types) (get (codes "type") d)
  length ← length_of kind (get (codes "length") d)
  scale ← optional int32_of (get (codes "scale") d)
  precision ← optional int32_of (get (codes "precision") d)
  Some (record { kind = kind; length = length; scale = scale; precision = precision })

-- a ConvertedType by its number, or the bytes of the struct of a LogicalType, or neither
pub record Note : Type 0 where
  pub converted : Option ℤ
  pub logical : Option (List ℕ)

-- the note of a ConvertedType's number and the bytes of a LogicalType's struct
abbrev pub note : Option ℤ → Option (List ℕ) → Note
note z s = record { converted = z; logical = s }

-- the physical type by the numbers of a leaf, where there is one
abbrev pub stored_kind : Option Typed → Option Kind
stored_kind (Some (Stored k)) = Some k
stored_kind _ = None

-- the physical type of a leaf from the number of its type and the length of its values; none if there is no such type
abbrev pub kind_of : Option ℤ → Option ℤ → Option Kind
kind_of (Some z) length = stored_kind (typed z length)
kind_of None length = None

-- an annotation has no name over the type of its leaf, or there is no such type
abbrev pub is_unnamed : Option Kind → Option ℤ → Option Struct → Bool
is_unnamed (Some k) c s = not (is_known (annotation_of k c s))
is_unnamed None c s = true

-- the note `other`, by the number of a ConvertedType or the bytes of a LogicalType's struct, of which it has one; none if it is not of the form
abbrev pub other_of : Option Kind → Option Data → Option Data → Option Note
other_of k (Some d) None = option_and_then (λ z. if is_unnamed k (Some z) None then Some (note (Some z) None) else None) (int32_of d)
other_of k None (Some d) = option_map (λ s. note None (Some s)) (option_and_then bytes_of_digits (as_str d))
other_of k _ _ = None

-- a ConvertedType by its name, or no note; none if a member `converted` or `logical` is there
abbrev pub named_of : Option ℤ → Option Data → Option Data → Option Note
named_of z None None = Some (note z None)
named_of z _ _ = None

-- the note of a leaf from its members `note`, `converted` and `logical`; none if they are not of the form
abbrev pub note_by : Option Kind → Option (Option (List ℕ)) → Option Data → Option Data → Option Note
note_by k None c l = None
note_by k (Some None) c l = named_of None c l
note_by k (Some (Some s)) c l = if bytes_eq s (codes "other") then other_of k c l else option_and_then (λ z. named_of (Some z) c l) (number_of notes s)

-- the note that the object of a leaf says; none if it is not of the form
abbrev pub note_of : Option Kind → Data → Option Note
note_of k d = note_by k (optional as_str (get (codes "note") d)) (get (codes "converted") d) (get (codes "logical") d)

-- what the object of a field says: its element, and the bytes of the struct of its logicalType
pub record Said : Type 0 where
  pub element : Element
  pub logical : Option (List ℕ)

-- what an object says of a leaf: its element from its name, repetition, numbers and note, and the bytes of its struct
abbrev pub said_of_leaf : List ℕ → ℤ → Numbers → Note → Said
said_of_leaf name repetition n t = record {
  element = record { kind = Some n.kind; type_length = n.length; repetition_type = Some repetition; name = name; num_children = None; converted_type = t.converted; scale = n.scale; precision = n.precision; field_id = None; logical_type = None };
  logical = t.logical;
}

-- what an object says of a group of n fields: its element from its name, repetition and ConvertedType; the root has no repetition
abbrev pub said_of_group : List ℕ → Option ℤ → ℕ → Option ℤ → Said
said_of_group name repetition n converted = record {
  element = record { kind = None; type_length = None; repetition_type = repetition; name = name; num_children = Some (pos n); converted_type = converted; scale = None; precision = None; field_id = None; logical_type = None };
  logical = None;
}

-- what the object of a leaf with this name and repetition says; none if it is not of the form
abbrev pub leaf_said : List ℕ → ℤ → Data → Option Said
leaf_said name repetition d = do
  n ← numbers_of d
  t ← note_of (kind_of (Some n.kind) n.length) d
  if has_only leaf_members d then Some (said_of_leaf name repetition n t) else None

-- what the object of a group with this name, this repetition and n fields says; none if it is not of the form
abbrev pub group_said : List ℕ → ℤ → Data → ℕ → Option Said
group_said name repetition d n = do
  converted ← optional (word_of group_notes) (get (codes "note") d)
  if has_only group_members d && nat_lt n (2 ^ 31) then Some (said_of_group name (Some repetition) n converted) else None

-- what the object of a field says, and then those below it: a leaf if it has no member `fields`, and else a group
abbrev pub said_by : (Items → Option (List Said)) → List ℕ → ℤ → Data → Option Data → Option (List Said)
said_by below name repetition d None = option_map (λ s. s ∷ []) (leaf_said name repetition d)
said_by below name repetition d (Some x) = option_and_then (λ ds. option_and_then (λ s. option_map (λ all. s ∷ all) (below ds)) (group_said name repetition d (items_len ds))) (as_array x)

-- what the object of a field says, and then those below it, depth first; none if it is not of the form
abbrev pub field_said : (Items → Option (List Said)) → Data → Option (List Said)
field_said below d = do
  name ← option_and_then as_str (get (codes "name") d)
  repetition ← option_and_then (word_of repetitions) (get (codes "rep") d)
  said_by below name repetition d (get (codes "fields") d)

-- what the objects of fields say, one after another
abbrev pub fields_said : (Items → Option (List Said)) → Items → Option (List Said)
fields_said below no_items = Some []
fields_said below (item d ds) = option_and_then (λ some. option_map (λ more. some ++ more) (fields_said below ds)) (field_said below d)

-- what the objects of fields say that are nested at most `deep` levels; none if they are nested deeper
abbrev pub said_below : ℕ → Items → Option (List Said)
said_below zero ds = None
said_below (suc deep) ds = fields_said (said_below deep) ds

-- the root, and all fields depth first; a JSON text never nests deeper
abbrev pub all_said : Data → Option (List Said)
all_said d = do
  ds ← as_array d
  if nat_lt (items_len ds) (2 ^ 31) then option_map (λ all. said_of_group (codes "schema") None (items_len ds) None ∷ all) (fields_said (said_below 64) ds) else None

-- what the text of a schema says
abbrev pub said_in : List ℕ → Option (List Said)
said_in text = option_and_then all_said (read text)

-- all of the bytes are those of the struct, or there is neither
abbrev pub HasStruct : Option (List ℕ) → Option Struct → Type 0
HasStruct None None = Unit {0}
HasStruct (Some s) (Some fs) = IsThrift s fs (length s)
HasStruct _ _ = ⊥

-- the element, with its struct, which has no name over the type
pub record IsElementOf (s : Said) (e : Element) : Type 0 where
  pub same : e ≡ record s.element { logical_type = e.logical_type }
  pub kept : HasStruct s.logical e.logical_type
  pub unnamed : is_unnamed (kind_of s.element.kind s.element.type_length) None e.logical_type ≡ true

-- each element is that of what an object says, one for each and in their order
abbrev pub AreElementsOf : List Said → List Element → Type 0
AreElementsOf [] [] = Unit {0}
AreElementsOf (s ∷ ss) (e ∷ es) = IsElementOf s e × AreElementsOf ss es
AreElementsOf _ _ = ⊥
