-- What is printed of a schema says it.
use Rattle.std.proofs.Common.{◌≡◌, inl, inr, ℕ, zero, suc, ◌<◌, ◌^◌, nat_lt, ℤ, pos, negsuc, Bool, true, false, true≢false, ◌&&◌, codes, List, [], ◌∷◌, ◌++◌, Option, Some, None, option_map, refl, sym, ap, ap₂, subst, ◌∙◌, arith}
use Rattle.std.specs.Prelude.{◌↔◌, IsSome}
use Rattle.std.specs.Ordering.{nat_cmp, match_ordering, int_eq}
use Rattle.std.specs.declared.cmp.Ordering.{Ordering}
use Rattle.std.specs.declared.cmp.Ordering.TheVariants.{Less, Equal, Greater}
use Rattle.std.specs.Cmp.Lexicographic.{slice_cmp}
use Rattle.std.proofs.lemmas.Bool.Decides.{Decides-ltb}
use Rattle.std.proofs.lemmas.Bool.{and_parts as and_true}
use Rattle.std.proofs.lemmas.Option.{same_Some as same_value}
use Rattle.hex.specs.Hex.{encode_lower}
use Rattle.serde_json.specs.Data.{Data, string, array, Items, no_items, item, Members}
use Rattle.serde_json.specs.Find.{as_i64, of_integer, get_member}
use Rattle.serde_json.specs.Events.{items_len}
use Rattle.schema.specs.declared.value.Repetition.{Repetition}
use Rattle.schema.specs.declared.value.Repetition.TheVariants.{Required, Optional, Repeated}
use Rattle.schema.specs.declared.value.Kind.{Kind}
use Rattle.schema.specs.declared.value.Kind.TheVariants.{Boolean, Int32, Int64, ByteArray, FixedLenByteArray}
use Rattle.schema.specs.declared.building.Typed.TheVariants.{Stored}
use Rattle.schema.specs.declared.annotation.ConvertedType.{ConvertedType}
use Rattle.schema.specs.declared.annotation.ConvertedType.TheVariants as converted
use Rattle.schema.specs.declared.annotation.GroupAnnotation.{GroupAnnotation}
use Rattle.schema.specs.declared.annotation.GroupAnnotation.TheVariants.{Map, MapKeyValue, List as ListOfItems}
use Rattle.schema.specs.Annotations.{LeafType, Annotation, plain, known, other_converted, other_logical, annotation_of, number_of as converted_number_of, converted_number, logical_struct}
use Rattle.schema.specs.Shape.{Field, leaf, fields, Fields, no_fields, field, count}
use Rattle.schema.specs.Fits.{is_within}
use Rattle.schema.specs.Law.{HasLength, IsLeafType, IsValid, AreValid}
use Rattle.schema.specs.Listed.{type_number, type_length, repetition_number, group_converted, leaf_element, group_element, listing, listings, root_name, elements_of}
use Rattle.schema.specs.Listing.{typed, Branch, branch, Branches, no_branches, branches, depth_first, depth_first_each}
use Rattle.schema.proofs.Again.{a_schema_is_its_elements}
use Rattle.jsonrows.specs.SchemaJson.{number_of, repetitions, types, notes, group_notes, leaf_members, group_members, is_one_of, are_called, is_known, IsWord, IsInt32, MayHave, IsUnnamed, IsNote, IsLeaf, IsGroup, SaysField, SaysFields}
use Rattle.jsonrows.specs.SchemaPrinted.{repetition_word, type_word, note_word, group_note_word, MayBe, with_member, those_there, integer_json, length_json, note_json, converted_json, logical_json, leaf_json, group_json, Spells, PrintsField, PrintsFields, IsShort, IsOfShort, AreOfShort, SchemasReadBack}
use Rattle.rowtext.proofs.HexTexts.{digits_said}

-- ---- members that may be there

abbrev or_else : Option Data → Option Data → Option Data
or_else (Some d) o = Some d
or_else None o = o

abbrev found_among : List ℕ → List MayBe → Option Data
found_among k [] = None
found_among k (m ∷ ms) = match_ordering (slice_cmp nat_cmp k m.0) (found_among k ms) (or_else m.1 (found_among k ms)) (found_among k ms)

or_none : (o : Option Data) → or_else o None ≡ o
or_none None = refl
or_none (Some d) = refl

same_thrice : (o : Ordering) (x : Option Data) → x ≡ match_ordering o x x x
same_thrice Less x = refl
same_thrice Equal x = refl
same_thrice Greater x = refl

found-with : (k l : List ℕ) (o : Option Data) (ms : Members) (x : Option Data) → get_member k ms ≡ x → get_member k (with_member l o ms) ≡ match_ordering (slice_cmp nat_cmp k l) x (or_else o x) x
found-with k l None ms x e = e ∙ same_thrice (slice_cmp nat_cmp k l) x
found-with k l (Some d) ms x e = ap (λ y. match_ordering (slice_cmp nat_cmp k l) y (Some d) y) e

found_there : (k : List ℕ) (ms : List MayBe) → get_member k (those_there ms) ≡ found_among k ms
found_there k [] = refl
found_there k (m ∷ ms) = found-with k m.0 m.1 (those_there ms) (found_among k ms) (found_there k ms)

abbrev all_called : List (List ℕ) → List MayBe → Bool
all_called ns [] = true
all_called ns (m ∷ ms) = is_one_of ns m.0 && all_called ns ms

called-with : (ns : List (List ℕ)) (k : List ℕ) (o : Option Data) (ms : Members) → is_one_of ns k ≡ true → are_called ns ms ≡ true → are_called ns (with_member k o ms) ≡ true
called-with ns k None ms p q = q
called-with ns k (Some d) ms p q = rw (p, q) refl

called_there : (ns : List (List ℕ)) (ms : List MayBe) → all_called ns ms ≡ true → are_called ns (those_there ms) ≡ true
called_there ns [] h = refl
called_there ns (m ∷ ms) h =
    let p = and_true (is_one_of ns m.0) (all_called ns ms) h in
    called-with ns m.0 m.1 (those_there ms) p.0 (called_there ns ms p.1)

-- ---- what members say

below_63 : (z : ℤ) → is_within 2147483648 z ≡ true → as_i64 (of_integer z) ≡ Some z
below_63 (pos n) h =
    let low : n < 2147483648 = (Decides-ltb n 2147483648).0 h in
    let test : nat_lt n (2 ^ 63) ≡ true = (Decides-ltb n (2 ^ 63)).1 (omega arith) in
    rw test refl
below_63 (negsuc n) h = refl

is_integer : (z : ℤ) → is_within 2147483648 z ≡ true → IsInt32 (integer_json z) z
is_integer z h = (of_integer z, refl, below_63 z h, h)

may_be_integer : (k : List ℕ) (ms : Members) (o : Option ℤ) → get_member k ms ≡ option_map integer_json o → IsShort o → MayHave IsInt32 k ms o
may_be_integer k ms None e h = e
may_be_integer k ms (Some z) e h = (integer_json z, e, is_integer z h)

repetition_said : (r : Repetition) → IsWord repetitions (string (repetition_word r)) (pos (repetition_number r))
repetition_said Required = (codes "required", refl, refl)
repetition_said Optional = (codes "optional", refl, refl)
repetition_said Repeated = (codes "repeated", refl, refl)

type_said : (k : Kind) → IsWord types (string (type_word k)) (pos (type_number k))
type_said Boolean = (codes "boolean", refl, refl)
type_said Int32 = (codes "int32", refl, refl)
type_said Int64 = (codes "int64", refl, refl)
type_said ByteArray = (codes "bytes", refl, refl)
type_said (FixedLenByteArray n) = (codes "fixed", refl, refl)

note_numbered : (c : ConvertedType) → number_of notes (note_word c) ≡ Some (pos (converted_number_of c))
note_numbered converted.Utf8 = refl
note_numbered converted.Enum = refl
note_numbered converted.Decimal = refl
note_numbered converted.Date = refl
note_numbered converted.TimeMillis = refl
note_numbered converted.TimeMicros = refl
note_numbered converted.TimestampMillis = refl
note_numbered converted.TimestampMicros = refl
note_numbered converted.Uint8 = refl
note_numbered converted.Uint16 = refl
note_numbered converted.Uint32 = refl
note_numbered converted.Uint64 = refl
note_numbered converted.Int8 = refl
note_numbered converted.Int16 = refl
note_numbered converted.Int32 = refl
note_numbered converted.Int64 = refl
note_numbered converted.Json = refl
note_numbered converted.Bson = refl
note_numbered converted.Interval = refl

group_note_said : (ms : Members) (a : Option GroupAnnotation) → get_member (codes "note") ms ≡ option_map (λ x. string (group_note_word x)) a → MayHave (IsWord group_notes) (codes "note") ms (group_converted a)
group_note_said ms None e = e
group_note_said ms (Some Map) e = (string (codes "map"), e, (codes "map", refl, refl))
group_note_said ms (Some MapKeyValue) e = (string (codes "map_key_value"), e, (codes "map_key_value", refl, refl))
group_note_said ms (Some ListOfItems) e = (string (codes "list"), e, (codes "list", refl, refl))

-- ---- leaves

length_said : (k : Kind) (ms : Members) → HasLength k → get_member (codes "length") ms ≡ length_json k → MayHave IsInt32 (codes "length") ms (type_length k)
length_said Boolean ms h e = e
length_said Int32 ms h e = e
length_said Int64 ms h e = e
length_said ByteArray ms h e = e
length_said (FixedLenByteArray n) ms h e = (integer_json (pos n), e, is_integer (pos n) ((Decides-ltb n 2147483648).1 (omega (arith, h.1))))

no_fixed : (z : ℤ) → int_eq z (pos 7) ≡ false → z ≡ pos 7 → ⊥
no_fixed z h e = true≢false (sym (ap (λ x. int_eq x (pos 7)) e) ∙ h)

fixed_said : (k : Kind) → IsSome (type_length k) ↔ (pos (type_number k) ≡ pos 7)
fixed_said Boolean = ((λ h. absurd (true≢false (sym h))), (λ h. absurd (no_fixed (pos 0) refl h)))
fixed_said Int32 = ((λ h. absurd (true≢false (sym h))), (λ h. absurd (no_fixed (pos 1) refl h)))
fixed_said Int64 = ((λ h. absurd (true≢false (sym h))), (λ h. absurd (no_fixed (pos 2) refl h)))
fixed_said ByteArray = ((λ h. absurd (true≢false (sym h))), (λ h. absurd (no_fixed (pos 6) refl h)))
fixed_said (FixedLenByteArray n) = ((λ h. refl), (λ h. refl))

own_type : (k : Kind) → HasLength k → typed (pos (type_number k)) (type_length k) ≡ Some (Stored k)
own_type Boolean p = refl
own_type Int32 p = refl
own_type Int64 p = refl
own_type ByteArray p = refl
own_type (FixedLenByteArray zero) p = absurd (omega (arith, p.0))
own_type (FixedLenByteArray (suc n)) p = refl

own_kind : (k l : Kind) (z : ℤ) → HasLength k → Some (pos (type_number k)) ≡ Some z → typed z (type_length k) ≡ Some (Stored l) → k ≡ l
own_kind k l z h e f =
    let same : Some (Stored k) ≡ Some (Stored l) = sym (own_type k h) ∙ ap (λ x. typed x (type_length k)) (same_value (pos (type_number k)) z e) ∙ f in
    cc

unnamed_said : (n : List ℕ) (r : Repetition) (t : LeafType) → IsLeafType t → is_known t.annotation ≡ false → IsUnnamed (leaf_element n r t)
unnamed_said n r t h other z k e f =
    let same = own_kind t.kind k z h.length e f in
    subst (λ x. is_known (annotation_of x (converted_number t.annotation) (logical_struct t.annotation)) ≡ false) same (ap is_known h.decided ∙ other)

note_said : (a : Annotation) (bytes : List ℕ) (ms : Members) (U : Type 0) → (is_known a ≡ false → U) → IsShort (converted_number a) → Spells a bytes → get_member (codes "note") ms ≡ note_json a
    → get_member (codes "converted") ms ≡ converted_json a → get_member (codes "logical") ms ≡ logical_json a bytes → IsNote (converted_number a) (logical_struct a) U ms
note_said plain bytes ms U u h s n c l = (n, c, l)
note_said (known k) bytes ms U u h s n c l = inl ((string (note_word k), n, (note_word k, refl, note_numbered k)), c, l)
note_said (other_converted z) bytes ms U u h s n c l = inr ((string (codes "other"), n, refl), (integer_json z, c, is_integer z h), l, u refl)
note_said (other_logical x) bytes ms U u h s n c l = ((string (codes "other"), n, refl), c, (string (encode_lower bytes), l, (encode_lower bytes, bytes, refl, digits_said bytes s.1, s.0)), u refl)

leaf_said : (n : List ℕ) (r : Repetition) (t : LeafType) (bytes : List ℕ) → IsLeafType t → IsShort (converted_number t.annotation) × IsShort t.scale × IsShort t.precision → Spells t.annotation bytes
    → IsLeaf (leaf_element n r t) (those_there (leaf_json n r t bytes))
leaf_said n r t bytes h short spells =
    let all = leaf_json n r t bytes in
    let ms = those_there all in record {
      kind = pos (type_number t.kind);
      repetition = pos (repetition_number r);
      called = (string n, found_there (codes "name") all, refl);
      repeats = (string (repetition_word r), found_there (codes "rep") all, repetition_said r);
      stored = (string (type_word t.kind), found_there (codes "type") all, type_said t.kind);
      length = length_said t.kind ms h.length (found_there (codes "length") all ∙ or_none (length_json t.kind));
      fixed = fixed_said t.kind;
      note = note_said t.annotation bytes ms (IsUnnamed (leaf_element n r t)) (unnamed_said n r t h) short.0 spells (found_there (codes "note") all ∙ or_none (note_json t.annotation))
          (found_there (codes "converted") all ∙ or_none (converted_json t.annotation)) (found_there (codes "logical") all ∙ or_none (logical_json t.annotation bytes));
      scale = may_be_integer (codes "scale") ms t.scale (found_there (codes "scale") all ∙ or_none (option_map integer_json t.scale)) short.1;
      precision = may_be_integer (codes "precision") ms t.precision (found_there (codes "precision") all ∙ or_none (option_map integer_json t.precision)) short.2;
      only = called_there leaf_members all refl;
      no_fields = found_there (codes "fields") all;
      element = refl;
    }

-- ---- groups, and all fields

group_said : (n : List ℕ) (r : Repetition) (a : Option GroupAnnotation) (k : ℕ) (below : Items) → items_len below ≡ k → k < 2 ^ 31
    → IsGroup (group_element n (Some (pos (repetition_number r))) (group_converted a) k) below (those_there (group_json n r a below))
group_said n r a k below e few =
    let all = group_json n r a below in
    let ms = those_there all in record {
      repetition = pos (repetition_number r);
      called = (string n, found_there (codes "name") all, refl);
      repeats = (string (repetition_word r), found_there (codes "rep") all, repetition_said r);
      fields = found_there (codes "fields") all;
      note = group_note_said ms a (found_there (codes "note") all ∙ or_none (option_map (λ x. string (group_note_word x)) a));
      only = called_there group_members all refl;
      few = rw e few;
      element = ap (group_element n (Some (pos (repetition_number r))) (group_converted a)) (sym e);
    }

-- the tree that is listed
abbrev mutual
  tree_of : Field → Branch
  tree_of (leaf n r t) = branch (leaf_element n r t) no_branches
  tree_of (fields n r a fs) = branch (group_element n (Some (pos (repetition_number r))) (group_converted a) (count fs)) (trees_of fs)

  trees_of : Fields → Branches
  trees_of no_fields = no_branches
  trees_of (field f fs) = branches (tree_of f) (trees_of fs)

mutual
  is_listed : (f : Field) → listing f ≡ depth_first (tree_of f)
  is_listed (leaf n r t) = refl
  is_listed (fields n r a fs) = ap (λ es. group_element n (Some (pos (repetition_number r))) (group_converted a) (count fs) ∷ es) (are_listed fs)

  are_listed : (fs : Fields) → listings fs ≡ depth_first_each (trees_of fs)
  are_listed no_fields = refl
  are_listed (field f fs) = ap (λ es. es ++ listings fs) (is_listed f) ∙ ap (λ es. depth_first (tree_of f) ++ es) (are_listed fs)

as_many : (fs : Fields) (ds : Items) → PrintsFields fs ds → items_len ds ≡ count fs
as_many no_fields no_items p = refl
as_many no_fields (item d ds) p = absurd p
as_many (field f fs) no_items p = absurd p
as_many (field f fs) (item d ds) p = ap suc (as_many fs ds p.1)

mutual
  field_said : (f : Field) (d : Data) → IsValid f → IsOfShort f → PrintsField f d → SaysField (tree_of f) d
  field_said (leaf n r t) d valid short p = (those_there (leaf_json n r t p.0), p.2, inl (leaf_said n r t p.0 valid short p.1, refl))
  field_said (fields n r a fs) d valid short p =
      (those_there (group_json n r a p.0), p.2, inr (p.0, group_said n r a (count fs) p.0 (as_many fs p.0 p.1) short.0, fields_said fs p.0 valid.1 short.1 p.1))

  fields_said : (fs : Fields) (ds : Items) → AreValid fs → AreOfShort fs → PrintsFields fs ds → SaysFields (trees_of fs) ds
  fields_said no_fields no_items valid short p = tt
  fields_said no_fields (item d ds) valid short p = absurd p
  fields_said (field f fs) no_items valid short p = absurd p
  fields_said (field f fs) (item d ds) valid short p = (field_said f d valid.0 short.0 p.0, fields_said fs ds valid.1 short.1 p.1)

pub schemas_read_back : SchemasReadBack
schemas_read_back fs ds text valid few short prints reads =
    let many = as_many fs ds prints in
    let root = ap (group_element root_name None None) (sym many) in (
      elements_of fs,
      (
        array ds,
        reads,
        record {
          below = ds;
          fields = trees_of fs;
          listed = refl;
          few = rw many few;
          say = fields_said fs ds valid.1 short prints;
          elements = ap₂ (λ x xs. x ∷ xs) root (are_listed fs);
        },
      ),
      a_schema_is_its_elements fs valid,
    )
