-- No number of a schema is a float, so that its text is known.
use Rattle.std.proofs.Common.{◌≡◌, ℤ, pos, negsuc, ℕ, List, [], ◌∷◌, false, Option, Some, None, option_map, refl, sym, subst}
use Rattle.serde_json.specs.Data.{Data, Items, no_items, item, Members, string}
use Rattle.serde_json.specs.Written.{has_float, items_have_float, members_have_float}
use Rattle.schema.specs.declared.value.Repetition.{Repetition}
use Rattle.schema.specs.declared.value.Kind.{Kind}
use Rattle.schema.specs.declared.value.Kind.TheVariants.{Boolean, Int32, Int64, ByteArray, FixedLenByteArray}
use Rattle.schema.specs.declared.annotation.GroupAnnotation.{GroupAnnotation}
use Rattle.schema.specs.Annotations.{LeafType, Annotation, plain, known, other_converted, other_logical}
use Rattle.schema.specs.Shape.{Field, leaf, fields, Fields, no_fields, field}
use Rattle.jsonrows.specs.SchemaPrinted.{MayBe, with_member, those_there, integer_json, length_json, note_json, converted_json, logical_json, leaf_json, group_json, group_note_word, PrintsField, PrintsFields}

abbrev HasNone : Option Data → Type 0
HasNone None = Unit {0}
HasNone (Some d) = has_float d ≡ false

abbrev HaveNone : List MayBe → Type 0
HaveNone [] = Unit {0}
HaveNone (m ∷ ms) = HasNone m.1 × HaveNone ms

with_none : (k : List ℕ) (o : Option Data) (ms : Members) → HasNone o → members_have_float ms ≡ false → members_have_float (with_member k o ms) ≡ false
with_none k None ms here rest = rest
with_none k (Some d) ms here rest = rw here rest

there_none : (ms : List MayBe) → HaveNone ms → members_have_float (those_there ms) ≡ false
there_none [] h = refl
there_none (m ∷ ms) h = with_none m.0 m.1 (those_there ms) h.0 (there_none ms h.1)

number_none : (z : ℤ) → has_float (integer_json z) ≡ false
number_none (pos n) = refl
number_none (negsuc n) = refl

integer_none : (o : Option ℤ) → HasNone (option_map integer_json o)
integer_none None = tt
integer_none (Some z) = number_none z

length_none : (k : Kind) → HasNone (length_json k)
length_none Boolean = tt
length_none Int32 = tt
length_none Int64 = tt
length_none ByteArray = tt
length_none (FixedLenByteArray n) = refl

note_none : (a : Annotation) → HasNone (note_json a)
note_none plain = tt
note_none (known c) = refl
note_none (other_converted z) = refl
note_none (other_logical s) = refl

converted_none : (a : Annotation) → HasNone (converted_json a)
converted_none plain = tt
converted_none (known c) = tt
converted_none (other_converted z) = number_none z
converted_none (other_logical s) = tt

logical_none : (a : Annotation) (bytes : List ℕ) → HasNone (logical_json a bytes)
logical_none plain bytes = tt
logical_none (known c) bytes = tt
logical_none (other_converted z) bytes = tt
logical_none (other_logical s) bytes = refl

leaf_none : (n : List ℕ) (r : Repetition) (t : LeafType) (bytes : List ℕ) → members_have_float (those_there (leaf_json n r t bytes)) ≡ false
leaf_none n r t bytes =
    there_none (leaf_json n r t bytes)
    (converted_none t.annotation, (length_none t.kind, (logical_none t.annotation bytes, (refl, (note_none t.annotation, (integer_none t.precision, (refl, (integer_none t.scale, (refl, tt)))))))))

group_note_none : (a : Option GroupAnnotation) → HasNone (option_map (λ x. string (group_note_word x)) a)
group_note_none None = tt
group_note_none (Some x) = refl

group_none : (n : List ℕ) (r : Repetition) (a : Option GroupAnnotation) (below : Items) → items_have_float below ≡ false → members_have_float (those_there (group_json n r a below)) ≡ false
group_none n r a below h = there_none (group_json n r a below) (h, (refl, (group_note_none a, (refl, tt))))

mutual
  field_none : (f : Field) (d : Data) → PrintsField f d → has_float d ≡ false
  field_none (leaf n r t) d p = subst (λ x. has_float x ≡ false) (sym p.2) (leaf_none n r t p.0)
  field_none (fields n r a fs) d p = subst (λ x. has_float x ≡ false) (sym p.2) (group_none n r a p.0 (schema-has_no_float fs p.0 p.1))

  pub schema-has_no_float : (fs : Fields) (ds : Items) → PrintsFields fs ds → items_have_float ds ≡ false
  schema-has_no_float no_fields no_items p = refl
  schema-has_no_float no_fields (item d ds) p = absurd p
  schema-has_no_float (field f fs) no_items p = absurd p
  schema-has_no_float (field f fs) (item d ds) p = rw (field_none f d p.0) (schema-has_no_float fs ds p.1)
