-- How deep the JSON value of a schema nests.
use Rattle.std.proofs.Common.{ℕ, suc, ◌*◌, ◌≤◌, List, [], ◌∷◌, Option, Some, None, ℤ, option_map, sym, subst, arith}
use Rattle.serde_json.specs.Data.{Data, Items, no_items, item, Members, string, depth, items_depth, members_depth}
use Rattle.schema.specs.declared.value.Repetition.{Repetition}
use Rattle.schema.specs.declared.value.Kind.{Kind}
use Rattle.schema.specs.declared.value.Kind.TheVariants.{Boolean, Int32, Int64, ByteArray, FixedLenByteArray}
use Rattle.schema.specs.declared.annotation.GroupAnnotation.{GroupAnnotation}
use Rattle.schema.specs.Annotations.{LeafType, Annotation, plain, known, other_converted, other_logical}
use Rattle.schema.specs.Shape.{Field, leaf, fields, Fields, no_fields, field}
use Rattle.schema.specs.Reading.{tall, tallest}
use Rattle.jsonrows.specs.SchemaPrinted.{MayBe, with_member, those_there, integer_json, length_json, note_json, converted_json, logical_json, leaf_json, group_json, group_note_word, PrintsField, PrintsFields}

-- a member that may be there nests at most so deep
abbrev IsShallow : ℕ → Option Data → Type 0
IsShallow n None = Unit {0}
IsShallow n (Some d) = depth d ≤ n

abbrev AreShallow : ℕ → List MayBe → Type 0
AreShallow n [] = Unit {0}
AreShallow n (m ∷ ms) = IsShallow n m.1 × AreShallow n ms

with_shallow : (n : ℕ) (k : List ℕ) (o : Option Data) (ms : Members) → IsShallow n o → members_depth ms ≤ n → members_depth (with_member k o ms) ≤ n
with_shallow n k None ms here rest = rest
with_shallow n k (Some d) ms here rest = omega (arith, here, rest)

there_shallow : (n : ℕ) (ms : List MayBe) → AreShallow n ms → members_depth (those_there ms) ≤ n
there_shallow n [] h = omega arith
there_shallow n (m ∷ ms) h = with_shallow n m.0 m.1 (those_there ms) h.0 (there_shallow n ms h.1)

integer_shallow : (o : Option ℤ) → IsShallow 0 (option_map integer_json o)
integer_shallow None = tt
integer_shallow (Some z) = omega arith

length_shallow : (k : Kind) → IsShallow 0 (length_json k)
length_shallow Boolean = tt
length_shallow Int32 = tt
length_shallow Int64 = tt
length_shallow ByteArray = tt
length_shallow (FixedLenByteArray n) = omega arith

note_shallow : (a : Annotation) → IsShallow 0 (note_json a)
note_shallow plain = tt
note_shallow (known c) = omega arith
note_shallow (other_converted z) = omega arith
note_shallow (other_logical s) = omega arith

converted_shallow : (a : Annotation) → IsShallow 0 (converted_json a)
converted_shallow plain = tt
converted_shallow (known c) = tt
converted_shallow (other_converted z) = omega arith
converted_shallow (other_logical s) = tt

logical_shallow : (a : Annotation) (bytes : List ℕ) → IsShallow 0 (logical_json a bytes)
logical_shallow plain bytes = tt
logical_shallow (known c) bytes = tt
logical_shallow (other_converted z) bytes = tt
logical_shallow (other_logical s) bytes = omega arith

leaf_shallow : (n : List ℕ) (r : Repetition) (t : LeafType) (bytes : List ℕ) → members_depth (those_there (leaf_json n r t bytes)) ≤ 0
leaf_shallow n r t bytes =
    there_shallow 0 (leaf_json n r t bytes)
    (converted_shallow t.annotation, (length_shallow t.kind, (logical_shallow t.annotation bytes, (omega arith, (note_shallow t.annotation, (integer_shallow t.precision, (omega arith, (integer_shallow t.scale, (omega arith, tt)))))))))

group_note_shallow : (n : ℕ) (a : Option GroupAnnotation) → IsShallow n (option_map (λ x. string (group_note_word x)) a)
group_note_shallow n None = tt
group_note_shallow n (Some x) = omega arith

group_shallow : (n : List ℕ) (r : Repetition) (a : Option GroupAnnotation) (below : Items) → members_depth (those_there (group_json n r a below)) ≤ suc (items_depth below)
group_shallow n r a below = there_shallow (suc (items_depth below)) (group_json n r a below) (omega arith, (omega arith, (group_note_shallow (suc (items_depth below)) a, (omega arith, tt))))

mutual
  field_shallow : (f : Field) (d : Data) → PrintsField f d → depth d ≤ 2 * tall f
  field_shallow (leaf n r t) d p = let k = leaf_shallow n r t p.0 in subst (λ x. depth x ≤ 2) (sym p.2) (omega (arith, k))
  field_shallow (fields n r a fs) d p =
      let k = fields_shallow fs p.0 p.1 in
      let g = group_shallow n r a p.0 in
      subst (λ x. depth x ≤ 2 * suc (tallest fs)) (sym p.2) (omega (arith, k, g))

  pub fields_shallow : (fs : Fields) (ds : Items) → PrintsFields fs ds → items_depth ds ≤ 2 * tallest fs
  fields_shallow no_fields no_items p = omega arith
  fields_shallow no_fields (item d ds) p = absurd p
  fields_shallow (field f fs) no_items p = absurd p
  fields_shallow (field f fs) (item d ds) p = let a = field_shallow f d p.0 in let b = fields_shallow fs ds p.1 in omega (arith, a, b)
