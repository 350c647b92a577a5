-- Levels of leaves, annotations that are written again, and structs that leaves keep.
use Rattle.std.proofs.Common.{◌≡◌, ℕ, suc, ℤ, pos, Bool, true, false, List, [], ◌∷◌, map, Option, Some, None, refl, ap, sym, ◌∙◌}
use Rattle.std.specs.Prelude.{if◌then◌else◌}
use Rattle.std.specs.List.{AllByRecursion}
use Rattle.lists.proofs.Lists.{all_append as all_joined}
use Rattle.thrift_compact.specs.Tree.{Fields as Struct}
use Rattle.schema.specs.declared.value.Kind.{Kind}
use Rattle.schema.specs.declared.value.Kind.TheVariants.{Boolean, Int32, Int64, ByteArray, FixedLenByteArray}
use Rattle.schema.specs.declared.annotation.ConvertedType.{ConvertedType}
use Rattle.schema.specs.declared.annotation.ConvertedType.TheVariants as converted
use Rattle.schema.specs.declared.order.Standing.{Standing}
use Rattle.schema.specs.declared.order.Standing.TheVariants.{Unknown, Unordered, Ordered}
use Rattle.schema.specs.Annotations.{known, other_logical, number_of, converted_type, standing, by_standing, named, is_only_member, logical, annotation_of, converted_number, logical_struct}
use Rattle.schema.specs.Shape.{Field, leaf, fields, Fields, no_fields, field}
use Rattle.schema.specs.Stripe.{Leaf, below, leaves, leaves_from}
use Rattle.schema.specs.Law.{HasGreatestLevels, LevelsAreOfSteps, AnnotationsAreKept, KeepsWritable, IsValid, AreValid, KeptStructsHaveBytes}

all_below : (i : ℕ) (f : Field) (ls : List Leaf) → AllByRecursion HasGreatestLevels (map (below i f) ls)
all_below i f [] = tt
all_below i f (l ∷ ls) = (record { repetition = refl; definition = refl }, all_below i f ls)

levels_from : (i : ℕ) (fs : Fields) → AllByRecursion HasGreatestLevels (leaves_from i fs)
levels_from i no_fields = tt
levels_from i (field f fs) = all_joined HasGreatestLevels (map (below i f) (leaves f)) (leaves_from (suc i) fs) (all_below i f (leaves f)) (levels_from (suc i) fs)

pub levels_are_of_steps : LevelsAreOfSteps
levels_are_of_steps fs = levels_from 0 fs

-- the number of a converted type is its own
pub own_number : (c : ConvertedType) → converted_type (pos (number_of c)) ≡ Some c
unfolding converted_type
own_number converted.Utf8 = refl
own_number _ = refl

kept_by_standing : (k : Kind) (c : ConvertedType) (z : ℤ) (x : Standing) → x ≡ standing k c → converted_type z ≡ Some c
    → annotation_of k (converted_number (by_standing x c z)) (logical_struct (by_standing x c z)) ≡ by_standing x c z
kept_by_standing k c z Unknown e h = ap (named k z) h ∙ ap (λ x. by_standing x c z) (sym e)
kept_by_standing k c z Unordered e h = ap (named k (pos (number_of c))) (own_number c) ∙ ap (λ x. by_standing x c (pos (number_of c))) (sym e)
kept_by_standing k c z (Ordered o) e h = ap (named k (pos (number_of c))) (own_number c) ∙ ap (λ x. by_standing x c (pos (number_of c))) (sym e)

kept_named : (k : Kind) (z : ℤ) (x : Option ConvertedType) → converted_type z ≡ x
    → annotation_of k (converted_number (named k z x)) (logical_struct (named k z x)) ≡ named k z x
kept_named k z (Some c) h = kept_by_standing k c z (standing k c) refl h
kept_named k z None h = ap (named k z) h

kept_string : (s : Struct) (b : Bool) → b ≡ is_only_member 1 s
    → annotation_of ByteArray (converted_number (if b then known converted.Utf8 else other_logical s)) (logical_struct (if b then known converted.Utf8 else other_logical s)) ≡ (if b then known converted.Utf8 else other_logical s)
kept_string s true h = ap (named ByteArray (pos 0)) (own_number converted.Utf8)
kept_string s false h = ap (λ b. if b then known converted.Utf8 else other_logical s) (sym h)

kept_logical : (k : Kind) (s : Struct) → annotation_of k (converted_number (logical k s)) (logical_struct (logical k s)) ≡ logical k s
kept_logical ByteArray s = kept_string s (is_only_member 1 s) refl
kept_logical Boolean s = refl
kept_logical Int32 s = refl
kept_logical Int64 s = refl
kept_logical (FixedLenByteArray n) s = refl

pub annotations_are_kept : AnnotationsAreKept
annotations_are_kept k (Some z) s = kept_named k z (converted_type z) refl
annotations_are_kept k None (Some s) = kept_logical k s
annotations_are_kept k None None = refl

abbrev Keeps : Leaf → Type 0
Keeps l = KeepsWritable l.leaf_type.annotation

kept_below : (i : ℕ) (f : Field) (ls : List Leaf) → AllByRecursion Keeps ls → AllByRecursion Keeps (map (below i f) ls)
kept_below i f [] h = tt
kept_below i f (l ∷ ls) h = (h.0, kept_below i f ls h.1)

mutual
  kept_at : (f : Field) → IsValid f → AllByRecursion Keeps (leaves f)
  kept_at (leaf n r t) v = (v.keeps, tt)
  kept_at (fields n r a fs) v = kept_from 0 fs v.1

  kept_from : (i : ℕ) (fs : Fields) → AreValid fs → AllByRecursion Keeps (leaves_from i fs)
  kept_from i no_fields v = tt
  kept_from i (field f fs) v = all_joined Keeps (map (below i f) (leaves f)) (leaves_from (suc i) fs) (kept_below i f (leaves f) (kept_at f v.0)) (kept_from (suc i) fs v.1)

pub kept_structs_have_bytes : KeptStructsHaveBytes
kept_structs_have_bytes fs v = kept_from 0 fs v.1
