-- A list that stands for a schema has no fault.
use Rattle.std.proofs.Common.{ℕ, ◌≡◌, ◌⊎◌, Bool, true, false, List, [], ◌∷◌, refl, ap, sym, subst, ◌∙◌, Option, Some, None, inl, inr, arith, string_bytes}
use Rattle.std.specs.Prelude.{ℤ, pos, IsTrue, IsSome, if◌then◌else◌}
use Rattle.std.specs.List.{AllByRecursion}
use Rattle.std.specs.Str.{is_utf8}
use Rattle.std.proofs.lemmas.Bool.{false≢true}
use Rattle.std.proofs.lemmas.Bool.Decides.{Decides-int_eq}
use Rattle.thrift_compact.specs.Tree.{Node, struct, Fields as Struct, no_fields as no_members, field as member}
use Rattle.bits.specs.declared.refusal.Refusal.{Refusal}
use Rattle.bits.specs.declared.refusal.Refusal.TheVariants as refusal
use Rattle.bits.specs.Refusals.{IsFault}
use Rattle.schema.specs.declared.value.Kind.{Kind}
use Rattle.schema.specs.declared.value.Kind.TheVariants.{Boolean, Int32, Int64, ByteArray, FixedLenByteArray}
use Rattle.schema.specs.declared.building.Typed.{Typed}
use Rattle.schema.specs.declared.building.Typed.TheVariants.{Stored, Floating, Int96}
use Rattle.schema.specs.declared.annotation.ConvertedType.TheVariants as converted
use Rattle.schema.specs.Annotations.{Annotation, plain, known, other_converted, other_logical, LeafType, annotation_of, is_half, is_only_member}
use Rattle.schema.specs.Elements.{Element}
use Rattle.schema.specs.Shape.{Field, leaf, fields, Fields, no_fields, field, name_of}
use Rattle.schema.specs.Law.{AllDiffer, names, KeepsWritable, IsLeafType, IsValid, AreValid}
use Rattle.schema.specs.Listing.{Branch, branch, Branches, no_branches, branches, branch_names, count_branches, HasChildren, IsCounted, AreCounted, repetition, typed, is_float16, IsTyped, IsField, AreFields, IsSchemaOf, KeepsSound, IsSoundType, IsSoundKind, IsSound, AreSound, IsSoundList, is_int96, is_floating, HasLeaf, HasLeafAmong, ListHasLeaf}
use Rattle.schema.specs.Faults.{HasFault}
use Rattle.schema.proofs.Trees.{only_tree, below_is}

written_sound : (a : Annotation) → KeepsWritable a → KeepsSound a
written_sound plain h = tt
written_sound (known c) h = tt
written_sound (other_converted z) h = tt
written_sound (other_logical s) h = inr h.0

names_are : (bs : Branches) (fs : Fields) → AreFields bs fs → names fs ≡ branch_names bs
names_are no_branches no_fields h = refl
names_are no_branches (field f fs) h = absurd h
names_are (branches b bs) no_fields h = absurd h
names_are (branches (branch e below) bs) (field (leaf n r t) fs) h = ap (λ m. m ∷ names fs) h.0.0 ∙ ap (λ ns. e.name ∷ ns) (names_are bs fs h.1)
names_are (branches (branch e below) bs) (field (fields n r a gs) fs) h = ap (λ m. m ∷ names fs) h.0.0 ∙ ap (λ ns. e.name ∷ ns) (names_are bs fs h.1)

some_is : {A : Type 0} (o : Option A) (x : A) → o ≡ Some x → IsSome o
some_is o x e = subst IsSome (sym e) refl

no_below : (k c : Option ℤ) (z : ℤ) (bs : Branches) → k ≡ Some z → HasChildren k c (count_branches bs) → bs ≡ no_branches
no_below None c z bs e h = cc
no_below (Some t) c z no_branches e h = refl
no_below (Some t) c z (branches b bs) e h = let n = h.0 in absurd (omega (arith, n))

sound_kind : (e : Element) (t : LeafType) → IsTyped e t → IsLeafType t → IsSoundKind e e.kind
sound_kind e t h v =
    let says : t.annotation ≡ annotation_of t.kind e.converted_type e.logical_type = ap (λ x. x.annotation) h.is in
    subst (IsSoundKind e) (sym h.there) (subst (IsSoundType e) (sym h.stored) (subst KeepsSound says (written_sound t.annotation v.keeps)))

mutual
  sound_at : (b : Branch) (f : Field) → IsField b f → IsCounted b → IsValid f → IsTrue (is_utf8 (name_of f)) → IsSound b
  sound_at (branch e bs) (leaf n r t) h c v u =
      let none : bs ≡ no_branches = no_below e.kind e.num_children h.2.number bs h.2.there c.0 in (
        subst (λ m. IsTrue (is_utf8 m)) h.0 u,
        some_is (repetition e.repetition_type) r h.1,
        sound_kind e t h.2 v,
        subst (λ cs. AllDiffer (branch_names cs)) (sym none) tt,
        subst AreSound (sym none) tt,
      )
  sound_at (branch e bs) (fields n r a fs) h c v u = (
    subst (λ m. IsTrue (is_utf8 m)) h.0 u,
    some_is (repetition e.repetition_type) r h.1,
    subst (IsSoundKind e) (sym h.2) tt,
    subst AllDiffer (names_are bs fs h.4) v.0.differ,
    sound_each bs fs h.4 c.1 v.1 v.0.text,
  )

  sound_each : (bs : Branches) (fs : Fields) → AreFields bs fs → AreCounted bs → AreValid fs → AllByRecursion (λ n. IsTrue (is_utf8 n)) (names fs) → AreSound bs
  sound_each no_branches no_fields h c v u = tt
  sound_each no_branches (field f fs) h c v u = absurd h
  sound_each (branches b bs) no_fields h c v u = absurd h
  sound_each (branches b bs) (field f fs) h c v u = (sound_at b f h.0 c.0 v.0 u.0, sound_each bs fs h.1 c.1 v.1 u.1)

sound_list : (es : List Element) (fs : Fields) → IsSchemaOf es fs → IsSoundList es
sound_list es fs s = record {
  root = s.root;
  below = s.below;
  listed = s.listed;
  differ = subst AllDiffer (names_are s.below fs s.stands_for) s.valid.0.differ;
  sound = sound_each s.below fs s.stands_for s.listed.counted.1 s.valid.1 s.valid.0.text;
}

-- a leaf of a schema is no such element
abbrev IsNoLeaf : (Element → Type 0) → Type 0
IsNoLeaf Is = ((e : Element) (t : LeafType) → IsTyped e t → IsLeafType t → Is e → ⊥) × ((e : Element) → Is e → e.kind ≡ None → ⊥)

some_branch : (b : Branch) (bs : Branches) → branches b bs ≡ no_branches → ⊥
some_branch b bs e = cc

some_none : {A : Type 0} (o : Option A) (x : A) → o ≡ Some x → o ≡ None → ⊥
some_none o x p q = cc

mutual
  none_at : (Is : Element → Type 0) → IsNoLeaf Is → (b : Branch) (f : Field) → IsField b f → IsCounted b → IsValid f → (path : List ℕ) → HasLeaf Is b path → ⊥
  none_at Is never (branch e no_branches) (leaf n r t) h c v path k = never.0 e t h.2 v k.0
  none_at Is never (branch e no_branches) (fields n r a fs) h c v path k = never.1 e k.0 h.2
  none_at Is never (branch e (branches b bs)) (leaf n r t) h c v path k = some_branch b bs (no_below e.kind e.num_children h.2.number (branches b bs) h.2.there c.0)
  none_at Is never (branch e (branches b bs)) (fields n r a fs) h c v path k = none_among Is never (branches b bs) fs h.4 c.1 v.1 k.0 k.1

  none_among : (Is : Element → Type 0) → IsNoLeaf Is → (bs : Branches) (fs : Fields) → AreFields bs fs → AreCounted bs → AreValid fs → (path : List ℕ) → HasLeafAmong Is bs path → ⊥
  none_among Is never no_branches fs h c v path k = k
  none_among Is never (branches b bs) no_fields h c v path k = h
  none_among Is never (branches b bs) (field f fs) h c v path (inl k) = none_at Is never b f h.0 c.0 v.0 path k
  none_among Is never (branches b bs) (field f fs) h c v path (inr k) = none_among Is never bs fs h.1 c.1 v.1 path k

same_number : (o : Option ℤ) (y z : ℤ) → o ≡ Some y → o ≡ Some z → y ≡ z
same_number o y z p q = cc

other_type : (o : Option Typed) (k : Kind) → o ≡ Some (Stored k) → o ≡ Some Floating → ⊥
other_type o k p q = cc

another_type : (o : Option Typed) (k : Kind) → o ≡ Some (Stored k) → o ≡ Some Int96 → ⊥
another_type o k p q = cc

one_type : (e : Element) (t : LeafType) (z : ℤ) → IsTyped e t → e.kind ≡ Some z → typed z e.type_length ≡ Some (Stored t.kind)
one_type e t z h k = ap (λ n. typed n e.type_length) (same_number e.kind z h.number k h.there) ∙ h.stored

no_int96 : IsNoLeaf is_int96
no_int96 = (λ e t h v k. another_type (typed k.0 e.type_length) t.kind (one_type e t k.0 h k.1) k.2, λ e k none. some_none e.kind k.0 k.1 none)

one_no_half : (z : ℤ) (x : Node) → z ≡ pos 1 → is_half (member z x no_members) ≡ true → ⊥
one_no_half z x e h = false≢true (ap (λ y. is_half (member y x no_members)) (sym e) ∙ h)

-- STRING alone is not FLOAT16
only_not_half : (s : Struct) → is_only_member 1 s ≡ true → is_half s ≡ true → ⊥
only_not_half no_members p q = false≢true p
only_not_half (member z (struct s) no_members) p q = one_no_half z (struct s) ((Decides-int_eq z (pos 1)).0 p) q
only_not_half (member z _ _) p q = false≢true p

if_half : (s : Struct) (b : Bool) → b ≡ is_only_member 1 s → is_half s ≡ true → KeepsWritable (if b then known converted.Utf8 else other_logical s) → ⊥
if_half s true e h k = only_not_half s (sym e) h
if_half s false e h k = false≢true (sym k.1 ∙ h)

half_kept : (k : Kind) (c : Option ℤ) (s : Option Struct) → is_float16 c s ≡ true → KeepsWritable (annotation_of k c s) → ⊥
half_kept k (Some z) s h v = false≢true h
half_kept k None None h v = false≢true h
half_kept ByteArray None (Some s) h v = if_half s (is_only_member 1 s) refl h v
half_kept Boolean None (Some s) h v = false≢true (sym v.1 ∙ h)
half_kept Int32 None (Some s) h v = false≢true (sym v.1 ∙ h)
half_kept Int64 None (Some s) h v = false≢true (sym v.1 ∙ h)
half_kept (FixedLenByteArray n) None (Some s) h v = false≢true (sym v.1 ∙ h)

floating_type : (e : Element) (t : LeafType) → IsTyped e t → IsLeafType t → (z : ℤ) → e.kind ≡ Some z → (typed z e.type_length ≡ Some Floating) ⊎ (is_float16 e.converted_type e.logical_type ≡ true) → ⊥
floating_type e t h v z k (inl f) = other_type (typed z e.type_length) t.kind (one_type e t z h k) f
floating_type e t h v z k (inr f) = half_kept t.kind e.converted_type e.logical_type f (subst KeepsWritable (ap (λ x. x.annotation) h.is) v.keeps)

no_floating : IsNoLeaf is_floating
no_floating = (λ e t h v k. floating_type e t h v k.0 k.1 k.2, λ e k none. some_none e.kind k.0 k.1 none)

no_list_leaf : (Is : Element → Type 0) → IsNoLeaf Is → (es : List Element) (fs : Fields) (path : List ℕ) → IsSchemaOf es fs → ListHasLeaf Is es path → ⊥
no_list_leaf Is never [] fs path s l = only_tree [] s.root s.below s.listed
no_list_leaf Is never (e ∷ es) fs path s l =
    let same : l.below ≡ s.below = below_is e es l.root l.below l.listed ∙ sym (below_is e es s.root s.below s.listed) in
    none_among Is never s.below fs s.stands_for s.listed.counted.1 s.valid.1 path (subst (λ bs. HasLeafAmong Is bs path) same l.there)

-- a fault is no schema's
pub no_fault : (es : List Element) (e : Refusal) → HasFault es e → IsFault e → (fs : Fields) → IsSchemaOf es fs → ⊥
no_fault es refusal.Schema h f fs s = h (sound_list es fs s)
no_fault es (refusal.Float path) h f fs s = no_list_leaf is_floating no_floating es fs (string_bytes path) s h
no_fault es (refusal.Int96 path) h f fs s = no_list_leaf is_int96 no_int96 es fs (string_bytes path) s h
no_fault es refusal.Limit h f fs s = f
no_fault es refusal.Memory h f fs s = f
no_fault es _ h f fs s = h
