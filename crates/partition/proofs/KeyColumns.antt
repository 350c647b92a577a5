-- Key columns and the fields that they name.
use Rattle.std.proofs.Common.{◌≡◌, ℕ, zero, suc, ◌<◌, ◌≤◌, false, List, [], ◌∷◌, ◌++◌, length, get_or, map, Option, Some, None, refl, ap, sym, ◌∙◌, arith, eq-eqb, drop, append-nil}
use Rattle.std.specs.List.{AllByRecursion}
use Rattle.std.proofs.lemmas.Bool.{false≢true, or_parts as or_false}
use Rattle.std.proofs.lemmas.List.{drop_all}
use Rattle.schema.specs.declared.field.Field.{Field as CodeField}
use Rattle.schema.specs.declared.key.KeyKind.{KeyKind}
use Rattle.schema.specs.declared.key.KeyKind.TheVariants.{Boolean, Int32, Int64, Utf8}
use Rattle.schema.specs.declared.value.Repetition.TheVariants.{Required}
use Rattle.schema.specs.Annotations.{LeafType}
use Rattle.schema.specs.Cutting.{is_among}
use Rattle.schema.specs.Shape.{Field, leaf, Fields, no_fields, field, name_of, count}
use Rattle.schema.specs.Views.{field_view, field_views}
use Rattle.schema.specs.Law.{AllDiffer, names}
use Rattle.schema.specs.Keys.{KeyColumn, stored_kind, key_type, key_field, field_at, AreKeys, AreDistinct, places_of}
use Rattle.partition.specs.Folders.{AreKeyColumns, KeysCanPartition}
use Rattle.std.specs.Prelude.{nat_eq}
use Rattle.std.proofs.lemmas.Option.{same_Some as same_some}
use Rattle.lists.proofs.Lists.{same_first as heads, same_rest as tails}

pub field_is : (fs : List CodeField) (i : ℕ) (f : CodeField) → i < length fs → f ≡ get_or fs i f → field_at i (field_views fs) ≡ Some (field_view f)
field_is [] i f h e = absurd (omega (arith, h))
field_is (g ∷ fs) zero f h e = ap (λ (x : CodeField). Some (field_view x)) (sym e)
field_is (g ∷ fs) (suc i) f h e = field_is fs i f (omega (arith, h)) e

pub no_field : (fs : List CodeField) (i : ℕ) (f : Field) → length fs ≤ i → field_at i (field_views fs) ≡ Some f → ⊥
no_field [] i f h e = cc
no_field (g ∷ fs) zero f h e = absurd (omega (arith, h))
no_field (g ∷ fs) (suc i) f h e = no_field fs i f (omega (arith, h)) e

pub count_is : (fs : List CodeField) → count (field_views fs) ≡ length fs
count_is [] = refl
count_is (f ∷ fs) = ap suc (count_is fs)

-- a name stands at one place
name_there : (fs : Fields) (n : List ℕ) (i : ℕ) (f : Field) → field_at i fs ≡ Some f → AllByRecursion (λ m. n ≡ m → ⊥) (names fs) → n ≡ name_of f → ⊥
name_there no_fields n i f e differ same = cc
name_there (field g fs) n zero f e differ same = differ.0 (same ∙ ap name_of (sym (same_some g f e)))
name_there (field g fs) n (suc i) f e differ same = name_there fs n i f e differ.1 same

one_place : (fs : Fields) (i j : ℕ) (f g : Field) → AllDiffer (names fs) → field_at i fs ≡ Some f → field_at j fs ≡ Some g → name_of f ≡ name_of g → i ≡ j
one_place no_fields i j f g differ p q same = cc
one_place (field h fs) zero zero f g differ p q same = refl
one_place (field h fs) zero (suc j) f g differ p q same = absurd (name_there fs (name_of h) j g q differ.0 (ap name_of (same_some h f p) ∙ same))
one_place (field h fs) (suc i) zero f g differ p q same = absurd (name_there fs (name_of h) i f p differ.0 (ap name_of (same_some h g q) ∙ sym same))
one_place (field h fs) (suc i) (suc j) f g differ p q same = ap suc (one_place fs i j f g differ.1 p q same)

-- ---- columns of the same names are the same

same_kinds : (j k : KeyKind) → stored_kind j ≡ stored_kind k → j ≡ k
same_kinds Boolean Boolean h = refl
same_kinds Int32 Int32 h = refl
same_kinds Int64 Int64 h = refl
same_kinds Utf8 Utf8 h = refl
same_kinds _ _ h = cc

same_kind : (j k : KeyKind) → key_type j ≡ key_type k → j ≡ k
same_kind j k h = same_kinds j k (ap (λ (t : LeafType). t.kind) h)

type_of : Field → Option LeafType
type_of (leaf n r t) = Some t
type_of _ = None

same_field : (j k : KeyColumn) → key_field j ≡ key_field k → j.kind ≡ k.kind
unfolding type_of
same_field j k h = same_kind j.kind k.kind (same_some (key_type j.kind) (key_type k.kind) (ap type_of h))

abbrev pub AreThere : Fields → List KeyColumn → Type 0
AreThere fs columns = AllByRecursion (λ (k : KeyColumn). field_at k.at fs ≡ Some (key_field k)) columns

abbrev pub named : List KeyColumn → List (List ℕ)
named columns = map (λ (k : KeyColumn). k.name) columns

one_column : (fs : Fields) (j k : KeyColumn) → AllDiffer (names fs) → field_at j.at fs ≡ Some (key_field j) → field_at k.at fs ≡ Some (key_field k) → j.name ≡ k.name → j ≡ k
one_column fs j k differ p q same =
    let places : j.at ≡ k.at = one_place fs j.at k.at (key_field j) (key_field k) differ p q same in
    let kinds : j.kind ≡ k.kind = same_field j k (same_some (key_field j) (key_field k) (sym p ∙ ap (λ (n : ℕ). field_at n fs) places ∙ q)) in
    λ i. record { at = places i; name = same i; kind = kinds i }

pub one_list : (fs : Fields) (js ks : List KeyColumn) → AllDiffer (names fs) → AreThere fs js → AreThere fs ks → named js ≡ named ks → js ≡ ks
one_list fs [] [] differ p q same = refl
one_list fs [] (k ∷ ks) differ p q same = cc
one_list fs (j ∷ js) [] differ p q same = cc
one_list fs (j ∷ js) (k ∷ ks) differ p q same =
    let first = one_column fs j k differ p.0 q.0 (heads j.name k.name _ _ same) in
    let rest = one_list fs js ks differ p.1 q.1 (tails j.name k.name _ _ same) in
    λ i. first i ∷ rest i

-- ---- columns that can partition a schema can partition

other_names : (fs : Fields) (c : KeyColumn) (cs : List KeyColumn) → AllDiffer (names fs) → field_at c.at fs ≡ Some (key_field c) → AreThere fs cs → is_among (places_of cs) c.at ≡ false → AllByRecursion (λ m. c.name ≡ m → ⊥) (named cs)
other_names fs c [] differ p q apart = tt
other_names fs c (d ∷ cs) differ p q apart =
    let parts = or_false (nat_eq d.at c.at) (is_among (places_of cs) c.at) apart in
    ((λ same. false≢true (sym parts.0 ∙ eq-eqb d.at c.at (sym (one_place fs c.at d.at (key_field c) (key_field d) differ p q.0 same)))), other_names fs c cs differ p q.1 parts.1)

names_differ : (fs : Fields) (columns : List KeyColumn) → AllDiffer (names fs) → AreThere fs columns → AreDistinct (places_of columns) → AllDiffer (named columns)
names_differ fs [] differ there apart = tt
names_differ fs (c ∷ cs) differ there apart = (other_names fs c cs differ there.0 there.1 apart.0, names_differ fs cs differ there.1 apart.1)

pub keys_can : KeysCanPartition
keys_can keys fs differ are = record { at_most_eight = are.few; named = are.named; names_differ = names_differ fs keys differ are.there are.distinct; places_differ = are.distinct }

-- ---- columns of given names

pub lengths : {X Y Z : Type 0} (f : X → Z) (g : Y → Z) (xs : List X) (ys : List Y) → map f xs ≡ map g ys → length xs ≡ length ys
lengths f g [] [] h = refl
lengths f g [] (y ∷ ys) h = cc
lengths f g (x ∷ xs) [] h = cc
lengths f g (x ∷ xs) (y ∷ ys) h = ap suc (lengths f g xs ys (tails (f x) (g y) (map f xs) (map g ys) h))

pub all_named : {X : Type 0} (f : X → List ℕ) (done : List (List ℕ)) (xs : List X) (i : ℕ) → length xs ≤ i → done ++ map f (drop i xs) ≡ map f xs → done ≡ map f xs
all_named f done xs i h e = sym (append-nil done) ∙ ap (λ ys. done ++ map f ys) (sym (drop_all i xs h)) ∙ e

-- a name that no key column can have
pub named_at : {X : Type 0} (f : X → List ℕ) (fs : Fields) (keys : List KeyColumn) (xs : List X) (i : ℕ) (x : X) → named keys ≡ map f xs → i < length xs → x ≡ get_or xs i x → AreThere fs keys
    → ((at : ℕ) (k : KeyKind) → field_at at fs ≡ Some (leaf (f x) Required (key_type k)) → ⊥) → ⊥
named_at f fs [] [] i x e h is there none = omega (arith, h)
named_at f fs [] (y ∷ xs) i x e h is there none = cc
named_at f fs (k ∷ keys) [] i x e h is there none = cc
named_at f fs (k ∷ keys) (y ∷ xs) zero x e h is there none =
    none k.at k.kind (there.0 ∙ ap (λ (m : List ℕ). Some (leaf m Required (key_type k.kind))) (heads k.name (f y) (named keys) (map f xs) e ∙ sym (ap f is)))
named_at f fs (k ∷ keys) (y ∷ xs) (suc i) x e h is there none =
    named_at f fs keys xs i x (tails k.name (f y) (named keys) (map f xs) e) (omega (arith, h)) is there.1 none

-- columns that can partition, each in its place, with a column left
pub can_be_keys : (columns : List KeyColumn) (fs : Fields) → AreKeyColumns columns → length columns < count fs → AreThere fs columns → AreKeys columns fs
can_be_keys columns fs are rest there = record { few = are.at_most_eight; rest = rest; distinct = are.places_differ; named = are.named; there = there }
