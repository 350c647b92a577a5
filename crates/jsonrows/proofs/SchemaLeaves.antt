-- What is found in the object of a leaf, and of a group, is what it says.
use Rattle.std.proofs.Common.{◌≡◌, ◌⊎◌, inl, inr, ℕ, ◌^◌, nat_lt, ℤ, pos, true, false, ◌&&◌, codes, List, Option, Some, None, option_and_then, refl, sym, ap, subst, ◌∙◌}
use Rattle.std.specs.Prelude.{◌↔◌, IsSome}
use Rattle.std.proofs.lemmas.Bool.Decides.{Decides-ltb}
use Rattle.std.proofs.lemmas.Bool.{and_parts as and_true}
use Rattle.std.proofs.lemmas.Option.{same_Some as same_value}
use Rattle.lists.proofs.Options.{and_then_some as and_then_gave, some_if as if_gave}
use Rattle.serde_json.specs.Data.{array, object, Items, Members}
use Rattle.serde_json.specs.Find.{get_member}
use Rattle.serde_json.specs.Events.{items_len}
use Rattle.thrift_compact.specs.Tree.{Fields as Struct}
use Rattle.schema.specs.declared.value.Kind.{Kind}
use Rattle.schema.specs.declared.building.Typed.TheVariants.{Stored}
use Rattle.schema.specs.Annotations.{annotation_of}
use Rattle.schema.specs.Elements.{Element}
use Rattle.schema.specs.Listed.{group_element}
use Rattle.schema.specs.Listing.{typed}
use Rattle.jsonrows.specs.declared.schema_reading.Numbers.{Numbers}
use Rattle.jsonrows.specs.SchemaJson.{repetitions, types, group_notes, leaf_members, group_members, are_called, is_known, IsText, IsWord, IsInt32, Has, Lacks, MayHave, IsUnnamed, IsNote, IsLeaf, IsGroup}
use Rattle.jsonrows.specs.inner.SchemaReading.{word_of, int32_of, optional, length_of, numbers_of, kind_of, is_unnamed, Note, note, note_of, Said, said_of_leaf, said_of_group, leaf_said, group_said, HasStruct, IsElementOf}
use Rattle.jsonrows.proofs.SchemaMembers.{word_found, word_there, int_found, int_there, has_found, has_there, may_found, may_there, length_found, length_there}
use Rattle.jsonrows.proofs.SchemaNotes.{none_kept, unnamed_found, unnamed_there, note_found, note_there}

-- ---- the numbers of a leaf

record AreNumbers (ms : Members) (n : Numbers) : Type 0 where
  stored : Has (IsWord types) (codes "type") ms n.kind
  length : MayHave IsInt32 (codes "length") ms n.length × (IsSome n.length ↔ (n.kind ≡ pos 7))
  scale : MayHave IsInt32 (codes "scale") ms n.scale
  precision : MayHave IsInt32 (codes "precision") ms n.precision

numbers_found : (ms : Members) (n : Numbers) → numbers_of (object ms) ≡ Some n → AreNumbers ms n
numbers_found ms n e =
    let a = and_then_gave _ (option_and_then (word_of types) (get_member (codes "type") ms)) n e in
    let b = and_then_gave _ (length_of a.0 (get_member (codes "length") ms)) n a.2 in
    let c = and_then_gave _ (optional int32_of (get_member (codes "scale") ms)) n b.2 in
    let d = and_then_gave _ (optional int32_of (get_member (codes "precision") ms)) n c.2 in
    let m : Numbers = record { kind = a.0; length = b.0; scale = c.0; precision = d.0 } in
    let whole : AreNumbers ms m = record {
      stored = has_found (word_of types) (IsWord types) (word_found types) (codes "type") ms a.0 a.1;
      length = length_found a.0 (codes "length") ms b.0 b.1;
      scale = may_found int32_of IsInt32 int_found (codes "scale") ms c.0 c.1;
      precision = may_found int32_of IsInt32 int_found (codes "precision") ms d.0 d.1;
    } in
    subst (AreNumbers ms) (same_value m n d.2) whole

numbers_there : (ms : Members) (n : Numbers) → AreNumbers ms n → numbers_of (object ms) ≡ Some n
numbers_there ms n h =
    let a = has_there (word_of types) (IsWord types) (word_there types) (codes "type") ms n.kind h.stored in
    let b = length_there n.kind (codes "length") ms n.length h.length.0 h.length.1 in
    let c = may_there int32_of IsInt32 int_there (codes "scale") ms n.scale h.scale in
    let d = may_there int32_of IsInt32 int_there (codes "precision") ms n.precision h.precision in
    rw (a, b, c, d) refl

-- ---- leaves

unnamed_number : (e : Element) (z : ℤ) (k : Kind) → e.converted_type ≡ Some z → is_known (annotation_of k (Some z) None) ≡ false → is_known (annotation_of k e.converted_type e.logical_type) ≡ false
unnamed_number e z k c h = subst (λ x. is_known (annotation_of k x e.logical_type) ≡ false) (sym c) h

pub leaf_found : (ms : Members) (name : List ℕ) (r : ℤ) (s : Said) (e : Element) → Has IsText (codes "name") ms name → Has (IsWord repetitions) (codes "rep") ms r → Lacks (codes "fields") ms
    → leaf_said name r (object ms) ≡ Some s → IsElementOf s e → IsLeaf e ms
leaf_found ms name r s e called repeats lacks h is =
    let a = and_then_gave _ (numbers_of (object ms)) s h in
    let n : Numbers = a.0 in
    let b = and_then_gave _ (note_of (kind_of (Some n.kind) n.length) (object ms)) s a.2 in
    let t : Note = b.0 in
    let w = if_gave (are_called leaf_members ms) (Some (said_of_leaf name r n t)) s b.2 in
    let same : said_of_leaf name r n t ≡ s = same_value (said_of_leaf name r n t) s w.1 in
    let d = record (said_of_leaf name r n t).element { logical_type = e.logical_type } in
    let eq : e ≡ d = is.same ∙ ap (λ (x : Said). record x.element { logical_type = e.logical_type }) (sym same) in
    let kept : HasStruct t.logical e.logical_type = subst (λ (x : Said). HasStruct x.logical e.logical_type) (sym same) is.kept in
    let unnamed : is_unnamed (kind_of (Some n.kind) n.length) None e.logical_type ≡ true = subst (λ (x : Said). is_unnamed (kind_of x.element.kind x.element.type_length) None e.logical_type ≡ true) (sym same) is.unnamed in
    let ns = numbers_found ms n a.1 in
    let leaf : IsLeaf d ms = record {
      kind = n.kind;
      repetition = r;
      called = called;
      repeats = repeats;
      stored = ns.stored;
      length = ns.length.0;
      fixed = ns.length.1;
      note = note_found (kind_of (Some n.kind) n.length) ms t e.logical_type (IsUnnamed d)
          (λ z c l u x k f g. let at = same_value n.kind x f in
          unnamed_number d z k c (unnamed_found n.kind n.length (Some z) None u k (subst (λ y. typed y n.length ≡ Some (Stored k)) (sym at) g)))
          (λ st c l x k f g. let at = same_value n.kind x f in
          subst (λ y. is_known (annotation_of k y e.logical_type) ≡ false) (sym c) (unnamed_found n.kind n.length None e.logical_type unnamed k (subst (λ y. typed y n.length ≡ Some (Stored k)) (sym at) g)))
          kept b.1;
      scale = ns.scale;
      precision = ns.precision;
      only = w.0;
      no_fields = lacks;
      element = refl;
    } in
    subst (λ x. IsLeaf x ms) (sym eq) leaf

kept_unnamed : (c : Option ℤ) (l : Option Struct) (U : Type 0) (ms : Members) → IsNote c l U ms → (l ≡ None) ⊎ ((c ≡ None) × U)
kept_unnamed c None U ms h = inl refl
kept_unnamed None (Some s) U ms h = inr (refl, h.3)
kept_unnamed (Some z) (Some s) U ms h = absurd h

pub leaf_there : (ms : Members) (e : Element) (h : IsLeaf e ms) → (s : Said) × (leaf_said e.name h.repetition (object ms) ≡ Some s) × IsElementOf s e
leaf_there ms e h =
    let n : Numbers = record { kind = h.kind; length = e.type_length; scale = e.scale; precision = e.precision } in
    let numbers = numbers_there ms n (record { stored = h.stored; length = (h.length, h.fixed); scale = h.scale; precision = h.precision }) in
    let kind : e.kind ≡ Some h.kind = ap (λ (x : Element). x.kind) h.element in
    let t = note_there (kind_of (Some h.kind) e.type_length) ms e.converted_type e.logical_type (IsUnnamed e)
    (λ z c u. unnamed_there h.kind e.type_length (Some z) None (λ k g. subst (λ y. is_known (annotation_of k y e.logical_type) ≡ false) c (u h.kind k kind g))) h.note in
    let s = said_of_leaf e.name h.repetition n (note e.converted_type t.0) in
    let says : leaf_said e.name h.repetition (object ms) ≡ Some s = rw (numbers, t.1, h.only) refl in
    let unnamed : is_unnamed (kind_of (Some h.kind) e.type_length) None e.logical_type ≡ true =
    elim (kept_unnamed e.converted_type e.logical_type (IsUnnamed e) ms h.note) [
      | inl none ↦ subst (λ l. is_unnamed (kind_of (Some h.kind) e.type_length) None l ≡ true) (sym none) (unnamed_there h.kind e.type_length None None (λ k g. refl))
      | inr p ↦ unnamed_there h.kind e.type_length None e.logical_type (λ k g. subst (λ y. is_known (annotation_of k y e.logical_type) ≡ false) p.0 (p.1 h.kind k kind g))
    ] in
    (s, says, record { same = h.element; kept = t.2; unnamed = unnamed })

-- ---- groups

pub group_found : (ms : Members) (name : List ℕ) (r : ℤ) (below : Items) (s : Said) (e : Element) → Has IsText (codes "name") ms name → Has (IsWord repetitions) (codes "rep") ms r → get_member (codes "fields") ms ≡ Some (array below)
    → group_said name r (object ms) (items_len below) ≡ Some s → IsElementOf s e → IsGroup e below ms
group_found ms name r below s e called repeats has h is =
    let a = and_then_gave _ (optional (word_of group_notes) (get_member (codes "note") ms)) s h in
    let w = if_gave (are_called group_members ms && nat_lt (items_len below) (2 ^ 31)) (Some (said_of_group name (Some r) (items_len below) a.0)) s a.2 in
    let both = and_true (are_called group_members ms) (nat_lt (items_len below) (2 ^ 31)) w.0 in
    let same = same_value (said_of_group name (Some r) (items_len below) a.0) s w.1 in
    let d = group_element name (Some r) a.0 (items_len below) in
    let none : e.logical_type ≡ None = none_kept e.logical_type (subst (λ (x : Said). HasStruct x.logical e.logical_type) (sym same) is.kept) in
    let eq : e ≡ d = is.same ∙ ap (λ (x : Said). record x.element { logical_type = e.logical_type }) (sym same) ∙ ap (λ l. record d { logical_type = l }) none in
    let group : IsGroup d below ms = record {
      repetition = r;
      called = called;
      repeats = repeats;
      fields = has;
      note = may_found (word_of group_notes) (IsWord group_notes) (word_found group_notes) (codes "note") ms a.0 a.1;
      only = both.0;
      few = (Decides-ltb (items_len below) (2 ^ 31)).0 both.1;
      element = refl;
    } in
    subst (λ x. IsGroup x below ms) (sym eq) group

pub group_there : (ms : Members) (below : Items) (e : Element) (h : IsGroup e below ms) → (s : Said) × (group_said e.name h.repetition (object ms) (items_len below) ≡ Some s) × IsElementOf s e
group_there ms below e h =
    let s = said_of_group e.name (Some h.repetition) (items_len below) e.converted_type in
    let noted = may_there (word_of group_notes) (IsWord group_notes) (word_there group_notes) (codes "note") ms e.converted_type h.note in
    let few : nat_lt (items_len below) (2 ^ 31) ≡ true = (Decides-ltb (items_len below) (2 ^ 31)).1 h.few in
    let says : group_said e.name h.repetition (object ms) (items_len below) ≡ Some s = rw (noted, h.only, few) refl in
    let none : e.logical_type ≡ None = ap (λ (x : Element). x.logical_type) h.element in
    (s, says, record { same = h.element ∙ ap (λ l. record s.element { logical_type = l }) (sym none); kept = subst (HasStruct None) (sym none) tt; unnamed = refl })
