-- The objects of fields, member by member, and the array of all of them.
use Rattle.std.proofs.Common.{◌≡◌, ℕ, Bool, true, false, true≢false, ◌&&◌, List, [], ◌∷◌, ◌++◌, Option, Some, None, String, Vec, BTreeMap, Global, Ordering, Less, Equal, Greater, string_bytes, nat_cmp, refl, sym, ap, subst, ◌∙◌, append_assoc, append-nil}
use Rattle.std.specs.Cmp.Lexicographic.{slice_cmp}
use Rattle.std.specs.Ordering.{match_ordering}
use Rattle.std.proofs.lemmas.Bool.{and_parts as and_true}
use Rattle.serde_json.specs.Data.{Data, Members, member, put, object}
use Rattle.serde_json.specs.View.{view, items_view, members_view}
use Rattle.serde_json.specs.declared.value.Value.{Value, Object}
use Rattle.serde_json.proofs.Views.{view-Object}
use Rattle.hex.specs.Hex.{IsBytes}
use Rattle.schema.specs.Annotations.{Annotation, plain, known, other_converted, other_logical}
use Rattle.schema.specs.declared.value.Repetition.{Repetition}
use Rattle.schema.specs.declared.annotation.GroupAnnotation.{GroupAnnotation}
use Rattle.schema.specs.declared.annotation.LeafType.{LeafType as CodeLeafType}
use Rattle.schema.specs.declared.field.Field.{Field as CodeField, Leaf, Group}
use Rattle.schema.specs.Shape.{Field, leaf, fields, Fields, no_fields, field}
use Rattle.schema.specs.Listed.{IsFew, AreFew}
use Rattle.schema.specs.Views.{leaf_type_view, field_view, field_views}
use Rattle.schema.proofs.Seen.{view-Leaf, view-Group}
use Rattle.jsonrows.specs.SchemaPrinted.{MayBe, with_member, those_there, leaf_json, group_json, Spells, IsOfShort, AreOfShort}
use Rattle.jsonrows.specs.inner.SchemaPrinting.{AreStructBytes, put_maybe, put_each, HasShortLeaf, HasShortNumbers, HaveShortNumbers, IsPrintedField, ArePrintedFields}

-- ---- members that are put from the last one on

abbrev is_less : Ordering → Bool
is_less Less = true
is_less Equal = false
is_less Greater = false

-- the name stands before those of the members
abbrev stands_before : List ℕ → List MayBe → Bool
stands_before k [] = true
stands_before k (m ∷ ms) = is_less (slice_cmp nat_cmp k m.0) && stands_before k ms

abbrev are_sorted : List MayBe → Bool
are_sorted [] = true
are_sorted (m ∷ ms) = stands_before m.0 ms && are_sorted ms

put_at : (o : Ordering) (a b c : Members) → is_less o ≡ true → match_ordering o a b c ≡ a
put_at Less a b c h = refl
put_at Equal a b c h = absurd (true≢false (sym h))
put_at Greater a b c h = absurd (true≢false (sym h))

put_before : (k l : List ℕ) (d : Data) (o : Option Data) (ms : Members) → is_less (slice_cmp nat_cmp k l) ≡ true → put k d ms ≡ member k d ms → put k d (with_member l o ms) ≡ member k d (with_member l o ms)
put_before k l d None ms less later = later
put_before k l d (Some e) ms less later = put_at (slice_cmp nat_cmp k l) _ _ _ less

put_first : (k : List ℕ) (d : Data) (ms : List MayBe) → stands_before k ms ≡ true → put k d (those_there ms) ≡ member k d (those_there ms)
put_first k d [] h = refl
put_first k d (m ∷ ms) h = let p = and_true (is_less (slice_cmp nat_cmp k m.0)) (stands_before k ms) h in put_before k m.0 d m.1 (those_there ms) p.0 (put_first k d ms p.1)

put_or_not : (k : List ℕ) (o : Option Data) (ms : List MayBe) → stands_before k ms ≡ true → put_maybe k o (those_there ms) ≡ with_member k o (those_there ms)
put_or_not k None ms h = refl
put_or_not k (Some d) ms h = put_first k d ms h

put_in_order : (ms : List MayBe) → are_sorted ms ≡ true → put_each ms ≡ those_there ms
put_in_order [] h = refl
put_in_order (m ∷ ms) h =
    let p = and_true (stands_before m.0 ms) (are_sorted ms) h in
    ap (put_maybe m.0 m.1) (put_in_order ms p.1) ∙ put_or_not m.0 m.1 ms p.0

seen : (m : BTreeMap (String Global) Value) (ms : List MayBe) → are_sorted ms ≡ true → members_view m.entries ≡ put_each ms → view (Object m) ≡ object (those_there ms)
seen m ms sorted is = view-Object m ∙ ap object (is ∙ put_in_order ms sorted)

-- ---- fields

spelled : (a : Annotation) (bytes : List ℕ) → AreStructBytes a bytes → IsBytes bytes → Spells a bytes
spelled plain bytes h k = tt
spelled (known c) bytes h k = tt
spelled (other_converted z) bytes h k = tt
spelled (other_logical s) bytes h k = (h, k)

pub leaf_printed : (f : CodeField) (n : String Global) (r : Repetition) (t : CodeLeafType) (name bytes : List ℕ) (m : BTreeMap (String Global) Value) → f ≡ Leaf n r t → name ≡ string_bytes n
    → members_view m.entries ≡ put_each (leaf_json name r (leaf_type_view t) bytes) → AreStructBytes (leaf_type_view t).annotation bytes → IsBytes bytes → HasShortLeaf (leaf_type_view t) → IsPrintedField (field_view f) (view (Object m))
leaf_printed f n r t name bytes m is named shown stands bytes_are short =
    let d : view (Object m) ≡ object (those_there (leaf_json (string_bytes n) r (leaf_type_view t) bytes)) =
    seen m (leaf_json (string_bytes n) r (leaf_type_view t) bytes) refl (shown ∙ ap (λ k. put_each (leaf_json k r (leaf_type_view t) bytes)) named) in
    subst (λ x. IsPrintedField x (view (Object m))) (sym (ap field_view is ∙ view-Leaf n r t)) ((bytes, spelled (leaf_type_view t).annotation bytes stands bytes_are, d), short)

pub group_printed : (f : CodeField) (n : String Global) (r : Repetition) (a : Option GroupAnnotation) (v : Vec CodeField Global) (name : List ℕ) (xs : List CodeField) (below : List Value) (m : BTreeMap (String Global) Value) → f ≡ Group n r a v → name ≡ string_bytes n → xs ≡ v.items
    → members_view m.entries ≡ put_each (group_json name r a (items_view below)) → ArePrintedFields (field_views xs) (items_view below) → IsPrintedField (field_view f) (view (Object m))
group_printed f n r a v name xs below m is named same shown each =
    let printed = subst (λ ys. ArePrintedFields (field_views ys) (items_view below)) same each in
    let d : view (Object m) ≡ object (those_there (group_json (string_bytes n) r a (items_view below))) =
    seen m (group_json (string_bytes n) r a (items_view below)) refl (shown ∙ ap (λ k. put_each (group_json k r a (items_view below))) named) in
    subst (λ x. IsPrintedField x (view (Object m))) (sym (ap field_view is ∙ view-Group n r a v)) ((items_view below, printed.0, d), printed.1)

-- one more object, before those of the fields that are left
pub one_more_printed : (all left rest : List CodeField) (f : CodeField) (made new : List Value) (j : Value) → left ≡ f ∷ rest → new ≡ made ++ j ∷ [] → IsPrintedField (field_view f) (view j)
    → ((more : List Value) → ArePrintedFields (field_views left) (items_view more) → ArePrintedFields (field_views all) (items_view (made ++ more)))
    → (more : List Value) → ArePrintedFields (field_views rest) (items_view more) → ArePrintedFields (field_views all) (items_view (new ++ more))
one_more_printed all left rest f made new j split grown here so more h =
    let joined : made ++ (j ∷ more) ≡ new ++ more = sym (append_assoc made (j ∷ []) more) ∙ ap (λ xs. xs ++ more) (sym grown) in
    let first : ArePrintedFields (field_views (f ∷ rest)) (items_view (j ∷ more)) = ((here.0, h.0), (here.1, h.1)) in
    subst (λ xs. ArePrintedFields (field_views all) (items_view xs)) joined (so (j ∷ more) (subst (λ fs. ArePrintedFields (field_views fs) (items_view (j ∷ more))) (sym split) first))

pub all_printed : (all left : List CodeField) (made : List Value) → left ≡ []
    → ((more : List Value) → ArePrintedFields (field_views left) (items_view more) → ArePrintedFields (field_views all) (items_view (made ++ more))) → ArePrintedFields (field_views all) (items_view made)
all_printed all left made none so =
    let first : ArePrintedFields no_fields (items_view []) = (tt, tt) in
    subst (λ xs. ArePrintedFields (field_views all) (items_view xs)) (append-nil made) (so [] (subst (λ fs. ArePrintedFields (field_views fs) (items_view [])) (sym none) first))

-- ---- the numbers of elements

mutual
  of_short_at : (f : Field) → IsFew f → HasShortNumbers f → IsOfShort f
  of_short_at (leaf n r t) few short = short
  of_short_at (fields n r a fs) few short = (few.0, of_short fs few.1 short)

  pub of_short : (fs : Fields) → AreFew fs → HaveShortNumbers fs → AreOfShort fs
  of_short no_fields few short = tt
  of_short (field f fs) few short = (of_short_at f few.0 short.0, of_short fs few.1 short.1)
