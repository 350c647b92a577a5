-- Elements that come after those of valid fields, or are them.
use Rattle.std.proofs.Common.{◌≡◌, ℕ, zero, suc, ◌+◌, List, [], ◌∷◌, ◌++◌, length, get_or, Some, None, refl, ap, sym, subst, ◌∙◌, arith}
use Rattle.schema.specs.declared.element.Element.{Element as CodeElement}
use Rattle.schema.specs.declared.field.Field.{Field as CodeField}
use Rattle.schema.specs.declared.value.Repetition.TheVariants.{Optional}
use Rattle.schema.specs.Elements.{Element, element_view, elements_view}
use Rattle.schema.specs.Views.{field_view, field_views}
use Rattle.schema.specs.Shape.{Field, leaf, fields, Fields, no_fields, field, count, repetition_of}
use Rattle.schema.specs.Listed.{group_element, listings, root_name, elements_of}
use Rattle.schema.specs.Law.{IsFilled, AreValid}
use Rattle.schema.specs.Listing.{branch, Branches, no_branches, branches, depth_first_each, count_branches, repetition, IsField, AreFields, IsTreeOf, IsSchemaOf}
use Rattle.schema.specs.Fronts.{with_field}
use Rattle.schema.specs.Growing.{with_elements, IsNotOptional}
use Rattle.schema.specs.inner.Grown.{EndsOptional}
use Rattle.schema.specs.inner.Reading.{forest, children, children_by, drop_branches, join_fields}
use Rattle.schema.proofs.Trees.{join_branches, back_each, below_is, children_counted, same_first}
use Rattle.schema.proofs.Again.{trees_of, are_listed, as_many, has_children, are_counted, are_fields}
use Rattle.schema.proofs.OneSchema.{one_field, one_list}

-- valid fields whose elements stand for a schema are that schema, whether or not their names differ
pub same_fields : (made fs : Fields) → IsFilled made → AreValid made → IsSchemaOf (elements_of made) fs → fs ≡ made
same_fields made fs filled valid p =
    let root = group_element root_name None None (count made) in
    let tree : IsTreeOf (elements_of made) root (trees_of made) = record { listed = ap (λ (es : List Element). root ∷ es) (are_listed made); counted = (has_children made filled, are_counted made valid); group = refl } in
    one_list (forest (listings made)) fs made
    (subst (λ (b : Branches). AreFields b fs) (below_is root (listings made) p.root p.below p.listed) p.stands_for)
    (subst (λ (b : Branches). AreFields b made) (below_is root (listings made) root (trees_of made) tree) (are_fields made valid))

-- the trees of a list that begins with the elements of valid fields
pub trees_after : (fs : Fields) (es : List Element) → AreValid fs → forest (listings fs ++ es) ≡ join_branches (trees_of fs) (forest es)
trees_after fs es valid = ap (λ (ls : List Element). forest (ls ++ es)) (are_listed fs) ∙ back_each (trees_of fs) (are_counted fs valid) es

-- what trees stand for that begin with those of some fields: these fields, and what the others stand for
pub split_fields : (bs cs : Branches) (fs gs : Fields) → AreFields bs fs → AreFields (join_branches bs cs) gs → (rest : Fields) × (gs ≡ join_fields fs rest) × AreFields cs rest
split_fields no_branches cs no_fields gs p q = (gs, refl, q)
split_fields no_branches cs (field f fs) gs p q = absurd p
split_fields (branches b bs) cs no_fields gs p q = absurd p
split_fields (branches b bs) cs (field f fs) no_fields p q = absurd q
split_fields (branches b bs) cs (field f fs) (field g gs) p q =
    let later = split_fields bs cs fs gs p.1 q.1 in
    (later.0, ap (λ (x : Field). field x gs) (one_field b g f q.0 p.0) ∙ ap (field f) later.1, later.2)

-- the first element is that of a field
pub IsFirstOf : List Element → Field → Type 0
IsFirstOf [] f = ⊥
IsFirstOf (e ∷ es) f = repetition e.repetition_type ≡ Some (repetition_of f)

pub one_at_end : (fs : Fields) (f : Field) → join_fields fs (field f no_fields) ≡ with_field fs f
one_at_end no_fields f = refl
one_at_end (field g fs) f = ap (field g) (one_at_end fs f)

count_joined : (bs cs : Branches) → count_branches (join_branches bs cs) ≡ count_branches bs + count_branches cs
count_joined no_branches cs = omega arith
count_joined (branches b bs) cs = let h = count_joined bs cs in omega (arith, h)

-- the one field of one tree
one_of : (es : List Element) (rest : Fields) → count_branches (forest es) ≡ 1 → AreFields (forest es) rest → (f : Field) × (rest ≡ field f no_fields) × IsFirstOf es f
unfolding IsFirstOf
one_of [] rest n h = absurd (omega (arith, n))
one_of (e ∷ es) no_fields n h = absurd h
one_of (e ∷ es) (field f rest) n h = (f, ap (field f) (none (drop_branches (children e) (forest es)) rest (omega (arith, n)) h.1), first f _ h.0)
  where
    none : (bs : Branches) (gs : Fields) → count_branches bs ≡ 0 → AreFields bs gs → gs ≡ no_fields
    none no_branches no_fields z k = refl
    none no_branches (field g gs) z k = absurd k
    none (branches b bs) gs z k = absurd (omega (arith, z))

    first : (g : Field) (bs : Branches) → IsField (branch e bs) g → repetition e.repetition_type ≡ Some (repetition_of g)
    first (leaf m r t) bs k = k.1
    first (fields m r a gs) bs k = k.1

-- a schema of the elements of some fields and some more is those fields with one at their end
pub grown : (fs gs : Fields) (es : List Element) → AreValid fs → IsSchemaOf (with_elements fs es) gs → (f : Field) × (gs ≡ with_field fs f) × IsFirstOf es f
grown fs gs es valid s =
    let root = group_element root_name None None (suc (count fs)) in
    let below : s.below ≡ join_branches (trees_of fs) (forest es) = below_is root (listings fs ++ es) s.root s.below s.listed ∙ trees_after fs es valid in
    let same : root ≡ s.root = same_first root s.root (listings fs ++ es) (depth_first_each s.below) s.listed.listed in
    let many : children_by s.root.kind s.root.num_children ≡ count_branches s.below = children_counted s.root.kind s.root.num_children (count_branches s.below) s.listed.counted.0 in
    let own : suc (count fs) ≡ children_by s.root.kind s.root.num_children = ap (λ (e : Element). children_by e.kind e.num_children) same in
    let all : count_branches s.below ≡ count_branches (trees_of fs) + count_branches (forest es) = ap count_branches below ∙ count_joined (trees_of fs) (forest es) in
    let one : count_branches (forest es) ≡ 1 = omega (arith, many, own, all, as_many fs) in
    let parts = split_fields (trees_of fs) (forest es) fs gs (are_fields fs valid) (subst (λ (b : Branches). AreFields b gs) below s.stands_for) in
    let last = one_of es parts.0 one parts.2 in
    (last.0, parts.1 ∙ ap (join_fields fs) last.1 ∙ one_at_end fs last.0, last.2)

-- the longer list, as it is put together
pub longer_listed : (out mid begun none : List CodeElement) (root : CodeElement) (own given : List Element) (fs : Fields) (n : ℕ) → none ≡ [] → begun ≡ none ++ root ∷ [] → element_view root ≡ group_element root_name None None n → n ≡ suc (count fs)
    → own ≡ listings fs → elements_view mid ≡ elements_view begun ++ own → elements_view out ≡ elements_view mid ++ given → elements_view out ≡ with_elements fs given
longer_listed out mid begun none root own given fs n a b r size o p q =
    let top = group_element root_name None None (suc (count fs)) in
    let first : elements_view begun ≡ top ∷ [] = ap elements_view (b ∙ ap (λ (xs : List CodeElement). xs ++ root ∷ []) a) ∙ ap (λ (e : Element). e ∷ []) (r ∙ ap (group_element root_name None None) size) in
    q ∙ ap (λ (es : List Element). es ++ given) (p ∙ ap (λ (es : List Element). es ++ own) first) ∙ ap (λ (es : List Element). top ∷ (es ++ given)) o

-- ---- the field at the end

pub ends_with : (fs : Fields) (f : Field) → EndsOptional (with_field fs f) → repetition_of f ≡ Optional
ends_with no_fields f h = h
ends_with (field g no_fields) f h = h
ends_with (field g (field k fs)) f h = ends_with (field k fs) f h

pub with_end : (fs : Fields) (f : Field) → repetition_of f ≡ Optional → EndsOptional (with_field fs f)
with_end no_fields f h = h
with_end (field g no_fields) f h = h
with_end (field g (field k fs)) f h = with_end (field k fs) f h

pub to_end : (xs : List CodeField) (at : ℕ) (x : CodeField) → suc at ≡ length xs → x ≡ get_or xs at x → EndsOptional (field_views xs) → repetition_of (field_view x) ≡ Optional
to_end [] at x size is h = absurd h
to_end (y ∷ []) zero x size is h = ap (λ (z : CodeField). repetition_of (field_view z)) is ∙ h
to_end (y ∷ []) (suc at) x size is h = absurd (omega (arith, size))
to_end (y ∷ z ∷ xs) zero x size is h = absurd (omega (arith, size))
to_end (y ∷ z ∷ xs) (suc at) x size is h = to_end (z ∷ xs) at x (omega (arith, size)) is h

pub from_end : (xs : List CodeField) (at : ℕ) (x : CodeField) → suc at ≡ length xs → x ≡ get_or xs at x → repetition_of (field_view x) ≡ Optional → EndsOptional (field_views xs)
from_end [] at x size is h = absurd (omega (arith, size))
from_end (y ∷ []) zero x size is h = ap (λ (z : CodeField). repetition_of (field_view z)) (sym is) ∙ h
from_end (y ∷ []) (suc at) x size is h = absurd (omega (arith, size))
from_end (y ∷ z ∷ xs) zero x size is h = absurd (omega (arith, size))
from_end (y ∷ z ∷ xs) (suc at) x size is h = from_end (z ∷ xs) at x (omega (arith, size)) is h

pub not_optional : (es : List Element) (f : Field) → IsFirstOf es f → (repetition_of f ≡ Optional → ⊥) → IsNotOptional es
unfolding IsFirstOf
not_optional [] f h other = h
not_optional (e ∷ es) f h other = λ q. other (let same : repetition_of f ≡ Optional = cc in same)
