-- A list of elements stands for at most one schema.
use Rattle.std.proofs.Common.{◌≡◌, [], ◌∷◌, refl, sym, ap, subst, ◌∙◌, Option, Some, None}
use Rattle.lists.proofs.Options.{one_some}
use Rattle.schema.specs.declared.value.Kind.{Kind}
use Rattle.schema.specs.declared.building.Typed.TheVariants.{Stored}
use Rattle.schema.specs.Annotations.{LeafType}
use Rattle.schema.specs.Elements.{Element}
use Rattle.schema.specs.Shape.{Field, leaf, fields, Fields, no_fields, field}
use Rattle.schema.specs.Listing.{Branch, branch, Branches, no_branches, branches, typed, leaf_type, IsTyped, IsField, AreFields, ListsMeanOneSchema}
use Rattle.schema.specs.inner.Reading.{forest}
use Rattle.schema.proofs.Trees.{below_is, only_tree}

one_stored : (k l : Kind) → Stored k ≡ Stored l → k ≡ l
one_stored k l h = cc

pub one_type : (e : Element) (t u : LeafType) → IsTyped e t → IsTyped e u → t ≡ u
one_type e t u p q =
    let number : p.number ≡ q.number = one_some e.kind p.number q.number p.there q.there in
    let kinds : t.kind ≡ u.kind = one_stored t.kind u.kind (one_some (typed q.number e.type_length) (Stored t.kind) (Stored u.kind) (subst (λ z. typed z e.type_length ≡ Some (Stored t.kind)) number p.stored) q.stored) in
    p.is ∙ ap (λ k. leaf_type k e) kinds ∙ sym q.is

typed_or_not : {A : Type 0} (o : Option A) (x : A) → o ≡ Some x → o ≡ None → ⊥
typed_or_not o x p q = cc

mutual
  pub one_field : (b : Branch) (f g : Field) → IsField b f → IsField b g → f ≡ g
  one_field (branch e bs) (leaf n r t) (leaf m s u) p q =
      ap (λ x. leaf x r t) (p.0 ∙ sym q.0) ∙ ap (λ x. leaf m x t) (one_some _ r s p.1 q.1) ∙ ap (leaf m s) (one_type e t u p.2 q.2)
  one_field (branch e bs) (leaf n r t) (fields m s a gs) p q = absurd (typed_or_not e.kind p.2.number p.2.there q.2)
  one_field (branch e bs) (fields n r a fs) (leaf m s u) p q = absurd (typed_or_not e.kind q.2.number q.2.there p.2)
  one_field (branch e bs) (fields n r a fs) (fields m s b gs) p q =
      ap (λ x. fields x r a fs) (p.0 ∙ sym q.0) ∙ ap (λ x. fields m x a fs) (one_some _ r s p.1 q.1) ∙ ap (λ x. fields m s x fs) (p.3 ∙ sym q.3) ∙ ap (fields m s b) (one_list bs fs gs p.4 q.4)

  pub one_list : (bs : Branches) (fs gs : Fields) → AreFields bs fs → AreFields bs gs → fs ≡ gs
  one_list no_branches no_fields no_fields p q = refl
  one_list no_branches no_fields (field g gs) p q = absurd q
  one_list no_branches (field f fs) gs p q = absurd p
  one_list (branches b bs) no_fields gs p q = absurd p
  one_list (branches b bs) (field f fs) no_fields p q = absurd q
  one_list (branches b bs) (field f fs) (field g gs) p q = ap (λ x. field x fs) (one_field b f g p.0 q.0) ∙ ap (field g) (one_list bs fs gs p.1 q.1)

pub lists_mean_one_schema : ListsMeanOneSchema
lists_mean_one_schema [] fs gs p q = absurd (only_tree [] p.root p.below p.listed)
lists_mean_one_schema (e ∷ es) fs gs p q =
    one_list (forest es) fs gs (subst (λ b. AreFields b fs) (below_is e es p.root p.below p.listed) p.stands_for) (subst (λ b. AreFields b gs) (below_is e es q.root q.below q.listed) q.stands_for)
