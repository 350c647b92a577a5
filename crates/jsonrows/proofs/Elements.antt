-- The elements of what is said: there is one list of them, or none.
use Rattle.std.proofs.Common.{◌≡◌, ℕ, List, [], ◌∷◌, ◌++◌, ◌≤◌, length, Option, Some, None, Result, Ok, Err, refl, sym, ap, ap₂, subst, ◌∙◌}
use Rattle.bits.specs.declared.refusal.Refusal.{Refusal}
use Rattle.bits.specs.Refusals.{OnFault}
use Rattle.bits.specs.Codec.{IsFunctional}
use Rattle.thrift_compact.specs.Tree.{Fields as Struct}
use Rattle.thrift_compact.specs.Compact.{IsThrift}
use Rattle.schema.specs.declared.element.Element.{Element as CodeElement}
use Rattle.serde_json.specs.Data.{Data, depth}
use Rattle.serde_json.specs.Read.{read}
use Rattle.schema.specs.Shape.{Fields}
use Rattle.schema.specs.Elements.{Element, element_view, elements_view}
use Rattle.schema.specs.Listing.{IsSchemaOf}
use Rattle.jsonrows.specs.SchemaJson.{IsSchemaText}
use Rattle.jsonrows.specs.inner.SchemaReading.{Said, all_said, HasStruct, IsElementOf, AreElementsOf}
use Rattle.jsonrows.proofs.Said.{elements-push}
use Rattle.jsonrows.proofs.SchemaFields.{same_elements}

-- the elements so far, and one more
pub goes_on_with : (all now said : List Said) (s : Said) (es news : List CodeElement) (e : CodeElement) → now ≡ s ∷ said → news ≡ es ++ e ∷ [] → IsElementOf s (element_view e)
    → ((left : List Element) → AreElementsOf now left → AreElementsOf all (elements_view es ++ left)) → (left : List Element) → AreElementsOf said left → AreElementsOf all (elements_view news ++ left)
goes_on_with all now said s es news e step pushed is so_far left p =
    rw (pushed, elements-push es e left) (so_far (element_view e ∷ left) (subst (λ xs. AreElementsOf xs (element_view e ∷ left)) (sym step) (is, p)))

rest_are : (s : Said) (said : List Said) (es : List Element) → AreElementsOf (s ∷ said) es → (left : List Element) × AreElementsOf said left
rest_are s said [] p = absurd p
rest_are s said (e ∷ es) p = (es, p.1)

-- where all have elements, so has what is left behind the next one
pub goes_on_below : (all now said : List Said) (s : Said) → now ≡ s ∷ said → ((es : List Element) → AreElementsOf all es → (left : List Element) × AreElementsOf now left)
    → (es : List Element) → AreElementsOf all es → (left : List Element) × AreElementsOf said left
goes_on_below all now said s step behind es p =
    let h = behind es p in
    rest_are s said h.0 (subst (λ xs. AreElementsOf xs h.0) step h.1)

none_first : (s : Said) (said : List Said) (es : List Element) → ((e : Element) → IsElementOf s e → ⊥) → AreElementsOf (s ∷ said) es → ⊥
none_first s said [] none p = p
none_first s said (e ∷ es) none p = none e p.0

-- the next one has no element
pub no_elements : (all now said : List Said) (s : Said) → now ≡ s ∷ said → ((es : List Element) → AreElementsOf all es → (left : List Element) × AreElementsOf now left)
    → ((e : Element) → IsElementOf s e → ⊥) → (es : List Element) → AreElementsOf all es → ⊥
no_elements all now said s step behind none es p =
    let h = behind es p in
    none_first s said h.0 none (subst (λ xs. AreElementsOf xs h.0) step h.1)

one_kept : IsFunctional IsThrift → (s : Option (List ℕ)) (a b : Option Struct) → HasStruct s a → HasStruct s b → a ≡ b
one_kept one None None None h k = refl
one_kept one None None (Some b) h k = absurd k
one_kept one None (Some a) b h k = absurd h
one_kept one (Some s) None b h k = absurd h
one_kept one (Some s) (Some a) None h k = absurd k
one_kept one (Some s) (Some a) (Some b) h k = ap Some (one s a b (length s) (length s) h k).0

one_element : IsFunctional IsThrift → (s : Said) (e d : Element) → IsElementOf s e → IsElementOf s d → e ≡ d
one_element one s e d p q = p.same ∙ ap (λ t. record s.element { logical_type = t }) (one_kept one s.logical e.logical_type d.logical_type p.kept q.kept) ∙ sym q.same

one_list : IsFunctional IsThrift → (said : List Said) (es ds : List Element) → AreElementsOf said es → AreElementsOf said ds → es ≡ ds
one_list one [] [] [] p q = refl
one_list one [] [] (d ∷ ds) p q = absurd q
one_list one [] (e ∷ es) ds p q = absurd p
one_list one (s ∷ said) [] ds p q = absurd p
one_list one (s ∷ said) (e ∷ es) [] p q = absurd q
one_list one (s ∷ said) (e ∷ es) (d ∷ ds) p q = ap₂ (λ x xs. x ∷ xs) (one_element one s e d p.0 q.0) (one_list one said es ds p.1 q.1)

no_text : IsFunctional IsThrift → (text : List ℕ) (d : Data) (said : List Said) (es : List Element) → read text ≡ Some d → depth d ≤ 127 → Some said ≡ all_said d → AreElementsOf said es
    → ((fs : Fields) → IsSchemaOf es fs → ⊥) → (fs : Fields) → IsSchemaText text fs → ⊥
no_text one text d said es reads low says are none fs p =
    let its = same_elements text d said p.0 reads low says p.1 in
    none fs (subst (λ xs. IsSchemaOf xs fs) (one_list one said p.0 es its are) p.2)

-- the elements that a text says are refused as those of no schema
pub no_schema : {X : Type 0} → IsFunctional IsThrift → (text : List ℕ) (d : Data) (said : List Said) (es : List Element) (r : Result X Refusal) → read text ≡ Some d → depth d ≤ 127 → Some said ≡ all_said d → AreElementsOf said es
    → OnFault r ((fs : Fields) → IsSchemaOf es fs → ⊥) → OnFault r ((fs : Fields) → IsSchemaText text fs → ⊥)
no_schema one text d said es (Ok x) reads low says are none = tt
no_schema one text d said es (Err e) reads low says are none = λ fault. no_text one text d said es reads low says are (none fault)
