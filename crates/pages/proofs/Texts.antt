-- Which values are text.
use Rattle.std.proofs.Common.{ℕ, ◌≡◌, Bool, true, false, cond, List, [], ◌∷◌, Result, Ok, Err, refl, sym}
use Rattle.std.specs.Prelude.{IsTrue, ◌↔◌, map}
use Rattle.std.specs.List.{AllByRecursion, list_all}
use Rattle.std.proofs.lemmas.Bool.{and_from as both}
use Rattle.lists.proofs.Booleans.{and_first as first_of_both, and_second as second_of_both}
use Rattle.schema.specs.declared.value.Kind.{Kind}
use Rattle.schema.specs.declared.row.Entry.{Entry}
use Rattle.schema.specs.Annotations.{LeafType, is_text}
use Rattle.schema.specs.Fits.{fits_leaf, fits_kind, is_valid_text}
use Rattle.schema.specs.Values.{ValueTree}
use Rattle.plain.specs.Plain.{IsOfKind}
use Rattle.plain.specs.Held.{entry_value}

where_asked : (asked valid : Bool) → (asked ≡ true → valid ≡ true) → cond asked valid true ≡ true
where_asked true valid p = p refl
where_asked false valid p = refl

-- values of the type that entries have fit the leaf where they are text, if they are to be
pub texts_fit : (t : LeafType) (es : List Entry) → ((kind : Kind) (v : ValueTree) → IsOfKind kind v ↔ IsTrue (fits_kind kind v)) → AllByRecursion (IsOfKind t.kind) (map entry_value es)
    → (is_text t.kind t.annotation ≡ true → list_all (λ e. is_valid_text (entry_value e)) es ≡ true) → AllByRecursion (λ v. IsTrue (fits_leaf t v)) (map entry_value es)
texts_fit t [] law are text = tt
texts_fit t (e ∷ es) law (here, are) text = (
  both (fits_kind t.kind (entry_value e)) _ ((law t.kind (entry_value e)).0 here) (where_asked (is_text t.kind t.annotation) (is_valid_text (entry_value e)) (λ asked. first_of_both (is_valid_text (entry_value e)) _ (text asked))),
  texts_fit t es law are (λ asked. second_of_both (is_valid_text (entry_value e)) _ (text asked)),
)

-- and one that is to be text and is not does not
pub texts_unfit : (t : LeafType) (es : List Entry) → is_text t.kind t.annotation ≡ true → AllByRecursion (λ v. IsTrue (fits_leaf t v)) (map entry_value es) → list_all (λ e. is_valid_text (entry_value e)) es ≡ true
texts_unfit t [] asked fit = refl
texts_unfit t (e ∷ es) asked (here, fit) =
    let valid : cond (is_text t.kind t.annotation) (is_valid_text (entry_value e)) true ≡ true = second_of_both (fits_kind t.kind (entry_value e)) _ here in
    both (is_valid_text (entry_value e)) _ (rw asked at valid) (texts_unfit t es asked fit)

-- values that fit a leaf are of its type
pub kinds_of_fit : (t : LeafType) (vs : List ValueTree) → ((kind : Kind) (v : ValueTree) → IsOfKind kind v ↔ IsTrue (fits_kind kind v)) → AllByRecursion (λ v. IsTrue (fits_leaf t v)) vs → AllByRecursion (IsOfKind t.kind) vs
kinds_of_fit t [] law fit = tt
kinds_of_fit t (v ∷ vs) law (here, fit) = ((law t.kind v).1 (first_of_both (fits_kind t.kind v) _ here), kinds_of_fit t vs law fit)
