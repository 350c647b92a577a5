-- A schema's groups have few children.
use Rattle.std.proofs.Common.{ℕ, suc, ◌≡◌, ◌+◌, ◌<◌, ◌≤◌, ◌^◌, List, [], ◌∷◌, ◌++◌, length, map, refl, ap, sym, subst, ◌∙◌, arith, append_assoc, Option, Some, None, String, Vec, Global, string_bytes, Result, Ok, Err, length-append as length-both}
use Rattle.std.specs.Prelude.{pos, OnOk}
use Rattle.std.proofs.lemmas.List.{map-append as map-both}
use Rattle.lists.proofs.Lists.{length_map as length-each}
use Rattle.schema.specs.declared.field.Field.{Field as CodeField, Leaf, Group}
use Rattle.schema.specs.declared.value.Repetition.{Repetition}
use Rattle.schema.specs.declared.annotation.GroupAnnotation.{GroupAnnotation}
use Rattle.schema.specs.declared.annotation.LeafType.{LeafType as CodeLeafType}
use Rattle.schema.specs.declared.element.Element.{Element as CodeElement}
use Rattle.schema.specs.Elements.{Element, element_view, elements_view}
use Rattle.schema.proofs.Seen.{view-Leaf, view-Group}
use Rattle.schema.specs.Shape.{Field, leaf, fields, Fields, no_fields, field, count}
use Rattle.schema.specs.Stripe.{leaves, leaves_from, below}
use Rattle.schema.specs.Law.{IsValid, AreValid}
use Rattle.schema.specs.Listed.{leaf_element, group_element, listing, listings, elements_of, root_name, repetition_number, group_converted, IsFew, AreFew}
use Rattle.schema.specs.Views.{field_view, field_views, leaf_type_view}

pub count-views : (fs : List CodeField) → count (field_views fs) ≡ length fs
count-views [] = refl
count-views (f ∷ fs) = ap suc (count-views fs)

pub sizes : (i : ℕ) (f : Field) (fs : Fields) → length (leaves_from i (field f fs)) ≡ length (leaves f) + length (leaves_from (suc i) fs)
sizes i f fs = let p = length-both (map (below i f) (leaves f)) (leaves_from (suc i) fs) in let q = length-each (below i f) (leaves f) in omega (arith, p, q)

mutual
  some_leaf : (f : Field) → IsValid f → 1 ≤ length (leaves f)
  some_leaf (leaf n r t) h = omega arith
  some_leaf (fields n r a no_fields) h = absurd h.0.some
  some_leaf (fields n r a (field f fs)) h = let k = count_leaves 0 (field f fs) h.1 in omega (arith, k)

  pub count_leaves : (i : ℕ) (fs : Fields) → AreValid fs → count fs ≤ length (leaves_from i fs)
  count_leaves i no_fields h = omega arith
  count_leaves i (field f fs) h = let a = some_leaf f h.0 in let b = count_leaves (suc i) fs h.1 in let s = sizes i f fs in omega (arith, a, b, s)

small : (n m : ℕ) → n ≤ m → m ≤ 1024 → n < 2 ^ 31
small n m h k = omega (arith, h, k)

mutual
  few_at : (f : Field) → IsValid f → length (leaves f) ≤ 1024 → IsFew f
  few_at (leaf n r t) v h = tt
  few_at (fields n r a fs) v h = (small (count fs) (length (leaves_from 0 fs)) (count_leaves 0 fs v.1) h, few_each 0 fs v.1 h)

  pub few_each : (i : ℕ) (fs : Fields) → AreValid fs → length (leaves_from i fs) ≤ 1024 → AreFew fs
  few_each i no_fields v h = tt
  few_each i (field f fs) v h = let s = sizes i f fs in (few_at f v.0 (omega (arith, s, h)), few_each (suc i) fs v.1 (omega (arith, s, h)))

pub few_fields : (fs : List CodeField) → AreValid (field_views fs) → length (leaves_from 0 (field_views fs)) ≤ 1024 → length fs < 2 ^ 31
few_fields fs v h = let c = count-views fs in small (length fs) (length (leaves_from 0 (field_views fs))) (let k = count_leaves 0 (field_views fs) v in omega (arith, k, c)) h

pub few_here : (f : CodeField) (n : String Global) (r : Repetition) (a : Option GroupAnnotation) (v : Vec CodeField Global) → f ≡ Group n r a v → IsFew (field_view f) → length v.items < 2 ^ 31
few_here f n r a v is h = let k = (subst IsFew (ap field_view is ∙ view-Group n r a v) h).0 in let c = count-views v.items in omega (arith, k, c)

one_more : (new old : List CodeElement) (e : CodeElement) (x : Element) → new ≡ old ++ e ∷ [] → element_view e ≡ x → elements_view new ≡ elements_view old ++ x ∷ []
one_more new old e x p q = ap elements_view p ∙ map-both element_view old (e ∷ []) ∙ ap (λ y. elements_view old ++ y ∷ []) q

pub leaf_added : (new old : List CodeElement) (e : CodeElement) (f : CodeField) (n : String Global) (r : Repetition) (t : CodeLeafType) → new ≡ old ++ e ∷ [] → element_view e ≡ leaf_element (string_bytes n) r (leaf_type_view t) → f ≡ Leaf n r t
    → elements_view new ≡ elements_view old ++ listing (field_view f)
leaf_added new old e f n r t p q is = one_more new old e _ p q ∙ ap (λ x. elements_view old ++ listing x) (sym (ap field_view is ∙ view-Leaf n r t))

pub group_added : (new mid old : List CodeElement) (e : CodeElement) (f : CodeField) (n : String Global) (r : Repetition) (a : Option GroupAnnotation) (v : Vec CodeField Global) (xs : List CodeField) → mid ≡ old ++ e ∷ []
    → element_view e ≡ group_element (string_bytes n) (Some (pos (repetition_number r))) (group_converted a) (length xs) → f ≡ Group n r a v → xs ≡ v.items → elements_view new ≡ elements_view mid ++ listings (field_views xs)
    → elements_view new ≡ elements_view old ++ listing (field_view f)
group_added new mid old e f n r a v xs p q is same below =
    let x : ℕ → Element = λ k. group_element (string_bytes n) (Some (pos (repetition_number r))) (group_converted a) k in
    below ∙ ap (λ t. t ++ listings (field_views xs)) (one_more mid old e (x (length xs)) p q) ∙ append_assoc (elements_view old) (x (length xs) ∷ []) (listings (field_views xs))
    ∙ ap (λ k. elements_view old ++ (x k ∷ listings (field_views xs))) (sym (count-views xs))
    ∙ ap (λ ys. elements_view old ++ (x (count (field_views ys)) ∷ listings (field_views ys))) same
    ∙ ap (λ y. elements_view old ++ listing y) (sym (ap field_view is ∙ view-Group n r a v))

pub on_ok : {X E : Type 0} (r : Result X E) (P Q : Type 0) → (P → Q) → OnOk r P → OnOk r Q
on_ok (Ok x) P Q f p = f p
on_ok (Err e) P Q f p = p

pub root_listed : (new mid old : List CodeElement) (e : CodeElement) (fs : List CodeField) → old ≡ [] → mid ≡ old ++ e ∷ [] → element_view e ≡ group_element root_name None None (length fs) → elements_view new ≡ elements_view mid ++ listings (field_views fs)
    → elements_view new ≡ elements_of (field_views fs)
root_listed new mid old e fs none p q below =
    below ∙ ap (λ t. t ++ listings (field_views fs)) (one_more mid old e _ p q) ∙ ap (λ o. (elements_view o ++ group_element root_name None None (length fs) ∷ []) ++ listings (field_views fs)) none
    ∙ ap (λ k. group_element root_name None None k ∷ listings (field_views fs)) (sym (count-views fs))
