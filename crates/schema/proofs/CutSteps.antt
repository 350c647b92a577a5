-- What is kept of fields, from place to place.
use Rattle.std.proofs.Common.{ℕ, suc, ◌≡◌, ◌+◌, ◌<◌, ◌≤◌, Bool, List, [], ◌∷◌, length, map, drop, get_or, Option, Some, None, Result, Ok, Err, refl, ap, sym, subst, ◌∙◌}
use Rattle.std.specs.Prelude.{IfOk}
use Rattle.std.specs.List.{AllByRecursion}
use Rattle.lists.proofs.Slices.{drop_past}
use Rattle.lists.proofs.Lists.{length_map as length-each}
use Rattle.schema.specs.declared.value.Repetition.{Repetition}
use Rattle.schema.specs.declared.annotation.GroupAnnotation.{GroupAnnotation}
use Rattle.schema.specs.declared.field.Field.{Field as CodeField}
use Rattle.schema.specs.Shape.{Field, leaf, fields, Fields, no_fields, field}
use Rattle.schema.specs.declared.field.Leaf.{Leaf as CodeLeaf}
use Rattle.schema.specs.Stripe.{leaves, leaves_from, leaves_of}
use Rattle.schema.specs.Reading.{count_leaves, count_leaves_each}
use Rattle.schema.specs.inner.Reading.{join_fields}
use Rattle.schema.specs.Views.{field_view, field_views, leaf_view}
use Rattle.schema.specs.Cutting.{group_of, kept, cut, cut_each, ArePlaces}
use Rattle.schema.proofs.Few.{sizes}
use Rattle.schema.proofs.Forest.{field_place, join-none}

pub group_some : (n : List ℕ) (r : Repetition) (a : Option GroupAnnotation) (fs : List CodeField) → (length fs ≡ 0 → ⊥) → Some (fields n r a (field_views fs)) ≡ group_of n r a (field_views fs)
group_some n r a [] h = absurd (h refl)
group_some n r a (f ∷ fs) h = refl

mutual
  pub count_is : (f : Field) → count_leaves f ≡ length (leaves f)
  count_is (leaf n r t) = refl
  count_is (fields n r a fs) = counts_are 0 fs

  pub counts_are : (i : ℕ) (fs : Fields) → count_leaves_each fs ≡ length (leaves_from i fs)
  counts_are i no_fields = refl
  counts_are i (field f fs) = ap (λ n. n + count_leaves_each fs) (count_is f) ∙ ap (λ n. length (leaves f) + n) (counts_are (suc i) fs) ∙ sym (sizes i f fs)

join_kept : (a : Fields) (o : Option Field) (b : Fields) → join_fields (join_fields a (kept o no_fields)) b ≡ join_fields a (kept o b)
join_kept no_fields None b = refl
join_kept no_fields (Some f) b = refl
join_kept (field g a) o b = ap (field g) (join_kept a o b)

-- one field more
pub push_step : (w : ℕ → Bool) (next behind : ℕ) (fs : List CodeField) (i : ℕ) (f : CodeField) (o : Option Field) (old new : Fields) → i < length fs → f ≡ get_or fs i f
    → o ≡ cut w next (field_view f) → behind ≡ next + count_leaves (field_view f) → new ≡ join_fields old (kept o no_fields)
    → join_fields new (cut_each w behind (field_views (drop (i + 1) fs))) ≡ join_fields old (cut_each w next (field_views (drop i fs)))
push_step w next behind fs i f o old new h is made on pushed =
    let rest : ℕ → Fields = λ n. cut_each w n (field_views (drop (i + 1) fs)) in
    ap (λ t. join_fields t (rest behind)) pushed ∙ join_kept old o (rest behind)
    ∙ ap (λ p. join_fields old (kept p (rest behind))) made
    ∙ ap (λ n. join_fields old (kept (cut w next (field_view f)) (rest n))) (on ∙ ap (λ n. next + n) (count_is (field_view f)))
    ∙ ap (λ t. join_fields old (cut_each w next t)) (sym (field_place fs i f h is))

-- all fields are done
pub all_done : (w : ℕ → Bool) (next : ℕ) (fs : List CodeField) (i : ℕ) (old whole : Fields) → length fs ≤ i → join_fields old (cut_each w next (field_views (drop i fs))) ≡ whole → old ≡ whole
all_done w next fs i old whole h all = sym (join-none old) ∙ ap (λ xs. join_fields old (cut_each w next (field_views xs))) (sym (drop_past fs i h)) ∙ all

pub next_count : (fs : List CodeField) (i : ℕ) (f : CodeField) → i < length fs → f ≡ get_or fs i f → count_leaves_each (field_views (drop i fs)) ≡ count_leaves (field_view f) + count_leaves_each (field_views (drop (i + 1) fs))
next_count fs i f h is = ap count_leaves_each (field_place fs i f h is)

-- the places are those of leaves that are listed
pub places_there : (fs : Fields) (ls : List CodeLeaf) (n : ℕ) (places : List ℕ) → map leaf_view ls ≡ leaves_of fs → n ≡ length ls → 0 < length places → AllByRecursion (λ place. place < n) places → ArePlaces fs places
places_there fs ls n places e count some h = record {
  some = some;
  there = subst (λ k. AllByRecursion (λ place. place < k) places) (count ∙ sym (length-each leaf_view ls) ∙ ap length e) h;
}

pub ok_more : {X E : Type 0} (r : Result X E) (P Q : X → Type 0) → ((x : X) → P x → Q x) → IfOk r P → IfOk r Q
ok_more (Ok x) P Q f h = f x h
ok_more (Err e) P Q f h = h
