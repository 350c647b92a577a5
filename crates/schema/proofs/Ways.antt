-- Leaves, and the ways to them.
use Rattle.std.proofs.Common.{ℕ, suc, ◌≡◌, ◌+◌, ◌<◌, ◌≤◌, List, [], ◌∷◌, ◌++◌, length, drop, get_or, map, refl, ap, sym, subst, ◌∙◌, add-one, append_assoc, arith, Global}
use Rattle.std.specs.Rc.{rc_str_bytes}
use Rattle.std.specs.declared.rc.RcStr.{RcStr}
use Rattle.std.proofs.lemmas.List.{map-append as map-both}
use Rattle.schema.specs.declared.value.Repetition.{Repetition}
use Rattle.schema.specs.declared.field.Step.{Step as CodeStep}
use Rattle.schema.specs.declared.field.Field.{Field as CodeField}
use Rattle.schema.specs.Shape.{Field, Fields, no_fields, field, repetition_of, name_of}
use Rattle.schema.specs.Stripe.{Step, Leaf, leaf_at, below, leaves, leaves_from}
use Rattle.schema.specs.inner.LeafPaths.{along}
use Rattle.schema.specs.Reading.{tallest}
use Rattle.schema.specs.Views.{field_view, field_views, step_view}
use Rattle.schema.proofs.Forest.{field_place}

abbrev step_to : ℕ → Field → Step
step_to i f = record { place = i; repetition = repetition_of f }

along_below : (path : List (List ℕ)) (steps : List Step) (i : ℕ) (f : Field) (l : Leaf) → along path steps (below i f l) ≡ along (path ++ name_of f ∷ []) (steps ++ step_to i f ∷ []) l
along_below path steps i f l =
    ap (λ p. leaf_at p (steps ++ step_to i f ∷ l.steps) l.leaf_type) (sym (append_assoc path (name_of f ∷ []) l.path))
    ∙ ap (λ s. leaf_at ((path ++ name_of f ∷ []) ++ l.path) s l.leaf_type) (sym (append_assoc steps (step_to i f ∷ []) l.steps))

all_below : (path : List (List ℕ)) (steps : List Step) (i : ℕ) (f : Field) (ls : List Leaf) → map (along path steps) (map (below i f) ls) ≡ map (along (path ++ name_of f ∷ []) (steps ++ step_to i f ∷ [])) ls
all_below path steps i f [] = refl
all_below path steps i f (l ∷ ls) = ap (λ t. t ∷ map (along path steps) (map (below i f) ls)) (along_below path steps i f l) ∙ ap (λ t. along (path ++ name_of f ∷ []) (steps ++ step_to i f ∷ []) l ∷ t) (all_below path steps i f ls)

pub ways_more : (path : List (List ℕ)) (steps : List Step) (fs : List CodeField) (i : ℕ) (f : CodeField) → i < length fs → f ≡ get_or fs i f
    → map (along path steps) (leaves_from i (field_views (drop i fs)))
    ≡ map (along (path ++ name_of (field_view f) ∷ []) (steps ++ step_to i (field_view f) ∷ [])) (leaves (field_view f)) ++ map (along path steps) (leaves_from (i + 1) (field_views (drop (i + 1) fs)))
ways_more path steps fs i f h is =
    ap (λ t. map (along path steps) (leaves_from i t)) (field_place fs i f h is)
    ∙ map-both (along path steps) (map (below i (field_view f)) (leaves (field_view f))) (leaves_from (suc i) (field_views (drop (i + 1) fs)))
    ∙ ap (λ t. t ++ map (along path steps) (leaves_from (suc i) (field_views (drop (i + 1) fs)))) (all_below path steps i (field_view f) (leaves (field_view f)))
    ∙ ap (λ n. map (along (path ++ name_of (field_view f) ∷ []) (steps ++ step_to i (field_view f) ∷ [])) (leaves (field_view f)) ++ map (along path steps) (leaves_from n (field_views (drop (i + 1) fs)))) (sym (add-one i))

-- the leaves of one field more are added
pub push_way : (out more : List Leaf) (path down : List (RcStr Global)) (steps further : List CodeStep) (name : List ℕ) (x : Repetition) (fs : List CodeField) (i : ℕ) (f : CodeField) → i < length fs → f ≡ get_or fs i f
    → name ≡ name_of (field_view f) → x ≡ repetition_of (field_view f) → map rc_str_bytes down ≡ map rc_str_bytes path ++ name ∷ [] → further ≡ steps ++ record { place = i; repetition = x } ∷ []
    → more ≡ out ++ map (along (map rc_str_bytes down) (map step_view further)) (leaves (field_view f))
    → more ++ map (along (map rc_str_bytes path) (map step_view steps)) (leaves_from (i + 1) (field_views (drop (i + 1) fs))) ≡ out ++ map (along (map rc_str_bytes path) (map step_view steps)) (leaves_from i (field_views (drop i fs)))
push_way out more path down steps further name x fs i f h is named same deeper on wrote =
    let P : List (List ℕ) = map rc_str_bytes path in
    let S : List Step = map step_view steps in
    let rest : List Leaf = map (along P S) (leaves_from (i + 1) (field_views (drop (i + 1) fs))) in
    let names : map rc_str_bytes down ≡ P ++ name_of (field_view f) ∷ [] = deeper ∙ ap (λ n. P ++ n ∷ []) named in
    let ways : map step_view further ≡ S ++ step_to i (field_view f) ∷ [] =
    ap (map step_view) on ∙ map-both step_view steps (record { place = i; repetition = x } ∷ []) ∙ ap (λ r. S ++ record { place = i; repetition = r } ∷ []) same in
    ap (λ t. t ++ rest) wrote ∙ append_assoc out (map (along (map rc_str_bytes down) (map step_view further)) (leaves (field_view f))) rest
    ∙ ap (λ p. out ++ (map (along p (map step_view further)) (leaves (field_view f)) ++ rest)) names
    ∙ ap (λ s. out ++ (map (along (P ++ name_of (field_view f) ∷ []) s) (leaves (field_view f)) ++ rest)) ways
    ∙ ap (λ t. out ++ t) (sym (ways_more P S fs i f h is))

pub tall_rest : (n : ℕ) (fs : List CodeField) (i : ℕ) (f : CodeField) → i < length fs → f ≡ get_or fs i f → n + tallest (field_views (drop i fs)) ≤ 32 → n + tallest (field_views (drop (i + 1) fs)) ≤ 32
tall_rest n fs i f h is deep = let k = subst (λ t. n + tallest t ≤ 32) (field_place fs i f h is) deep in omega (arith, k)

none_below : (i : ℕ) (f : Field) (ls : List Leaf) → map (along [] []) (map (below i f) ls) ≡ map (below i f) ls
none_below i f [] = refl
none_below i f (l ∷ ls) = ap (λ t. below i f l ∷ t) (none_below i f ls)

-- seen from the root, leaves are what they are
pub leaves_none : (i : ℕ) (fs : Fields) → map (along [] []) (leaves_from i fs) ≡ leaves_from i fs
leaves_none i no_fields = refl
leaves_none i (field f fs) =
    map-both (along [] []) (map (below i f) (leaves f)) (leaves_from (suc i) fs)
    ∙ ap (λ t. t ++ map (along [] []) (leaves_from (suc i) fs)) (none_below i f (leaves f))
    ∙ ap (λ t. map (below i f) (leaves f) ++ t) (leaves_none (suc i) fs)
