-- Tests made one by one.
use Rattle.std.proofs.Common.{◌≡◌, ◌≢◌, ℕ, suc, ◌+◌, ◌<◌, true, false, List, [], ◌∷◌, ◌++◌, length, get_or, drop, map, Some, Result, Ok, Err, refl, ap, sym, ◌∙◌, arith, append_assoc}
use Rattle.std.specs.Str.{bytes_eq}
use Rattle.std.specs.Cmp.Lexicographic.{pointwise, pointwise_decides, bytes_decides}
use Rattle.std.proofs.lemmas.List.{drop_more}
use Rattle.std.proofs.lemmas.Bool.{false_from_ne_true as not_true}
use Rattle.bits.specs.declared.refusal.Refusal.{Refusal}
use Rattle.schema.specs.declared.field.Leaf.{Leaf as CodeLeaf}
use Rattle.schema.specs.Views.{leaf_view}
use Rattle.filter.specs.Terms.{named_leaf, with_first, then_rest, each_of}

-- what was made, and what the rest gives
abbrev pub before : {Y : Type 0} → List Y → Result (List Y) Refusal → Result (List Y) Refusal
before ys (Ok zs) = Ok (ys ++ zs)
before ys (Err e) = Err e

pub before_none : {Y : Type 0} (r : Result (List Y) Refusal) → before [] r ≡ r
before_none (Ok zs) = refl
before_none (Err e) = refl

pub made_more : {X Y : Type 0} (f : X → Result Y Refusal) (x : X) (y : Y) (xs : List X) (ys : List Y) → f x ≡ Ok y → before ys (each_of f (x ∷ xs)) ≡ before (ys ++ y ∷ []) (each_of f xs)
made_more f x y xs ys e = ap (λ r. before ys (then_rest r (each_of f xs))) e ∙ by (each_of f xs)
  where
    by : (r : Result (List _) Refusal) → before ys (with_first y r) ≡ before (ys ++ y ∷ []) r
    by (Ok zs) = ap Ok (sym (append_assoc ys (y ∷ []) zs))
    by (Err g) = refl

-- a leaf with other names is skipped
pub passed_over : (leaves : List CodeLeaf) (i : ℕ) (l : CodeLeaf) (names : List (List ℕ)) → i < length leaves → l ≡ get_or leaves i l → (leaf_view l).path ≢ names
    → named_leaf i (map leaf_view (drop i leaves)) names ≡ named_leaf (i + 1) (map leaf_view (drop (i + 1) leaves)) names
passed_over leaves i l names h is other =
    let no : pointwise bytes_eq (leaf_view (get_or leaves i l)).path names ≡ false = ap (λ (x : CodeLeaf). pointwise bytes_eq (leaf_view x).path names) (sym is) ∙ not_true _ (λ e. other ((pointwise_decides bytes_decides _ names).0 e)) in
    let next : suc i ≡ i + 1 = omega arith in
    rw (drop_more leaves i l h, no) (ap (λ (n : ℕ). named_leaf n (map leaf_view (drop (i + 1) leaves)) names) next)

pub found_here : (leaves : List CodeLeaf) (i : ℕ) (l : CodeLeaf) (names : List (List ℕ)) → i < length leaves → l ≡ get_or leaves i l → (leaf_view l).path ≡ names
    → named_leaf i (map leaf_view (drop i leaves)) names ≡ Some (i, leaf_view l)
found_here leaves i l names h is same =
    let yes : pointwise bytes_eq (leaf_view (get_or leaves i l)).path names ≡ true = ap (λ (x : CodeLeaf). pointwise bytes_eq (leaf_view x).path names) (sym is) ∙ (pointwise_decides bytes_decides _ names).1 same in
    rw (drop_more leaves i l h, yes) (ap (λ (x : CodeLeaf). Some (i, leaf_view x)) (sym is))
