-- The test of equality decides it.
use Rattle.std.proofs.Common.{◌≡◌, ◌<◌, ◌+◌, ℕ, suc, Bool, true, false, IsTrue, List, [], ◌∷◌, length, get_or, drop, refl, ap, sym, ◌∙◌}
use Rattle.std.specs.Prelude.{◌↔◌, ◌&&◌}
use Rattle.std.specs.Cmp.{signed_Decides}
use Rattle.std.specs.Cmp.Lexicographic.{bytes_decides}
use Rattle.std.proofs.lemmas.Bool.{false≢true, and_parts, false_from_ne_true as not_true}
use Rattle.std.proofs.lemmas.List.{drop_more}
use Rattle.lists.proofs.Booleans.{same_by_beq as same_booleans, beq_itself as boolean_itself}
use Rattle.schema.specs.declared.value.Value.{Value}
use Rattle.schema.specs.Values.{ValueTree, null, boolean, integer, bytes, group, list, ValueTrees, no_values, value as item, view, views}
use Rattle.filter.specs.Same.{same, same_each}

mutual
  pub same_is : (v w : ValueTree) → same v w ≡ true → v ≡ w
  same_is null null h = refl
  same_is (boolean a) (boolean b) h = ap boolean (same_booleans a b h)
  same_is (integer a) (integer b) h = ap integer ((signed_Decides a b).0 h)
  same_is (bytes a) (bytes b) h = ap bytes ((bytes_decides a b).0 h)
  same_is (group a) (group b) h = ap group (same_each_is a b h)
  same_is (list a) (list b) h = ap list (same_each_is a b h)
  same_is _ _ h = absurd (false≢true h)

  same_each_is : (vs ws : ValueTrees) → same_each vs ws ≡ true → vs ≡ ws
  same_each_is no_values no_values h = refl
  same_each_is (item v vs) (item w ws) h =
      let parts = and_parts (same v w) (same_each vs ws) h in
      let here = same_is v w parts.0 in
      let rest = same_each_is vs ws parts.1 in
      λ i. item (here i) (rest i)
  same_each_is _ _ h = absurd (false≢true h)

mutual
  pub same_itself : (v : ValueTree) → same v v ≡ true
  same_itself null = refl
  same_itself (boolean a) = boolean_itself a
  same_itself (integer a) = (signed_Decides a a).1 refl
  same_itself (bytes a) = (bytes_decides a a).1 refl
  same_itself (group vs) = same_each_itself vs
  same_itself (list vs) = same_each_itself vs

  same_each_itself : (vs : ValueTrees) → same_each vs vs ≡ true
  same_each_itself no_values = refl
  same_each_itself (item v vs) = rw (same_itself v) (same_each_itself vs)

pub same_from : (v w : ValueTree) → v ≡ w → same v w ≡ true
same_from v w e = rw (← e) (same_itself v)

-- what decides equality is the test
pub decides_same : (r : Bool) (v w : ValueTree) → (IsTrue r ↔ (v ≡ w)) → r ≡ same v w
decides_same true v w h = rw (same_from v w (h.0 refl)) refl
decides_same false v w h = rw (not_true (same v w) (λ s. false≢true (h.1 (same_is v w s)))) refl

-- ---- one value after another

pub each_differs : (vs ws : List Value) → (length vs ≡ length ws → ⊥) → same_each (views vs) (views ws) ≡ false
each_differs [] [] ne = absurd (ne refl)
each_differs [] (w ∷ ws) ne = refl
each_differs (v ∷ vs) [] ne = refl
each_differs (v ∷ vs) (w ∷ ws) ne = by (same (view v) (view w)) (each_differs vs ws (λ e. ne (ap suc e)))
  where
    by : (b : Bool) → same_each (views vs) (views ws) ≡ false → (b && same_each (views vs) (views ws)) ≡ false
    by true h = h
    by false h = refl

pub each_here : (vs ws : List Value) (i : ℕ) (x y : Value) → i < length vs → i < length ws → x ≡ get_or vs i x → y ≡ get_or ws i y
    → same_each (views (drop i vs)) (views (drop i ws)) ≡ (same (view x) (view y) && same_each (views (drop (i + 1) vs)) (views (drop (i + 1) ws)))
each_here vs ws i x y few fewer left right =
    let rest = same_each (views (drop (i + 1) vs)) (views (drop (i + 1) ws)) in
    ap (λ (xs : List Value). same_each (views xs) (views (drop i ws))) (drop_more vs i x few)
    ∙ ap (λ (ys : List Value). same_each (views (get_or vs i x ∷ drop (i + 1) vs)) (views ys)) (drop_more ws i y fewer)
    ∙ ap (λ (v : Value). same (view v) (view (get_or ws i y)) && rest) (sym left)
    ∙ ap (λ (w : Value). same (view x) (view w) && rest) (sym right)
