-- The pairs of a map, one after the other.
use Rattle.std.proofs.Common.{◌≡◌, ℕ, suc, ◌+◌, ◌<◌, ◌≤◌, List, [], ◌∷◌, ◌++◌, length, drop, refl, sym, ap, subst, arith}
use Rattle.std.proofs.lemmas.List.{drop-drop, length-drop}
use Rattle.bits.specs.Codec.{NothingStands}
use Rattle.thrift_compact.specs.declared.tree.Node.{Node as CodeNode}
use Rattle.thrift_compact.specs.Tree.{Node, Pairs, no_pairs, pair, pairs_nest, count_pairs}
use Rattle.thrift_compact.specs.Compact.{IsValue, ArePairs}
use Rattle.thrift_compact.specs.inner.Reading.{PairsOf, ElementOf}
use Rattle.thrift_compact.specs.View.{view, pair_views}
use Rattle.thrift_compact.proofs.NodeTypes.{alike}
use Rattle.thrift_compact.proofs.Elements.{element_some}
use Rattle.thrift_compact.proofs.One.{Same, one_value}
use Rattle.thrift_compact.proofs.Stays.{value_later}

pub pairs_some : (ps : Pairs) (k l : ℕ) (bytes : List ℕ) (u : ℕ) → ArePairs ps k l bytes u → count_pairs ps ≤ u
pairs_some no_pairs k l bytes u p = omega arith
pairs_some (pair x y ps) k l bytes u p =
    omega (arith, element_some k x bytes p.2.0 p.0 p.2.3, pairs_some ps k l (drop (p.2.0 + p.2.1) bytes) p.2.2 p.2.5, p.2.6)

abbrev pub append_pairs : Pairs → Pairs → Pairs
append_pairs no_pairs qs = qs
append_pairs (pair x y ps) qs = pair x y (append_pairs ps qs)

append_nil : (ps : Pairs) → append_pairs ps no_pairs ≡ ps
append_nil no_pairs = refl
append_nil (pair x y ps) = ap (pair x y) (append_nil ps)

append_one : (ps : Pairs) (x y : Node) (qs : Pairs) → append_pairs (append_pairs ps (pair x y no_pairs)) qs ≡ append_pairs ps (pair x y qs)
append_one no_pairs x y qs = refl
append_one (pair a b ps) x y qs = ap (pair a b) (append_one ps x y qs)

pub pair_views_push : (vs : List (CodeNode × CodeNode)) (k v : CodeNode) → pair_views (vs ++ (k, v) ∷ []) ≡ append_pairs (pair_views vs) (pair (view k) (view v) no_pairs)
pair_views_push [] k v = refl
pair_views_push (w ∷ vs) k v = ap (pair (view w.0) (view w.1)) (pair_views_push vs k v)

-- what stands in the rest, whatever follows it: `done` pairs, `front`, are read up to `at`
pub record GoingPairs (bytes : List ℕ) (key value left size done at : ℕ) (front : Pairs) : Type 0 where
  pub within : at ≤ length bytes
  pub forward : (tail : Pairs) (v : ℕ) → count_pairs tail + done ≡ size → pairs_nest tail ≤ left → ArePairs tail key value (drop at bytes) v → PairsOf key value left size bytes (append_pairs front tail) (at + v)
  pub backward : (after : List ℕ) (ps : Pairs) (used : ℕ) → PairsOf key value left size (bytes ++ after) ps used
      → (tail : Pairs) × ((v : ℕ) × (count_pairs tail + done ≡ size) × (pairs_nest tail ≤ left) × ArePairs tail key value (drop at (bytes ++ after)) v)

pub begins : (bytes : List ℕ) (key value left size : ℕ) → GoingPairs bytes key value left size 0 0 no_pairs
begins bytes key value left size = record {
  within = omega arith;
  forward = λ tail v n d e. (omega (arith, n), d, subst (λ u. ArePairs tail key value bytes u) (omega arith) e);
  backward = λ after ps used p. (ps, (used, omega (arith, p.0), p.1, p.2));
}

-- a pair was read
pub goes_on : (bytes : List ℕ) (key value left size done at : ℕ) (front : Pairs) (x y : Node) (s t : ℕ) → done < size → s ≤ length (drop at bytes) → t ≤ length (drop (at + s) bytes)
    → ElementOf key left (drop at bytes) x s → ElementOf value left (drop (at + s) bytes) y t
    → GoingPairs bytes key value left size done at front → GoingPairs bytes key value left size (done + 1) (at + (s + t)) (append_pairs front (pair x y no_pairs))
unfolding Same
goes_on bytes key value left size done at front x y s t more fits0 fits first second p = record {
  within = omega (arith, fits0, fits, length-drop at bytes, length-drop (at + s) bytes, p.within);
  forward = λ tail v n d e.
      let e2 : ArePairs tail key value (drop (s + t) (drop at bytes)) v = subst (λ b. ArePairs tail key value b v) (sym (drop-drop (s + t) at bytes)) e in
      let n2 : suc (count_pairs tail) + done ≡ size = omega (arith, n) in
      let f = p.forward (pair x y tail) (s + t + v) n2 (omega (arith, d, first.1, second.1)) (first.0, second.0, (s, t, v, first.2, behind, e2, refl)) in
      let g = subst (λ b. PairsOf key value left size bytes b (at + (s + t + v))) (sym (append_one front x y tail)) f in
      subst (λ w. PairsOf key value left size bytes (append_pairs (append_pairs front (pair x y no_pairs)) tail) w) (let q : at + (s + t + v) ≡ at + (s + t) + v = omega arith in q) g;
  backward = λ after ps used stands. let b = p.backward after ps used stands in back after b.0 b.1;
}
  where
    behind : IsValue y (drop s (drop at bytes)) t
    behind = subst (λ b. IsValue y b t) (sym (drop-drop s at bytes)) second.2

    back : (after : List ℕ) (tail : Pairs) → (v : ℕ) × (count_pairs tail + done ≡ size) × (pairs_nest tail ≤ left) × ArePairs tail key value (drop at (bytes ++ after)) v
        → (rest : Pairs) × ((v : ℕ) × (count_pairs rest + (done + 1) ≡ size) × (pairs_nest rest ≤ left) × ArePairs rest key value (drop (at + (s + t)) (bytes ++ after)) v)
    back after no_pairs b = absurd (omega (arith, b.1))
    back after (pair a c rest) b =
        let f = b.3 in
        let there = drop at (bytes ++ after) in
        let o = one_value x a there s f.2.0 (alike key x a first.0 f.0) (value_later x at bytes after s p.within first.2) f.2.3 in
        let f4 = subst (λ n. IsValue c (drop n there) f.2.1) (sym o.1) f.2.4 in
        let fits1 : at + s ≤ length bytes = omega (arith, fits0, length-drop at bytes, p.within) in
        let mine = subst (λ b. IsValue y b t) (sym (drop-drop s at (bytes ++ after))) (value_later y (at + s) bytes after t fits1 second.2) in
        let r = one_value y c (drop s there) t f.2.1 (alike value y c second.0 f.1) mine f4 in
        let n : f.2.0 + f.2.1 ≡ s + t = omega (arith, o.1, r.1) in
        let f5 = subst (λ j. ArePairs rest key value (drop j there) f.2.2) n f.2.5 in
        (rest, (f.2.2, omega (arith, b.1), omega (arith, b.2), subst (λ d. ArePairs rest key value d f.2.2) (drop-drop (s + t) at (bytes ++ after)) f5))

-- all are read
pub ends : (bytes : List ℕ) (key value left size at : ℕ) (front : Pairs) → GoingPairs bytes key value left size size at front → PairsOf key value left size bytes front at
ends bytes key value left size at front p =
    let f = p.forward no_pairs 0 (omega arith) (omega arith) refl in
    let g = subst (λ t. PairsOf key value left size bytes t (at + 0)) (append_nil front) f in
    subst (λ w. PairsOf key value left size bytes front w) (let q : at + 0 ≡ at = omega arith in q) g

-- no key stands there
pub no_key : (bytes : List ℕ) (key value left size done at : ℕ) (front : Pairs) (after : List ℕ) → done < size → NothingStands (ElementOf key left (drop at (bytes ++ after)))
    → GoingPairs bytes key value left size done at front → NothingStands (PairsOf key value left size (bytes ++ after))
no_key bytes key value left size done at front after more no_element p ps used stands = let b = p.backward after ps used stands in go b.0 b.1
  where
    go : (tail : Pairs) → (v : ℕ) × (count_pairs tail + done ≡ size) × (pairs_nest tail ≤ left) × ArePairs tail key value (drop at (bytes ++ after)) v → ⊥
    go no_pairs b = omega (arith, b.1)
    go (pair x y rest) b = no_element x b.3.2.0 (b.3.0, omega (arith, b.2), b.3.2.3)

-- no value stands behind the key
pub no_value : (bytes : List ℕ) (key value left size done at : ℕ) (front : Pairs) (x : Node) (s : ℕ) (after : List ℕ) → done < size → ElementOf key left (drop at bytes) x s
    → NothingStands (ElementOf value left (drop (at + s) (bytes ++ after))) → GoingPairs bytes key value left size done at front → NothingStands (PairsOf key value left size (bytes ++ after))
unfolding Same
no_value bytes key value left size done at front x s after more first no_element p ps used stands = let b = p.backward after ps used stands in go b.0 b.1
  where
    go : (tail : Pairs) → (v : ℕ) × (count_pairs tail + done ≡ size) × (pairs_nest tail ≤ left) × ArePairs tail key value (drop at (bytes ++ after)) v → ⊥
    go no_pairs b = omega (arith, b.1)
    go (pair a c rest) b =
        let f = b.3 in
        let there = drop at (bytes ++ after) in
        let o = one_value x a there s f.2.0 (alike key x a first.0 f.0) (value_later x at bytes after s p.within first.2) f.2.3 in
        let f4 = subst (λ n. IsValue c (drop n there) f.2.1) (sym o.1) f.2.4 in
        no_element c f.2.1 (f.1, omega (arith, b.2), subst (λ d. IsValue c d f.2.1) (drop-drop s at (bytes ++ after)) f4)
