-- The elements of a list, one after the other.
use Rattle.std.proofs.Common.{◌≡◌, ℕ, suc, ◌+◌, ◌<◌, ◌≤◌, List, [], ◌∷◌, ◌++◌, length, drop, refl, sym, ap, subst, arith}
use Rattle.std.specs.Prelude.{pos}
use Rattle.std.proofs.lemmas.List.{drop-drop, length-drop}
use Rattle.bits.specs.Codec.{NothingStands}
use Rattle.thrift_compact.specs.declared.tree.Node.{Node as CodeNode}
use Rattle.thrift_compact.specs.Tree.{Node, yes, no, flag, i8, i16, i32, i64, double, binary, list, set, empty_map, map, struct, Nodes, no_nodes, node, Fields, no_fields, field, nodes_nest, count}
use Rattle.thrift_compact.specs.Compact.{IsElement, IsValue, AreElements, AreFields, kind}
use Rattle.thrift_compact.specs.inner.Reading.{ElementsOf, ElementOf}
use Rattle.thrift_compact.specs.View.{view, views}
use Rattle.thrift_compact.proofs.NodeTypes.{alike}
use Rattle.thrift_compact.proofs.Parts.{list_head_within, field_head_within}
use Rattle.thrift_compact.proofs.One.{Same, one_value}
use Rattle.thrift_compact.proofs.Stays.{value_later}

-- ---- an element takes a byte at least

fields_some : (fs : Fields) (bytes : List ℕ) (u : ℕ) → AreFields fs (pos 0) bytes u → 1 ≤ u
fields_some no_fields bytes u p = omega (arith, p.one)
fields_some (field id x fs) bytes u p = let h = field_head_within (pos 0) bytes id (kind x) p.0 p.3 in omega (arith, h.0, p.6)

pub element_some : (k : ℕ) (x : Node) (bytes : List ℕ) (u : ℕ) → IsElement k x → IsValue x bytes u → 1 ≤ u
element_some k yes bytes u e p = absurd e
element_some k no bytes u e p = absurd e
element_some k (flag b) bytes u e p = omega (arith, p.one)
element_some k (i8 z) bytes u e p = omega (arith, p.byte.one)
element_some k (i16 z) bytes u e p = p.0.begins
element_some k (i32 z) bytes u e p = p.0.begins
element_some k (i64 z) bytes u e p = p.begins
element_some k (double text) bytes u e p = omega (arith, p.total)
element_some k (binary text) bytes u e p = omega (arith, p.total, p.size.begins)
element_some k (list l xs) bytes u e p = let h = list_head_within bytes l (count xs) p.0 p.2 in omega (arith, h.0, p.4)
element_some k (set l xs) bytes u e p = let h = list_head_within bytes l (count xs) p.0 p.2 in omega (arith, h.0, p.4)
element_some k empty_map bytes u e p = p.begins
element_some k (map l m ps) bytes u e p = omega (arith, p.4, p.2.total)
element_some k (struct fs) bytes u e p = fields_some fs bytes u p

pub elements_some : (xs : Nodes) (k : ℕ) (bytes : List ℕ) (u : ℕ) → AreElements xs k bytes u → count xs ≤ u
elements_some no_nodes k bytes u p = omega arith
elements_some (node x xs) k bytes u p =
    omega (arith, element_some k x bytes p.1.0 p.0 p.1.2, elements_some xs k (drop p.1.0 bytes) p.1.1 p.1.3, p.1.4)

-- ---- the loop

abbrev pub append : Nodes → Nodes → Nodes
append no_nodes ys = ys
append (node x xs) ys = node x (append xs ys)

append_nil : (xs : Nodes) → append xs no_nodes ≡ xs
append_nil no_nodes = refl
append_nil (node x xs) = ap (node x) (append_nil xs)

append_one : (xs : Nodes) (x : Node) (ys : Nodes) → append (append xs (node x no_nodes)) ys ≡ append xs (node x ys)
append_one no_nodes x ys = refl
append_one (node y xs) x ys = ap (node y) (append_one xs x ys)

pub views_push : (vs : List CodeNode) (v : CodeNode) → views (vs ++ v ∷ []) ≡ append (views vs) (node (view v) no_nodes)
views_push [] v = refl
views_push (w ∷ vs) v = ap (node (view w)) (views_push vs v)

-- what stands in the rest, whatever follows it: `done` elements, `front`, are read up to `at`
pub record Going (bytes : List ℕ) (code left size done at : ℕ) (front : Nodes) : Type 0 where
  pub within : at ≤ length bytes
  pub forward : (tail : Nodes) (v : ℕ) → count tail + done ≡ size → nodes_nest tail ≤ left → AreElements tail code (drop at bytes) v → ElementsOf code left size bytes (append front tail) (at + v)
  pub backward : (after : List ℕ) (xs : Nodes) (used : ℕ) → ElementsOf code left size (bytes ++ after) xs used
      → (tail : Nodes) × ((v : ℕ) × (count tail + done ≡ size) × (nodes_nest tail ≤ left) × AreElements tail code (drop at (bytes ++ after)) v)

pub begins : (bytes : List ℕ) (code left size : ℕ) → Going bytes code left size 0 0 no_nodes
begins bytes code left size = record {
  within = omega arith;
  forward = λ tail v n d e. (omega (arith, n), d, subst (λ u. AreElements tail code bytes u) (omega arith) e);
  backward = λ after xs used p. (xs, (used, omega (arith, p.0), p.1, p.2));
}

-- an element was read
pub goes_on : (bytes : List ℕ) (code left size done at : ℕ) (front : Nodes) (x : Node) (u : ℕ) → done < size → u ≤ length (drop at bytes) → ElementOf code left (drop at bytes) x u
    → Going bytes code left size done at front → Going bytes code left size (done + 1) (at + u) (append front (node x no_nodes))
unfolding Same
goes_on bytes code left size done at front x u more fits stands p = record {
  within = omega (arith, fits, length-drop at bytes, p.within);
  forward = λ tail v n d e.
      let e2 : AreElements tail code (drop u (drop at bytes)) v = subst (λ t. AreElements tail code t v) (sym (drop-drop u at bytes)) e in
      let n2 : suc (count tail) + done ≡ size = omega (arith, n) in
      let f = p.forward (node x tail) (u + v) n2 (omega (arith, stands.1)) (stands.0, (u, v, stands.2, e2, refl)) in
      let g = subst (λ t. ElementsOf code left size bytes t (at + (u + v))) (sym (append_one front x tail)) f in
      subst (λ w. ElementsOf code left size bytes (append (append front (node x no_nodes)) tail) w) (let q : at + (u + v) ≡ at + u + v = omega arith in q) g;
  backward = λ after xs used stands. let b = p.backward after xs used stands in back after b.0 b.1;
}
  where
    back : (after : List ℕ) (tail : Nodes) → (v : ℕ) × (count tail + done ≡ size) × (nodes_nest tail ≤ left) × AreElements tail code (drop at (bytes ++ after)) v
        → (rest : Nodes) × ((v : ℕ) × (count rest + (done + 1) ≡ size) × (nodes_nest rest ≤ left) × AreElements rest code (drop (at + u) (bytes ++ after)) v)
    back after no_nodes b = absurd (omega (arith, b.1))
    back after (node y rest) b =
        let there = drop at (bytes ++ after) in
        let o = one_value x y there u b.3.1.0 (alike code x y stands.0 b.3.0) (value_later x at bytes after u p.within stands.2) b.3.1.2 in
        let e2 = subst (λ w. AreElements rest code (drop w there) b.3.1.1) (sym o.1) b.3.1.3 in
        (rest, (b.3.1.1, omega (arith, b.1), omega (arith, b.2), subst (λ t. AreElements rest code t b.3.1.1) (drop-drop u at (bytes ++ after)) e2))

-- all are read
pub ends : (bytes : List ℕ) (code left size at : ℕ) (front : Nodes) → Going bytes code left size size at front → ElementsOf code left size bytes front at
ends bytes code left size at front p =
    let f = p.forward no_nodes 0 (omega arith) (omega arith) refl in
    let g = subst (λ t. ElementsOf code left size bytes t (at + 0)) (append_nil front) f in
    subst (λ w. ElementsOf code left size bytes front w) (let q : at + 0 ≡ at = omega arith in q) g

-- no element stands there
pub none : (bytes : List ℕ) (code left size done at : ℕ) (front : Nodes) (after : List ℕ) → done < size → NothingStands (ElementOf code left (drop at (bytes ++ after)))
    → Going bytes code left size done at front → NothingStands (ElementsOf code left size (bytes ++ after))
none bytes code left size done at front after more no_element p xs used stands = let b = p.backward after xs used stands in go b.0 b.1
  where
    go : (tail : Nodes) → (v : ℕ) × (count tail + done ≡ size) × (nodes_nest tail ≤ left) × AreElements tail code (drop at (bytes ++ after)) v → ⊥
    go no_nodes b = omega (arith, b.1)
    go (node y rest) b = no_element y b.3.1.0 (b.3.0, omega (arith, b.2), b.3.1.2)
