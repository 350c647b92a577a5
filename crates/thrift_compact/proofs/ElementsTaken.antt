-- The elements of a list, each of them taken.
use Rattle.std.proofs.Common.{◌≡◌, ℕ, suc, ◌+◌, ◌<◌, ◌≤◌, List, ◌++◌, length, drop, refl, sym, ap, subst, ◌∙◌, arith, Option, Some}
use Rattle.std.proofs.lemmas.List.{drop-drop, length-drop}
use Rattle.std.specs.Prelude.{option_and_then}
use Rattle.lists.proofs.Options.{and_then_some}
use Rattle.bits.specs.Codec.{NothingStands}
use Rattle.thrift_compact.specs.Tree.{Node, Nodes, no_nodes, node, nodes_nest, count}
use Rattle.thrift_compact.specs.Compact.{AreElements}
use Rattle.thrift_compact.specs.Values.{folded_each}
use Rattle.thrift_compact.specs.inner.Reading.{ElementRead, ElementsTaken}
use Rattle.thrift_compact.proofs.NodeTypes.{alike}
use Rattle.thrift_compact.proofs.One.{Same, one_value}
use Rattle.thrift_compact.proofs.Stays.{value_later}

-- what stands in the rest, whatever follows it: `done` elements up to `at` are taken, and `now` is held
pub record Walking {S : Type 0} (step : S → Node → Option S) (start now : S) (bytes : List ℕ) (code left size done at : ℕ) : Type 0 where
  pub within : at ≤ length bytes
  pub forward : (held : S) (tail : Nodes) (v : ℕ) → count tail + done ≡ size → nodes_nest tail ≤ left → AreElements tail code (drop at bytes) v → folded_each step now tail ≡ Some held
      → ElementsTaken step start code left size bytes held (at + v)
  pub backward : (after : List ℕ) (held : S) (used : ℕ) → ElementsTaken step start code left size (bytes ++ after) held used
      → (tail : Nodes) × ((v : ℕ) × (count tail + done ≡ size) × (nodes_nest tail ≤ left) × AreElements tail code (drop at (bytes ++ after)) v × (folded_each step now tail ≡ Some held))

pub begins : {S : Type 0} (step : S → Node → Option S) (start : S) (bytes : List ℕ) (code left size : ℕ) → Walking step start start bytes code left size 0 0
begins step start bytes code left size = record {
  within = omega arith;
  forward = λ held tail v n d e f. (tail, (omega (arith, n), d, subst (λ u. AreElements tail code bytes u) (omega arith) e), f);
  backward = λ after held used p. (p.0, (used, omega (arith, p.1.0), p.1.1, p.1.2, p.2));
}

-- an element was taken
pub goes_on : {S : Type 0} (step : S → Node → Option S) (start now next : S) (bytes : List ℕ) (code left size done at u : ℕ) → done < size → u ≤ length (drop at bytes) → ElementRead (step now) code left (drop at bytes) next u
    → Walking step start now bytes code left size done at → Walking step start next bytes code left size (done + 1) (at + u)
unfolding Same
goes_on {S} step start now next bytes code left size done at u more fits (x, stands, taken) p = record {
  within = omega (arith, fits, length-drop at bytes, p.within);
  forward = λ held tail v n d e f.
      let e2 : AreElements tail code (drop u (drop at bytes)) v = subst (λ t. AreElements tail code t v) (sym (drop-drop u at bytes)) e in
      let n2 : suc (count tail) + done ≡ size = omega (arith, n) in
      let g = p.forward held (node x tail) (u + v) n2 (omega (arith, d, stands.1)) (stands.0, (u, v, stands.2, e2, refl)) (with_one tail ∙ f) in
      subst (λ w. ElementsTaken step start code left size bytes held w) (let q : at + (u + v) ≡ at + u + v = omega arith in q) g;
  backward = λ after held used s. let b = p.backward after held used s in back after held b.0 b.1;
}
  where
    with_one : (tail : Nodes) → folded_each step now (node x tail) ≡ folded_each step next tail
    with_one tail = ap (λ (o : Option S). option_and_then (λ n. folded_each step n tail) o) taken

    back : (after : List ℕ) (held : S) (tail : Nodes) → (v : ℕ) × (count tail + done ≡ size) × (nodes_nest tail ≤ left) × AreElements tail code (drop at (bytes ++ after)) v × (folded_each step now tail ≡ Some held)
        → (rest : Nodes) × ((v : ℕ) × (count rest + (done + 1) ≡ size) × (nodes_nest rest ≤ left) × AreElements rest code (drop (at + u) (bytes ++ after)) v × (folded_each step next rest ≡ Some held))
    back after held no_nodes b = absurd (omega (arith, b.1))
    back after held (node y rest) b =
        let there = drop at (bytes ++ after) in
        let o = one_value x y there u b.3.1.0 (alike code x y stands.0 b.3.0) (value_later x at bytes after u p.within stands.2) b.3.1.2 in
        let e2 = subst (λ w. AreElements rest code (drop w there) b.3.1.1) (sym o.1) b.3.1.3 in
        let t = subst (λ z. folded_each step now (node z rest) ≡ Some held) (sym o.0) b.4 in
        (rest, (b.3.1.1, omega (arith, b.1), omega (arith, b.2), subst (λ t. AreElements rest code t b.3.1.1) (drop-drop u at (bytes ++ after)) e2, sym (with_one rest) ∙ t))

-- all are taken
pub ends : {S : Type 0} (step : S → Node → Option S) (start now : S) (bytes : List ℕ) (code left size at : ℕ) → Walking step start now bytes code left size size at → ElementsTaken step start code left size bytes now at
ends step start now bytes code left size at p =
    let f = p.forward now no_nodes 0 (omega arith) (omega arith) refl refl in
    subst (λ w. ElementsTaken step start code left size bytes now w) (let q : at + 0 ≡ at = omega arith in q) f

-- no element that can be taken stands there
pub none : {S : Type 0} (step : S → Node → Option S) (start now : S) (bytes : List ℕ) (code left size done at : ℕ) (after : List ℕ) → done < size → NothingStands (ElementRead (step now) code left (drop at (bytes ++ after)))
    → Walking step start now bytes code left size done at → NothingStands (ElementsTaken step start code left size (bytes ++ after))
none step start now bytes code left size done at after more no_element p held used stands = let b = p.backward after held used stands in go b.0 b.1
  where
    go : (tail : Nodes) → (v : ℕ) × (count tail + done ≡ size) × (nodes_nest tail ≤ left) × AreElements tail code (drop at (bytes ++ after)) v × (folded_each step now tail ≡ Some held) → ⊥
    go no_nodes b = omega (arith, b.1)
    go (node y rest) b =
        let one = and_then_some (λ n. folded_each step n rest) (step now y) held b.4 in
        no_element one.0 b.3.1.0 (y, (b.3.0, omega (arith, b.2), b.3.1.2), one.1)
