-- The fields of a struct, each of them taken.
use Rattle.std.proofs.Common.{◌≡◌, ℕ, ◌+◌, ◌≤◌, List, ◌++◌, length, drop, refl, sym, ap, subst, ◌∙◌, arith, Option, Some}
use Rattle.std.specs.Prelude.{ℤ, pos, option_and_then}
use Rattle.std.proofs.lemmas.List.{drop-drop, length-drop}
use Rattle.lists.proofs.Options.{and_then_some}
use Rattle.bits.specs.Codec.{NothingStands}
use Rattle.thrift_compact.specs.Tree.{Node, Fields, no_fields, field, nest, fields_nest}
use Rattle.thrift_compact.specs.Compact.{IsByte, IsFieldHead, IsValue, AreFields, kind}
use Rattle.thrift_compact.specs.Values.{ReadAs, folded}
use Rattle.thrift_compact.specs.inner.Reading.{FieldsTaken}
use Rattle.thrift_compact.proofs.Parts.{one_field_head, not_end}
use Rattle.thrift_compact.proofs.One.{Same, one_value}
use Rattle.thrift_compact.proofs.Stays.{value_later, field_head_later}

-- what stands in the rest, whatever follows it: the fields up to `at` are taken, and `now` is held
pub record Walking {S : Type 0} (step : S → ℤ → Node → Option S) (start now : S) (bytes : List ℕ) (left at : ℕ) (previous : ℤ) : Type 0 where
  pub within : at ≤ length bytes
  pub forward : (held : S) (tail : Fields) (v : ℕ) → fields_nest tail ≤ left → AreFields tail previous (drop at bytes) v → folded step now tail ≡ Some held → FieldsTaken step start left bytes held (at + v)
  pub backward : (after : List ℕ) (held : S) (used : ℕ) → FieldsTaken step start left (bytes ++ after) held used
      → (tail : Fields) × ((v : ℕ) × (fields_nest tail ≤ left) × AreFields tail previous (drop at (bytes ++ after)) v × (folded step now tail ≡ Some held))

pub begins : {S : Type 0} (step : S → ℤ → Node → Option S) (start : S) (bytes : List ℕ) (left : ℕ) → Walking step start start bytes left 0 (pos 0)
begins step start bytes left = record {
  within = omega arith;
  forward = λ held tail v d e f. (tail, (d, subst (λ u. AreFields tail (pos 0) bytes u) (omega arith) e), f);
  backward = λ after held used p. (p.0, (used, p.1.0, p.1.1, p.2));
}

-- a field was taken
pub goes_on : {S : Type 0} (step : S → ℤ → Node → Option S) (start now next : S) (bytes : List ℕ) (left at : ℕ) (previous : ℤ) (id : ℤ) (k h u : ℕ) → h ≤ length (drop at bytes) → u ≤ length (drop (at + h) bytes)
    → IsFieldHead previous (drop at bytes) id k h → ReadAs (step now id) k left (drop (at + h) bytes) next u
    → Walking step start now bytes left at previous → Walking step start next bytes left (at + (h + u)) id
unfolding Same
goes_on {S} step start now next bytes left at previous id k h u fits0 fits head (x, value, taken) p = record {
  within = omega (arith, fits0, fits, length-drop at bytes, length-drop (at + h) bytes, p.within);
  forward = λ held tail v d e f.
      let e2 : AreFields tail id (drop (h + u) (drop at bytes)) v = subst (λ t. AreFields tail id t v) (sym (drop-drop (h + u) at bytes)) e in
      let head2 = subst (λ j. IsFieldHead previous (drop at bytes) id j h) (sym value.0) head in
      let g = p.forward held (field id x tail) (h + u + v) (omega (arith, d, value.1)) (h, u, v, head2, behind, e2, refl) (with_one tail ∙ f) in
      subst (λ w. FieldsTaken step start left bytes held w) (let q : at + (h + u + v) ≡ at + (h + u) + v = omega arith in q) g;
  backward = λ after held used stands. let b = p.backward after held used stands in back after held b.0 b.1;
}
  where
    with_one : (tail : Fields) → folded step now (field id x tail) ≡ folded step next tail
    with_one tail = ap (λ (o : Option S). option_and_then (λ n. folded step n tail) o) taken

    behind : IsValue x (drop h (drop at bytes)) u
    behind = subst (λ t. IsValue x t u) (sym (drop-drop h at bytes)) value.2

    back : (after : List ℕ) (held : S) (tail : Fields) → (v : ℕ) × (fields_nest tail ≤ left) × AreFields tail previous (drop at (bytes ++ after)) v × (folded step now tail ≡ Some held)
        → (rest : Fields) × ((v : ℕ) × (fields_nest rest ≤ left) × AreFields rest id (drop (at + (h + u)) (bytes ++ after)) v × (folded step next rest ≡ Some held))
    back after held no_fields b = absurd (not_end previous (drop at (bytes ++ after)) id k h b.0 (field_head_later previous at bytes after id k h p.within head) b.2)
    back after held (field jd y rest) b =
        let f = b.2 in
        let there = drop at (bytes ++ after) in
        let s = one_field_head previous there id jd k h (kind y) f.0 (field_head_later previous at bytes after id k h p.within head) f.3 in
        let f4 = subst (λ n. IsValue y (drop n there) f.1) (sym s.used) f.4 in
        let fits1 : at + h ≤ length bytes = omega (arith, fits0, length-drop at bytes, p.within) in
        let mine = subst (λ t. IsValue x t u) (sym (drop-drop h at (bytes ++ after))) (value_later x (at + h) bytes after u fits1 value.2) in
        let o = one_value x y (drop h there) u f.1 (value.0 ∙ s.code) mine f4 in
        let n : f.0 + f.1 ≡ h + u = omega (arith, s.used, o.1) in
        let f5 = subst (λ j. AreFields rest jd (drop j there) f.2) n f.5 in
        let f6 = subst (λ z. AreFields rest z (drop (h + u) there) f.2) (sym s.name) f5 in
        let t1 = subst (λ z. folded step now (field z y rest) ≡ Some held) (sym s.name) b.3 in
        let t2 = subst (λ z. folded step now (field id z rest) ≡ Some held) (sym o.0) t1 in
        (rest, (f.2, omega (arith, b.1), subst (λ t. AreFields rest id t f.2) (drop-drop (h + u) at (bytes ++ after)) f6, sym (with_one rest) ∙ t2))

-- the byte that ends them was read
pub ends : {S : Type 0} (step : S → ℤ → Node → Option S) (start now : S) (bytes : List ℕ) (left at : ℕ) (previous : ℤ) → IsByte (drop at bytes) 0 1 → Walking step start now bytes left at previous
    → FieldsTaken step start left bytes now (at + 1)
ends step start now bytes left at previous zero_byte p = p.forward now no_fields 1 (omega arith) zero_byte refl

-- neither the end nor a field that can be taken stands there
pub none : {S : Type 0} (step : S → ℤ → Node → Option S) (start now : S) (bytes : List ℕ) (left at : ℕ) (previous : ℤ) (after : List ℕ) → ((v : ℕ) → IsByte (drop at (bytes ++ after)) 0 v → ⊥)
    → ((id : ℤ) (x : Node) (h u : ℕ) (next : S) → IsFieldHead previous (drop at (bytes ++ after)) id (kind x) h → nest x ≤ left → IsValue x (drop (at + h) (bytes ++ after)) u → step now id x ≡ Some next → ⊥)
    → Walking step start now bytes left at previous → NothingStands (FieldsTaken step start left (bytes ++ after))
none {S} step start now bytes left at previous after no_end no_field p held used stands = let b = p.backward after held used stands in go b.0 b.1
  where
    go : (tail : Fields) → (v : ℕ) × (fields_nest tail ≤ left) × AreFields tail previous (drop at (bytes ++ after)) v × (folded step now tail ≡ Some held) → ⊥
    go no_fields b = no_end b.0 b.2
    go (field id x rest) b =
        let one = and_then_some (λ n. folded step n rest) (step now id x) held b.3 in
        no_field id x b.2.0 b.2.1 one.0 b.2.3 (omega (arith, b.1)) (subst (λ t. IsValue x t b.2.1) (drop-drop b.2.0 at (bytes ++ after)) b.2.4) one.1

-- no value that can be taken stands behind the header
pub no_value : {S : Type 0} (step : S → ℤ → Node → Option S) (start now : S) (bytes : List ℕ) (left at : ℕ) (previous : ℤ) (id : ℤ) (k h : ℕ) (after : List ℕ) → IsFieldHead previous (drop at bytes) id k h
    → NothingStands (ReadAs (step now id) k left (drop (at + h) (bytes ++ after))) → Walking step start now bytes left at previous → NothingStands (FieldsTaken step start left (bytes ++ after))
no_value step start now bytes left at previous id k h after head nothing p =
    let there = drop at (bytes ++ after) in
    let mine = field_head_later previous at bytes after id k h p.within head in
    none step start now bytes left at previous after (λ v. not_end previous there id k h v mine)
    (λ jd x g u next other n v e.
    let s = one_field_head previous there jd id (kind x) g k h other mine in
    nothing next u (x, (s.code, n, subst (λ (j : ℕ). IsValue x (drop (at + j) (bytes ++ after)) u) s.used v), subst (λ z. step now z x ≡ Some next) s.name e)) p
