-- A front of bytes stands for at most one value of a type.
use Rattle.std.proofs.Common.{◌≡◌, ℕ, ◌+◌, List, drop, refl, sym, ap, subst, ◌∙◌, arith, inl, inr}
use Rattle.std.specs.Prelude.{ℤ, pos}
use Rattle.bits.specs.Codec.{IsFunctional}
use Rattle.bits.proofs.Facts.{one_uleb}
use Rattle.thrift_compact.specs.Tree.{Node, yes, no, flag, i8, i16, i32, i64, double, binary, list, set, empty_map, map, struct, Nodes, no_nodes, node, Pairs, no_pairs, pair, Fields, no_fields, field, count, count_pairs}
use Rattle.thrift_compact.specs.Compact.{IsValue, AreElements, ArePairs, AreFields, IsThrift, kind}
use Rattle.thrift_compact.specs.Values.{ValueOf}
use Rattle.thrift_compact.proofs.NodeTypes.{is_yes, is_no, is_flag, is_i8, is_i16, is_i32, is_i64, is_double, is_binary, is_list, is_set, is_map, is_struct, alike}
use Rattle.thrift_compact.proofs.Parts.{one_byte, one_signed_byte, one_double, one_signed, one_binary, one_list_head, one_map_head, one_field_head, not_end}

unfoldable pub Same : {A : Type 0} → A → A → ℕ → ℕ → Type 0
Same x y u v = (x ≡ y) × (u ≡ v)

mutual
  unfolding Same

  pub one_value : (x y : Node) (bytes : List ℕ) (u v : ℕ) → kind x ≡ kind y → IsValue x bytes u → IsValue y bytes v → Same x y u v
  one_value yes y bytes u v k p q =
      let i = is_yes y (sym k) in
      (sym i, p ∙ sym (subst (λ z. IsValue z bytes v) i q))
  one_value no y bytes u v k p q =
      let i = is_no y (sym k) in
      (sym i, p ∙ sym (subst (λ z. IsValue z bytes v) i q))
  one_value (flag b) y bytes u v k p q =
      let i = is_flag y (sym k) in
      let o = one_byte bytes b i.0 u v p (subst (λ z. IsValue z bytes v) i.1 q) in
      (ap flag o.0 ∙ sym i.1, o.1)
  one_value (i8 z) y bytes u v k p q =
      let i = is_i8 y (sym k) in
      let o = one_signed_byte bytes z i.0 u v p (subst (λ z. IsValue z bytes v) i.1 q) in
      (ap i8 o.0 ∙ sym i.1, o.1)
  one_value (i16 z) y bytes u v k p q =
      let i = is_i16 y (sym k) in
      let r = subst (λ z. IsValue z bytes v) i.1 q in
      let o = one_signed bytes z i.0 u v p.0 r.0 in
      (ap i16 o.0 ∙ sym i.1, o.1)
  one_value (i32 z) y bytes u v k p q =
      let i = is_i32 y (sym k) in
      let r = subst (λ z. IsValue z bytes v) i.1 q in
      let o = one_signed bytes z i.0 u v p.0 r.0 in
      (ap i32 o.0 ∙ sym i.1, o.1)
  one_value (i64 z) y bytes u v k p q =
      let i = is_i64 y (sym k) in
      let o = one_signed bytes z i.0 u v p (subst (λ z. IsValue z bytes v) i.1 q) in
      (ap i64 o.0 ∙ sym i.1, o.1)
  one_value (double text) y bytes u v k p q =
      let i = is_double y (sym k) in
      let o = one_double bytes text i.0 u v p (subst (λ z. IsValue z bytes v) i.1 q) in
      (ap double o.0 ∙ sym i.1, o.1)
  one_value (binary text) y bytes u v k p q =
      let i = is_binary y (sym k) in
      let o = one_binary bytes text i.0 u v p (subst (λ z. IsValue z bytes v) i.1 q) in
      (ap binary o.0 ∙ sym i.1, o.1)
  one_value (list l xs) y bytes u v k p q =
      let i = is_list y (sym k) in
      let r = subst (λ z. IsValue z bytes v) i.1.1 q in
      let h = one_list_head bytes l (count xs) p.0 i.0 (count i.1.0) r.0 p.2 r.2 in
      let r3 = subst (λ n. AreElements i.1.0 n (drop r.0 bytes) r.1) (sym h.code) r.3 in
      let r4 = subst (λ n. AreElements i.1.0 l (drop n bytes) r.1) (sym h.used) r3 in
      let o = one_elements xs i.1.0 l (drop p.0 bytes) p.1 r.1 h.size p.3 r4 in
      let e : list l xs ≡ list i.0 i.1.0 = cc (h.code, o.0) in
      (e ∙ sym i.1.1, omega (arith, p.4, r.4, h.used, o.1))
  one_value (set l xs) y bytes u v k p q =
      let i = is_set y (sym k) in
      let r = subst (λ z. IsValue z bytes v) i.1.1 q in
      let h = one_list_head bytes l (count xs) p.0 i.0 (count i.1.0) r.0 p.2 r.2 in
      let r3 = subst (λ n. AreElements i.1.0 n (drop r.0 bytes) r.1) (sym h.code) r.3 in
      let r4 = subst (λ n. AreElements i.1.0 l (drop n bytes) r.1) (sym h.used) r3 in
      let o = one_elements xs i.1.0 l (drop p.0 bytes) p.1 r.1 h.size p.3 r4 in
      let e : set l xs ≡ set i.0 i.1.0 = cc (h.code, o.0) in
      (e ∙ sym i.1.1, omega (arith, p.4, r.4, h.used, o.1))
  one_value empty_map y bytes u v k p q = elim (is_map y (sym k)) [
    | inl i ↦ (sym i, (one_uleb bytes 0 0 u v p (subst (λ z. IsValue z bytes v) i q)).1)
    | inr i ↦
        let r = subst (λ z. IsValue z bytes v) i.1.1.1 q in
        absurd (omega (arith, (one_uleb bytes 0 (count_pairs i.1.1.0) u r.2.head p r.2.size).0, r.2.some))
  ]
  one_value (map l m ps) y bytes u v k p q = elim (is_map y (sym k)) [
    | inl i ↦ absurd (omega (arith, (one_uleb bytes (count_pairs ps) 0 p.2.head v p.2.size (subst (λ z. IsValue z bytes v) i q)).0, p.2.some))
    | inr i ↦
        let r = subst (λ z. IsValue z bytes v) i.1.1.1 q in
        let h = one_map_head bytes l m (count_pairs ps) p.0 i.0 i.1.0 (count_pairs i.1.1.0) r.0 p.2 r.2 in
        let r3 = subst (λ n. ArePairs i.1.1.0 n i.1.0 (drop r.0 bytes) r.1) (sym h.key) r.3 in
        let r4 = subst (λ n. ArePairs i.1.1.0 l n (drop r.0 bytes) r.1) (sym h.value) r3 in
        let r5 = subst (λ n. ArePairs i.1.1.0 l m (drop n bytes) r.1) (sym h.used) r4 in
        let o = one_pairs ps i.1.1.0 l m (drop p.0 bytes) p.1 r.1 h.size p.3 r5 in
        let e : map l m ps ≡ map i.0 i.1.0 i.1.1.0 = cc (h.key, h.value, o.0) in
        (e ∙ sym i.1.1.1, omega (arith, p.4, r.4, h.used, o.1))
  ]
  one_value (struct fs) y bytes u v k p q =
      let i = is_struct y (sym k) in
      let o = one_fields fs i.0 (pos 0) bytes u v p (subst (λ z. IsValue z bytes v) i.1 q) in
      (ap struct o.0 ∙ sym i.1, o.1)

  pub one_elements : (xs ys : Nodes) (k : ℕ) (bytes : List ℕ) (u v : ℕ) → count xs ≡ count ys → AreElements xs k bytes u → AreElements ys k bytes v → Same xs ys u v
  one_elements no_nodes no_nodes k bytes u v n p q = (refl, p ∙ sym q)
  one_elements no_nodes (node y ys) k bytes u v n p q = absurd (omega arith)
  one_elements (node x xs) no_nodes k bytes u v n p q = absurd (omega arith)
  one_elements (node x xs) (node y ys) k bytes u v n p q =
      let o = one_value x y bytes p.1.0 q.1.0 (alike k x y p.0 q.0) p.1.2 q.1.2 in
      let r = subst (λ n. AreElements ys k (drop n bytes) q.1.1) (sym o.1) q.1.3 in
      let s = one_elements xs ys k (drop p.1.0 bytes) p.1.1 q.1.1 (omega arith) p.1.3 r in
      (cc (o.0, s.0), omega (arith, p.1.4, q.1.4, o.1, s.1))

  pub one_pairs : (ps qs : Pairs) (k l : ℕ) (bytes : List ℕ) (u v : ℕ) → count_pairs ps ≡ count_pairs qs → ArePairs ps k l bytes u → ArePairs qs k l bytes v → Same ps qs u v
  one_pairs no_pairs no_pairs k l bytes u v n p q = (refl, p ∙ sym q)
  one_pairs no_pairs (pair x y qs) k l bytes u v n p q = absurd (omega arith)
  one_pairs (pair x y ps) no_pairs k l bytes u v n p q = absurd (omega arith)
  one_pairs (pair a b ps) (pair x y qs) k l bytes u v n p q =
      let o = one_value a x bytes p.2.0 q.2.0 (alike k a x p.0 q.0) p.2.3 q.2.3 in
      let r4 = subst (λ n. IsValue y (drop n bytes) q.2.1) (sym o.1) q.2.4 in
      let t = one_value b y (drop p.2.0 bytes) p.2.1 q.2.1 (alike l b y p.1 q.1) p.2.4 r4 in
      let e : q.2.0 + q.2.1 ≡ p.2.0 + p.2.1 = omega (arith, o.1, t.1) in
      let r5 = subst (λ n. ArePairs qs k l (drop n bytes) q.2.2) e q.2.5 in
      let s = one_pairs ps qs k l (drop (p.2.0 + p.2.1) bytes) p.2.2 q.2.2 (omega arith) p.2.5 r5 in
      (cc (o.0, t.0, s.0), omega (arith, p.2.6, q.2.6, e, s.1))

  pub one_fields : (fs gs : Fields) (previous : ℤ) (bytes : List ℕ) (u v : ℕ) → AreFields fs previous bytes u → AreFields gs previous bytes v → Same fs gs u v
  one_fields no_fields no_fields previous bytes u v p q = (refl, (one_byte bytes 0 0 u v p q).1)
  one_fields no_fields (field jd y gs) previous bytes u v p q = absurd (not_end previous bytes jd (kind y) q.0 u q.3 p)
  one_fields (field id x fs) no_fields previous bytes u v p q = absurd (not_end previous bytes id (kind x) p.0 v p.3 q)
  one_fields (field id x fs) (field jd y gs) previous bytes u v p q =
      let h = one_field_head previous bytes id jd (kind x) p.0 (kind y) q.0 p.3 q.3 in
      let q4 = subst (λ n. IsValue y (drop n bytes) q.1) (sym h.used) q.4 in
      let o = one_value x y (drop p.0 bytes) p.1 q.1 h.code p.4 q4 in
      let e : q.0 + q.1 ≡ p.0 + p.1 = omega (arith, h.used, o.1) in
      let q5 = subst (λ n. AreFields gs jd (drop n bytes) q.2) e q.5 in
      let q6 = subst (λ z. AreFields gs z (drop (p.0 + p.1) bytes) q.2) (sym h.name) q5 in
      let s = one_fields fs gs id (drop (p.0 + p.1) bytes) p.2 q.2 p.5 q6 in
      (cc (h.name, o.0, s.0), omega (arith, p.6, q.6, h.used, o.1, s.1))

pub one_thrift : IsFunctional IsThrift
unfolding Same
one_thrift bytes fs gs u v p q = one_fields fs gs (pos 0) bytes u v p.spelled q.spelled

pub one_of_type : (code left : ℕ) → IsFunctional (ValueOf code left)
unfolding Same
one_of_type code left bytes x y u v p q = one_value x y bytes u v (p.0 ∙ sym q.0) p.2 q.2
