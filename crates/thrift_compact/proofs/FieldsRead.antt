-- The fields of a struct, one after the other.
use Rattle.std.proofs.Common.{◌≡◌, ℕ, ◌+◌, ◌<◌, ◌≤◌, List, [], ◌∷◌, ◌++◌, length, get_or, drop, refl, sym, ap, subst, ◌∙◌, arith}
use Rattle.std.specs.Prelude.{ℤ, pos}
use Rattle.std.proofs.lemmas.List.{drop-drop, length-drop, get_or-drop, get_or_append_left}
use Rattle.bits.specs.Codec.{NothingStands}
use Rattle.thrift_compact.specs.declared.tree.Field.{Field}
use Rattle.thrift_compact.specs.declared.tree.Node.{Node as CodeNode}
use Rattle.thrift_compact.specs.declared.tree.Node.TheOpen.{Field-F}
use Rattle.thrift_compact.specs.declared.tree.Node.TheViews.{roll-Field}
use Rattle.thrift_compact.specs.declared.tree.Node.TheFolds.{fold-roll-Field}
use Rattle.thrift_compact.specs.Tree.{Node, Fields, no_fields, field, nest, fields_nest}
use Rattle.thrift_compact.specs.Compact.{IsByte, IsFieldHead, IsValue, AreFields, kind}
use Rattle.thrift_compact.specs.inner.Reading.{FieldsOf, ValueOf}
use Rattle.thrift_compact.specs.View.{view, view_step, field_step, field_view, field_views}
use Rattle.thrift_compact.proofs.Parts.{one_field_head, not_end}
use Rattle.thrift_compact.proofs.One.{Same, one_value}
use Rattle.thrift_compact.proofs.Stays.{value_later, field_head_later}

abbrev pub append_fields : Fields → Fields → Fields
append_fields no_fields gs = gs
append_fields (field id x fs) gs = field id x (append_fields fs gs)

append_nil : (fs : Fields) → append_fields fs no_fields ≡ fs
append_nil no_fields = refl
append_nil (field id x fs) = ap (field id x) (append_nil fs)

append_one : (fs : Fields) (id : ℤ) (x : Node) (gs : Fields) → append_fields (append_fields fs (field id x no_fields)) gs ≡ append_fields fs (field id x gs)
append_one no_fields id x gs = refl
append_one (field jd y fs) id x gs = ap (field jd y) (append_one fs id x gs)

pub field_views_push : (vs : List Field) (f : Field) → field_views (vs ++ f ∷ []) ≡ append_fields (field_views vs) (field (field_view f).0 (field_view f).1 no_fields)
field_views_push [] f = refl
field_views_push (g ∷ vs) f = ap (field (field_view g).0 (field_view g).1) (field_views_push vs f)

-- what stands in the rest, whatever follows it: the fields `front` are read up to `at`
pub record GoingFields (bytes : List ℕ) (left at : ℕ) (previous : ℤ) (front : Fields) : Type 0 where
  pub within : at ≤ length bytes
  pub forward : (tail : Fields) (v : ℕ) → fields_nest tail ≤ left → AreFields tail previous (drop at bytes) v → FieldsOf left bytes (append_fields front tail) (at + v)
  pub backward : (after : List ℕ) (fs : Fields) (used : ℕ) → FieldsOf left (bytes ++ after) fs used
      → (tail : Fields) × ((v : ℕ) × (fields_nest tail ≤ left) × AreFields tail previous (drop at (bytes ++ after)) v)

pub begins : (bytes : List ℕ) (left : ℕ) → GoingFields bytes left 0 (pos 0) no_fields
begins bytes left = record {
  within = omega arith;
  forward = λ tail v d e. (d, subst (λ u. AreFields tail (pos 0) bytes u) (omega arith) e);
  backward = λ after fs used p. (fs, (used, p.0, p.1));
}

-- a field was read
pub goes_on : (bytes : List ℕ) (left at : ℕ) (previous : ℤ) (front : Fields) (id : ℤ) (x : Node) (k h u : ℕ) → h ≤ length (drop at bytes) → u ≤ length (drop (at + h) bytes)
    → IsFieldHead previous (drop at bytes) id k h → ValueOf k left (drop (at + h) bytes) x u
    → GoingFields bytes left at previous front → GoingFields bytes left (at + (h + u)) id (append_fields front (field id x no_fields))
unfolding Same
goes_on bytes left at previous front id x k h u fits0 fits head value p = record {
  within = omega (arith, fits0, fits, length-drop at bytes, length-drop (at + h) bytes, p.within);
  forward = λ tail v d e.
      let e2 : AreFields tail id (drop (h + u) (drop at bytes)) v = subst (λ t. AreFields tail id t v) (sym (drop-drop (h + u) at bytes)) e in
      let head2 = subst (λ j. IsFieldHead previous (drop at bytes) id j h) (sym value.0) head in
      let f = p.forward (field id x tail) (h + u + v) (omega (arith, d, value.1)) (h, u, v, head2, behind, e2, refl) in
      let g = subst (λ t. FieldsOf left bytes t (at + (h + u + v))) (sym (append_one front id x tail)) f in
      subst (λ w. FieldsOf left bytes (append_fields (append_fields front (field id x no_fields)) tail) w) (let q : at + (h + u + v) ≡ at + (h + u) + v = omega arith in q) g;
  backward = λ after fs used stands. let b = p.backward after fs used stands in back after b.0 b.1;
}
  where
    behind : IsValue x (drop h (drop at bytes)) u
    behind = subst (λ t. IsValue x t u) (sym (drop-drop h at bytes)) value.2

    back : (after : List ℕ) (tail : Fields) → (v : ℕ) × (fields_nest tail ≤ left) × AreFields tail previous (drop at (bytes ++ after)) v
        → (rest : Fields) × ((v : ℕ) × (fields_nest rest ≤ left) × AreFields rest id (drop (at + (h + u)) (bytes ++ after)) v)
    back after no_fields b = absurd (not_end previous (drop at (bytes ++ after)) id k h b.0 (field_head_later previous at bytes after id k h p.within head) b.2)
    back after (field jd y rest) b =
        let f = b.2 in
        let there = drop at (bytes ++ after) in
        let s = one_field_head previous there id jd k h (kind y) f.0 (field_head_later previous at bytes after id k h p.within head) f.3 in
        let f4 = subst (λ n. IsValue y (drop n there) f.1) (sym s.used) f.4 in
        let fits1 : at + h ≤ length bytes = omega (arith, fits0, length-drop at bytes, p.within) in
        let mine = subst (λ t. IsValue x t u) (sym (drop-drop h at (bytes ++ after))) (value_later x (at + h) bytes after u fits1 value.2) in
        let o = one_value x y (drop h there) u f.1 (value.0 ∙ s.code) mine f4 in
        let n : f.0 + f.1 ≡ h + u = omega (arith, s.used, o.1) in
        let f5 = subst (λ j. AreFields rest jd (drop j there) f.2) n f.5 in
        let f6 = subst (λ z. AreFields rest z (drop (h + u) there) f.2) (sym s.name) f5 in
        (rest, (f.2, omega (arith, b.1), subst (λ t. AreFields rest id t f.2) (drop-drop (h + u) at (bytes ++ after)) f6))

-- the byte that ends them was read
pub ends : (bytes : List ℕ) (left at : ℕ) (previous : ℤ) (front : Fields) → IsByte (drop at bytes) 0 1 → GoingFields bytes left at previous front → FieldsOf left bytes front (at + 1)
ends bytes left at previous front zero_byte p =
    let f = p.forward no_fields 1 (omega arith) zero_byte in
    subst (λ t. FieldsOf left bytes t (at + 1)) (append_nil front) f

-- neither the end nor a field stands there
pub none : (bytes : List ℕ) (left at : ℕ) (previous : ℤ) (front : Fields) (after : List ℕ) → ((v : ℕ) → IsByte (drop at (bytes ++ after)) 0 v → ⊥)
    → ((id : ℤ) (x : Node) (h u : ℕ) → IsFieldHead previous (drop at (bytes ++ after)) id (kind x) h → nest x ≤ left → IsValue x (drop (at + h) (bytes ++ after)) u → ⊥)
    → GoingFields bytes left at previous front → NothingStands (FieldsOf left (bytes ++ after))
none bytes left at previous front after no_end no_field p fs used stands = let b = p.backward after fs used stands in go b.0 b.1
  where
    go : (tail : Fields) → (v : ℕ) × (fields_nest tail ≤ left) × AreFields tail previous (drop at (bytes ++ after)) v → ⊥
    go no_fields b = no_end b.0 b.2
    go (field id x rest) b = no_field id x b.2.0 b.2.1 b.2.3 (omega (arith, b.1)) (subst (λ t. IsValue x t b.2.1) (drop-drop b.2.0 at (bytes ++ after)) b.2.4)

-- no value stands behind the header
pub no_value : (bytes : List ℕ) (left at : ℕ) (previous : ℤ) (front : Fields) (id : ℤ) (k h : ℕ) (after : List ℕ) → IsFieldHead previous (drop at bytes) id k h
    → NothingStands (ValueOf k left (drop (at + h) (bytes ++ after))) → GoingFields bytes left at previous front → NothingStands (FieldsOf left (bytes ++ after))
no_value bytes left at previous front id k h after head nothing p =
    let there = drop at (bytes ++ after) in
    let mine = field_head_later previous at bytes after id k h p.within head in
    none bytes left at previous front after (λ v. not_end previous there id k h v mine)
    (λ jd x g u other n v.
    let s = one_field_head previous there jd id (kind x) g k h other mine in
    nothing x u (s.code, n, subst (λ (j : ℕ). IsValue x (drop (at + j) (bytes ++ after)) u) s.used v)) p

pub byte_at_drop : (bytes : List ℕ) (at : ℕ) → get_or (drop at bytes) 0 0 ≡ get_or bytes at 0
byte_at_drop bytes at = get_or-drop at bytes 0 0 ∙ ap (λ (i : ℕ). get_or bytes i 0) (let e : at + 0 ≡ at = omega arith in e)

-- a byte within the first ones is the same, whatever follows them
pub byte_later : (bytes after : List ℕ) (at : ℕ) → at < length bytes → get_or (drop at (bytes ++ after)) 0 0 ≡ get_or bytes at 0
byte_later bytes after at lt = byte_at_drop (bytes ++ after) at ∙ get_or_append_left bytes after 0 at lt

pub zero_at : (bytes : List ℕ) (at : ℕ) → at < length bytes → get_or bytes at 0 ≡ 0 → IsByte (drop at bytes) 0 1
zero_at bytes at lt e = record { some = omega (arith, length-drop at bytes); is = byte_at_drop bytes at ∙ e; one = refl }

pub rolled_push : (vs : List Field) (id : ℤ) (v : CodeNode) → field_views (vs ++ roll-Field (record { id = id; value = v }) ∷ []) ≡ append_fields (field_views vs) (field id (view v) no_fields)
rolled_push vs id v =
    let x : Field-F CodeNode Field = record { id = id; value = v } in
    let e : field_view (roll-Field x) ≡ (id, view v) = fold-roll-Field Node (ℤ × Node) view_step field_step x in
    field_views_push vs (roll-Field x) ∙ ap (λ (p : ℤ × Node). append_fields (field_views vs) (field p.0 p.1 no_fields)) e
