-- What was written value by value.
use Rattle.std.proofs.Common.{◌≡◌, ℕ, zero, suc, ◌+◌, ◌<◌, ◌≤◌, List, [], ◌∷◌, ◌++◌, length, get_or, take, drop, refl, sym, ap, subst, ◌∙◌, arith, Result}
use Rattle.std.specs.Prelude.{ℤ, pos, ◌-◌, FitsSigned}
use Rattle.std.specs.Int.{w16, w32}
use Rattle.std.specs.Result.{IsErrAnd}
use Rattle.std.proofs.lemmas.List.{drop-drop, take_more, take_all, take-append-le, length-append}
use Rattle.bits.specs.declared.refusal.Refusal.{Refusal}
use Rattle.bits.specs.declared.refusal.Refusal.TheVariants.{Memory}
use Rattle.bits.specs.Refusals.{HasCause, RefusedOnly}
use Rattle.bits.specs.Codec.{Appends}
use Rattle.bits.proofs.Passing.{passes}
use Rattle.thrift_compact.specs.declared.tree.Field.{Field}
use Rattle.thrift_compact.specs.declared.tree.Node.{Node as CodeNode}
use Rattle.thrift_compact.specs.Tree.{Node, i16, i32, double, binary, list, map, struct, Nodes, no_nodes, node, Pairs, no_pairs, pair, Fields, no_fields, field, fields_nest, count, count_pairs}
use Rattle.thrift_compact.specs.Compact.{IsByte, IsBinary, IsListHead, IsMapHead, IsThrift, IsFieldHead, IsValue, AreFields, kind}
use Rattle.thrift_compact.specs.View.{view, views, pair_views, field_view, field_views}
use Rattle.thrift_compact.specs.Length.{size_length, size_i64, size_i32, size_i16, size_list_head, size_struct, size_value, size_elements, size_pairs, size_field_head, size_fields}
use Rattle.thrift_compact.specs.Piecewise.{AreBegun, size_begun, last_id}
use Rattle.thrift_compact.specs.inner.Writing.{IsWithoutBytes, SpellsValue, SpellsElement, SpellsElements, SpellsPair, SpellsPairs, SpellsField, SpellsFields, IsShortestSigned}
use Rattle.thrift_compact.proofs.Elements.{append, views_push}
use Rattle.thrift_compact.proofs.PairsRead.{append_pairs, pair_views_push}
use Rattle.thrift_compact.proofs.FieldsRead.{append_fields, field_views_push}
use Rattle.thrift_compact.proofs.Appending.{appends_then, appends_so, appends_as}
use Rattle.thrift_compact.proofs.Sizes.{short_size, int_size}

-- ---- refusals

-- each spelling of the whole has one of the part
abbrev pub HasPart : (List ℕ → ℕ → Type 0) → (List ℕ → ℕ → Type 0) → Type 0
HasPart Whole Part = (bytes : List ℕ) (used : ℕ) → Whole bytes used → (b : List ℕ) × ((u : ℕ) × Part b u)

because : (Part Whole : List ℕ → ℕ → Type 0) (e : Refusal) → HasPart Whole Part → HasCause (IsWithoutBytes Part) e → HasCause (IsWithoutBytes Whole) e
because Part Whole Memory part p = p
because Part Whole e part p = (p.0, λ bytes used s. let q = part bytes used s in p.1 q.0 q.1.0 q.1.1)

pub refused_by : {X : Type 0} (Part Whole : List ℕ → ℕ → Type 0) (r : Result X Refusal) (e : Refusal) → HasPart Whole Part → IsErrAnd r (λ f. f ≡ e) → HasCause (IsWithoutBytes Part) e → RefusedOnly (IsWithoutBytes Whole) r
refused_by Part Whole r e part is p = passes (HasCause (IsWithoutBytes Whole)) r e is (because Part Whole e part p)

-- ---- elements

pub count_views : (xs : List CodeNode) → count (views xs) ≡ length xs
count_views [] = refl
count_views (x ∷ xs) = ap suc (count_views xs)

pub push : (xs : Nodes) (x : Node) (code left : ℕ) (bytes : List ℕ) (u v : ℕ) → SpellsElements code left xs bytes u → SpellsElement code left x (drop u bytes) v → SpellsElements code left (append xs (node x no_nodes)) bytes (u + v)
push no_nodes x code left bytes u v p q =
    let q2 = subst (λ (n : ℕ). IsValue x (drop n bytes) v) p.1 q.2 in
    (omega (arith, q.1), (q.0, (v, 0, q2, refl, omega (arith, p.1))))
push (node y ys) x code left bytes u v p q =
    let e : drop p.1.1.1 (drop p.1.1.0 bytes) ≡ drop u bytes = drop-drop p.1.1.1 p.1.1.0 bytes ∙ ap (λ (n : ℕ). drop n bytes) (sym p.1.1.4) in
    let q2 = subst (λ (b : List ℕ). IsValue x b v) (sym e) q.2 in
    let r = push ys x code left (drop p.1.1.0 bytes) p.1.1.1 v (omega (arith, p.0), p.1.1.3) (q.0, q.1, q2) in
    (omega (arith, p.0, r.0), (p.1.0, (p.1.1.0, p.1.1.1 + v, p.1.1.2, r.1, omega (arith, p.1.1.4))))

pub size_push : (xs : Nodes) (x : Node) → size_elements (append xs (node x no_nodes)) ≡ size_elements xs + size_value x
size_push no_nodes x = omega arith
size_push (node y ys) x = omega (arith, size_push ys x)

pub elements_more : (xs : List CodeNode) (i : ℕ) (d : CodeNode) (code left : ℕ) (old mid new : List ℕ) → i < length xs
    → Appends (SpellsElements code left (views (take i xs))) (size_elements (views (take i xs))) old mid
    → Appends (SpellsElement code left (view (get_or xs i d))) (size_value (view (get_or xs i d))) mid new
    → Appends (SpellsElements code left (views (take (i + 1) xs))) (size_elements (views (take (i + 1) xs))) old new
elements_more xs i d code left old mid new lt p q =
    let x = get_or xs i d in
    let front = views (take i xs) in
    let e : views (take (i + 1) xs) ≡ append front (node (view x) no_nodes) = ap views (take_more xs i d lt) ∙ views_push (take i xs) x in
    let a = appends_then (SpellsElements code left front) (SpellsElement code left (view x)) (SpellsElements code left (append front (node (view x) no_nodes))) (size_elements front) (size_value (view x)) old mid new
    (λ bytes u v. push front (view x) code left bytes u v) p q in
    let b = subst (λ (m : ℕ). Appends (SpellsElements code left (append front (node (view x) no_nodes))) m old new) (sym (size_push front (view x))) a in
    subst (λ (ys : Nodes). Appends (SpellsElements code left ys) (size_elements ys) old new) (sym e) b

pub element_of : (xs : List CodeNode) (i : ℕ) (d : CodeNode) (code left : ℕ) → i < length xs → HasPart (SpellsElements code left (views xs)) (SpellsElement code left (view (get_or xs i d)))
element_of [] i d code left lt bytes used p = absurd (omega (arith, lt))
element_of (x ∷ xs) zero d code left lt bytes used p = (bytes, (p.1.1.0, (p.1.0, omega (arith, p.0), p.1.1.2)))
element_of (x ∷ xs) (suc i) d code left lt bytes used p = element_of xs i d code left (omega (arith, lt)) (drop p.1.1.0 bytes) p.1.1.1 (omega (arith, p.0), p.1.1.3)

-- ---- pairs

pub count_pair_views : (ps : List (CodeNode × CodeNode)) → count_pairs (pair_views ps) ≡ length ps
count_pair_views [] = refl
count_pair_views (p ∷ ps) = ap suc (count_pair_views ps)

push_pair : (ps : Pairs) (x y : Node) (k l left : ℕ) (bytes : List ℕ) (u v : ℕ) → SpellsPairs k l left ps bytes u → SpellsPair k l left x y (drop u bytes) v → SpellsPairs k l left (append_pairs ps (pair x y no_pairs)) bytes (u + v)
push_pair no_pairs x y k l left bytes u v p q =
    let q2 = subst (λ (n : ℕ). SpellsPair k l left x y (drop n bytes) v) p.1 q in
    (omega (arith, q2.2.1, q2.3.1), (q2.2.0, q2.3.0, (q2.0, q2.1, 0, q2.2.2, q2.3.2, refl, omega (arith, p.1, q2.4))))
push_pair (pair a b ps) x y k l left bytes u v p q =
    let f = p.1.2 in
    let e : drop f.2 (drop (f.0 + f.1) bytes) ≡ drop u bytes = drop-drop f.2 (f.0 + f.1) bytes ∙ ap (λ (n : ℕ). drop n bytes) (sym f.6) in
    let q2 = subst (λ (c : List ℕ). SpellsPair k l left x y c v) (sym e) q in
    let r = push_pair ps x y k l left (drop (f.0 + f.1) bytes) f.2 v (omega (arith, p.0), f.5) q2 in
    (omega (arith, p.0, r.0), (p.1.0, p.1.1, (f.0, f.1, f.2 + v, f.3, f.4, r.1, omega (arith, f.6))))

size_push_pair : (ps : Pairs) (x y : Node) → size_pairs (append_pairs ps (pair x y no_pairs)) ≡ size_pairs ps + (size_value x + size_value y)
size_push_pair no_pairs x y = omega arith
size_push_pair (pair a b ps) x y = omega (arith, size_push_pair ps x y)

pub pairs_more : (ps : List (CodeNode × CodeNode)) (i : ℕ) (d : CodeNode × CodeNode) (k l left : ℕ) (old mid new : List ℕ) → i < length ps
    → Appends (SpellsPairs k l left (pair_views (take i ps))) (size_pairs (pair_views (take i ps))) old mid
    → Appends (SpellsPair k l left (view (get_or ps i d).0) (view (get_or ps i d).1)) (size_value (view (get_or ps i d).0) + size_value (view (get_or ps i d).1)) mid new
    → Appends (SpellsPairs k l left (pair_views (take (i + 1) ps))) (size_pairs (pair_views (take (i + 1) ps))) old new
pairs_more ps i d k l left old mid new lt p q =
    let x = view (get_or ps i d).0 in
    let y = view (get_or ps i d).1 in
    let front = pair_views (take i ps) in
    let e : pair_views (take (i + 1) ps) ≡ append_pairs front (pair x y no_pairs) = ap pair_views (take_more ps i d lt) ∙ pair_views_push (take i ps) (get_or ps i d).0 (get_or ps i d).1 in
    let a = appends_then (SpellsPairs k l left front) (SpellsPair k l left x y) (SpellsPairs k l left (append_pairs front (pair x y no_pairs))) (size_pairs front) (size_value x + size_value y) old mid new
    (λ bytes u v. push_pair front x y k l left bytes u v) p q in
    let b = subst (λ (m : ℕ). Appends (SpellsPairs k l left (append_pairs front (pair x y no_pairs))) m old new) (sym (size_push_pair front x y)) a in
    subst (λ (qs : Pairs). Appends (SpellsPairs k l left qs) (size_pairs qs) old new) (sym e) b

pub pair_of : (ps : List (CodeNode × CodeNode)) (i : ℕ) (d : CodeNode × CodeNode) (k l left : ℕ) → i < length ps → HasPart (SpellsPairs k l left (pair_views ps)) (SpellsPair k l left (view (get_or ps i d).0) (view (get_or ps i d).1))
pair_of [] i d k l left lt bytes used p = absurd (omega (arith, lt))
pair_of (x ∷ ps) zero d k l left lt bytes used p =
    let f = p.1.2 in
    (bytes, (f.0 + f.1, (f.0, f.1, (p.1.0, omega (arith, p.0), f.3), (p.1.1, omega (arith, p.0), f.4), refl)))
pair_of (x ∷ ps) (suc i) d k l left lt bytes used p = let f = p.1.2 in pair_of ps i d k l left (omega (arith, lt)) (drop (f.0 + f.1) bytes) f.2 (omega (arith, p.0), f.5)

-- ---- fields

pub push_field : (fs : Fields) (id : ℤ) (x : Node) (left : ℕ) (previous last : ℤ) (bytes : List ℕ) (u v : ℕ) → AreBegun left fs previous last bytes u → SpellsField last left id x (drop u bytes) v
    → AreBegun left (append_fields fs (field id x no_fields)) previous id bytes (u + v)
push_field no_fields id x left previous last bytes u v p q =
    let q1 = subst (λ (n : ℕ). SpellsField last left id x (drop n bytes) v) p.0 q in
    let q2 = subst (λ (z : ℤ). SpellsField z left id x bytes v) p.1 q1 in
    (q2.0, q2.1, 0, q2.2, q2.3, (refl, refl), omega (arith, p.0, q2.4))
push_field (field jd y fs) id x left previous last bytes u v p q =
    let e : drop p.2 (drop (p.0 + p.1) bytes) ≡ drop u bytes = drop-drop p.2 (p.0 + p.1) bytes ∙ ap (λ (n : ℕ). drop n bytes) (sym p.6) in
    let q2 = subst (λ (c : List ℕ). SpellsField last left id x c v) (sym e) q in
    (p.0, p.1, p.2 + v, p.3, p.4, push_field fs id x left jd last (drop (p.0 + p.1) bytes) p.2 v p.5 q2, omega (arith, p.6))

pub size_more : (fs : Fields) (left : ℕ) (previous last : ℤ) (bytes : List ℕ) (u : ℕ) → AreBegun left fs previous last bytes u → (id : ℤ) (x : Node) → size_begun (append_fields fs (field id x no_fields)) previous ≡ size_begun fs previous + (size_field_head last id + size_value x)
size_more no_fields left previous last bytes u p id x = let e : size_field_head previous id ≡ size_field_head last id = ap (λ (z : ℤ). size_field_head z id) (sym p.1) in omega (arith, e)
size_more (field jd y fs) left previous last bytes u p id x = omega (arith, size_more fs left jd last (drop (p.0 + p.1) bytes) p.2 p.5 id x)

pub finish : (fs : Fields) (left : ℕ) (previous last : ℤ) (bytes : List ℕ) (u v : ℕ) → AreBegun left fs previous last bytes u → IsByte (drop u bytes) 0 v → (fields_nest fs ≤ left) × AreFields fs previous bytes (u + v)
finish no_fields left previous last bytes u v p q =
    let b = subst (λ (n : ℕ). IsByte (drop n bytes) 0 v) p.0 q in
    (omega arith, subst (λ (n : ℕ). IsByte bytes 0 n) (let e : v ≡ u + v = omega (arith, p.0) in e) b)
finish (field id x fs) left previous last bytes u v p q =
    let e : drop p.2 (drop (p.0 + p.1) bytes) ≡ drop u bytes = drop-drop p.2 (p.0 + p.1) bytes ∙ ap (λ (n : ℕ). drop n bytes) (sym p.6) in
    let r = finish fs left id last (drop (p.0 + p.1) bytes) p.2 v p.5 (subst (λ (c : List ℕ). IsByte c 0 v) (sym e) q) in
    (omega (arith, r.0, p.4.0), (p.0, p.1, p.2 + v, p.3, p.4.1, r.1, omega (arith, p.6)))

pub size_end : (fs : Fields) (previous : ℤ) → size_fields fs previous ≡ size_begun fs previous + 1
size_end no_fields previous = refl
size_end (field id x fs) previous = omega (arith, size_end fs id)

pub field_all : (previous id : ℤ) (x : Node) (k left : ℕ) (old mid new : List ℕ) → k ≡ kind x → Appends (λ bytes. IsFieldHead previous bytes id k) (size_field_head previous id) old mid → Appends (SpellsValue left x) (size_value x) mid new
    → Appends (SpellsField previous left id x) (size_field_head previous id + size_value x) old new
field_all previous id x k left old mid new is p q =
    appends_then (λ bytes. IsFieldHead previous bytes id k) (SpellsValue left x) (SpellsField previous left id x) (size_field_head previous id) (size_value x) old mid new
    (λ bytes u v a b. (u, v, subst (λ (j : ℕ). IsFieldHead previous bytes id j u) is a, b, refl)) p q

pub fields_more : (fs : List Field) (i : ℕ) (d : Field) (left : ℕ) (previous last : ℤ) (old mid new : List ℕ) → i < length fs
    → Appends (AreBegun left (field_views (take i fs)) previous last) (size_begun (field_views (take i fs)) previous) old mid
    → Appends (SpellsField last left (field_view (get_or fs i d)).0 (field_view (get_or fs i d)).1) (size_field_head last (field_view (get_or fs i d)).0 + size_value (field_view (get_or fs i d)).1) mid new
    → Appends (AreBegun left (field_views (take (i + 1) fs)) previous (field_view (get_or fs i d)).0) (size_begun (field_views (take (i + 1) fs)) previous) old new
fields_more fs i d left previous last old mid new lt p q =
    let id = (field_view (get_or fs i d)).0 in
    let x = (field_view (get_or fs i d)).1 in
    let front = field_views (take i fs) in
    let e : field_views (take (i + 1) fs) ≡ append_fields front (field id x no_fields) = ap field_views (take_more fs i d lt) ∙ field_views_push (take i fs) (get_or fs i d) in
    let a = appends_then (AreBegun left front previous last) (SpellsField last left id x) (AreBegun left (append_fields front (field id x no_fields)) previous id) (size_begun front previous) (size_field_head last id + size_value x) old mid new
    (λ bytes u v. push_field front id x left previous last bytes u v) p q in
    let m = size_more front left previous last (p.text ++ []) (length p.text) (p.stands []) id x in
    let b = subst (λ (n : ℕ). Appends (AreBegun left (append_fields front (field id x no_fields)) previous id) n old new) (sym m) a in
    subst (λ (gs : Fields). Appends (AreBegun left gs previous id) (size_begun gs previous) old new) (sym e) b

pub fields_all : (fs : List Field) (i : ℕ) (left : ℕ) (previous last : ℤ) (old mid new : List ℕ) → length fs ≤ i → Appends (AreBegun left (field_views (take i fs)) previous last) (size_begun (field_views (take i fs)) previous) old mid
    → Appends (λ bytes. IsByte bytes 0) 1 mid new → Appends (λ bytes used. (fields_nest (field_views fs) ≤ left) × AreFields (field_views fs) previous bytes used) (size_fields (field_views fs) previous) old new
fields_all fs i left previous last old mid new le p q =
    let whole = subst (λ (gs : List Field). Appends (AreBegun left (field_views gs) previous last) (size_begun (field_views gs) previous) old mid) (take_all i fs le) p in
    let a = appends_then (AreBegun left (field_views fs) previous last) (λ bytes. IsByte bytes 0) (λ bytes used. (fields_nest (field_views fs) ≤ left) × AreFields (field_views fs) previous bytes used) (size_begun (field_views fs) previous) 1 old mid new
    (λ bytes u v. finish (field_views fs) left previous last bytes u v) whole q in
    subst (λ (n : ℕ). Appends (λ bytes used. (fields_nest (field_views fs) ≤ left) × AreFields (field_views fs) previous bytes used) n old new) (sym (size_end (field_views fs) previous)) a

-- the last id that was written is the last field's
pub last_is : (fs : Fields) (left : ℕ) (previous last : ℤ) (bytes : List ℕ) (u : ℕ) → AreBegun left fs previous last bytes u → last ≡ last_id fs previous
last_is no_fields left previous last bytes u p = p.1
last_is (field id x fs) left previous last bytes u p = last_is fs left id last (drop (p.0 + p.1) bytes) p.2 p.5

pub begun_last : (fs : List Field) (i : ℕ) (left : ℕ) (last : ℤ) (old mid : List ℕ) → Appends (AreBegun left (field_views (take i fs)) (pos 0) last) (size_begun (field_views (take i fs)) (pos 0)) old mid → last ≡ last_id (field_views (take i fs)) (pos 0)
begun_last fs i left last old mid p = last_is (field_views (take i fs)) left (pos 0) last (p.text ++ []) (length p.text) (p.stands [])

field_there : (fs : List Field) (i : ℕ) (d : Field) (left : ℕ) (previous last : ℤ) → i < length fs → last ≡ last_id (field_views (take i fs)) previous → (bytes : List ℕ) (used : ℕ) → (fields_nest (field_views fs) ≤ left) × AreFields (field_views fs) previous bytes used
    → (b : List ℕ) × ((u : ℕ) × SpellsField last left (field_view (get_or fs i d)).0 (field_view (get_or fs i d)).1 b u)
field_there [] i d left previous last lt is bytes used p = absurd (omega (arith, lt))
field_there (f ∷ fs) zero d left previous last lt is bytes used p =
    let head = subst (λ (z : ℤ). IsFieldHead z bytes (field_view f).0 (kind (field_view f).1) p.1.0) (sym is) p.1.3 in
    (bytes, (p.1.0 + p.1.1, (p.1.0, p.1.1, head, (omega (arith, p.0), p.1.4), refl)))
field_there (f ∷ fs) (suc i) d left previous last lt is bytes used p =
    field_there fs i d left (field_view f).0 last (omega (arith, lt)) is (drop (p.1.0 + p.1.1) bytes) p.1.2 (omega (arith, p.0), p.1.5)

pub field_of : (fs : List Field) (i : ℕ) (d : Field) (left : ℕ) (last : ℤ) → i < length fs → last ≡ last_id (field_views (take i fs)) (pos 0) → HasPart (SpellsFields left (field_views fs)) (SpellsField last left (field_view (get_or fs i d)).0 (field_view (get_or fs i d)).1)
field_of fs i d left last lt is = λ bytes used p. field_there fs i d left (pos 0) last lt is bytes used p

-- ---- containers

pub list_all : (k : ℕ) (xs : List CodeNode) (left : ℕ) (old mid new : List ℕ) → 0 < left → Appends (λ bytes. IsListHead bytes k (length xs)) (size_list_head (length xs)) old mid
    → Appends (SpellsElements k (left - 1) (views xs)) (size_elements (views xs)) mid new → Appends (SpellsValue left (list k (views xs))) (size_value (list k (views xs))) old new
list_all k xs left old mid new some p q =
    let n = count_views xs in
    let p2 = subst (λ (m : ℕ). Appends (λ bytes. IsListHead bytes k m) (size_list_head m) old mid) (sym n) p in
    appends_then (λ bytes. IsListHead bytes k (count (views xs))) (SpellsElements k (left - 1) (views xs)) (SpellsValue left (list k (views xs))) (size_list_head (count (views xs))) (size_elements (views xs)) old mid new
    (λ bytes u v a b. (omega (arith, b.0, some), (u, v, a, b.1, refl))) p2 q

pub map_all : (k l : ℕ) (ps : List (CodeNode × CodeNode)) (left : ℕ) (old mid new : List ℕ) → 0 < left → Appends (λ bytes. IsMapHead bytes k l (length ps)) (size_length (length ps) + 1) old mid
    → Appends (SpellsPairs k l (left - 1) (pair_views ps)) (size_pairs (pair_views ps)) mid new → Appends (SpellsValue left (map k l (pair_views ps))) (size_value (map k l (pair_views ps))) old new
map_all k l ps left old mid new some p q =
    let n = count_pair_views ps in
    let p2 = subst (λ (m : ℕ). Appends (λ bytes. IsMapHead bytes k l m) (size_length m + 1) old mid) (sym n) p in
    appends_then (λ bytes. IsMapHead bytes k l (count_pairs (pair_views ps))) (SpellsPairs k l (left - 1) (pair_views ps)) (SpellsValue left (map k l (pair_views ps))) (size_length (count_pairs (pair_views ps)) + 1) (size_pairs (pair_views ps)) old mid new
    (λ bytes u v a b. (omega (arith, b.0, some), (u, v, a, b.1, refl))) p2 q

pub struct_all : (fs : Fields) (left : ℕ) (old new : List ℕ) → 0 < left → Appends (SpellsFields (left - 1) fs) (size_fields fs (pos 0)) old new → Appends (SpellsValue left (struct fs)) (size_value (struct fs)) old new
struct_all fs left old new some p = appends_so (SpellsFields (left - 1) fs) (SpellsValue left (struct fs)) (size_fields fs (pos 0)) old new (λ bytes u s. (omega (arith, s.0, some), s.1)) p

pub thrift_stands : (fs : Fields) (old new : List ℕ) → Appends (SpellsFields 32 fs) (size_fields fs (pos 0)) old new → Appends (λ bytes used. IsThrift bytes fs used) (size_struct fs) old new
thrift_stands fs old new p = appends_so (SpellsFields 32 fs) (λ bytes used. IsThrift bytes fs used) (size_fields fs (pos 0)) old new (λ bytes u s. record { spelled = s.1; shallow = s.0 }) p

-- ---- values that hold no others

pub binary_stands : (x : Node) (text : List ℕ) (left : ℕ) (old new : List ℕ) → x ≡ binary text → Appends (λ bytes. IsBinary bytes text) (size_length (length text) + length text) old new → Appends (SpellsValue left x) (size_value x) old new
binary_stands x text left old new is p = subst (λ (y : Node). Appends (SpellsValue left y) (size_value y) old new) (sym is)
    (appends_so (λ bytes. IsBinary bytes text) (SpellsValue left (binary text)) (size_length (length text) + length text) old new (λ bytes u s. (omega arith, s)) p)

pub double_stands : (x : Node) (text : List ℕ) (left : ℕ) (old new : List ℕ) → x ≡ double text → length text ≡ 8 → new ≡ old ++ text → Appends (SpellsValue left x) (size_value x) old new
double_stands x text left old new is size e = subst (λ (y : Node). Appends (SpellsValue left y) (size_value y) old new) (sym is)
    (record {
      text = text;
      joined = e;
      stands = λ more.
          let whole : take 8 (text ++ more) ≡ text = take-append-le 8 text more (omega (arith, size)) ∙ take_all 8 text (omega (arith, size)) in
          (omega arith, record { within = omega (arith, size, length-append text more); is = whole; total = size });
      short = omega (arith, size);
    })

pub short_stands : (x : Node) (z : ℤ) (left : ℕ) (old new : List ℕ) → x ≡ i16 z → FitsSigned w16 z → Appends (IsShortestSigned z) (size_i64 z) old new → Appends (SpellsValue left x) (size_value x) old new
short_stands x z left old new is fits p = subst (λ (y : Node). Appends (SpellsValue left y) (size_value y) old new) (sym is)
    (appends_as (IsShortestSigned z) (SpellsValue left (i16 z)) (size_i64 z) (size_i16 z) old new (λ bytes u s. (omega arith, (s.spelled, fits))) (λ bytes u s. short_size bytes z u fits s) p)

pub int_stands : (x : Node) (z : ℤ) (left : ℕ) (old new : List ℕ) → x ≡ i32 z → FitsSigned w32 z → Appends (IsShortestSigned z) (size_i64 z) old new → Appends (SpellsValue left x) (size_value x) old new
int_stands x z left old new is fits p = subst (λ (y : Node). Appends (SpellsValue left y) (size_value y) old new) (sym is)
    (appends_as (IsShortestSigned z) (SpellsValue left (i32 z)) (size_i64 z) (size_i32 z) old new (λ bytes u s. (omega arith, (s.spelled, fits))) (λ bytes u s. int_size bytes z u fits s) p)
