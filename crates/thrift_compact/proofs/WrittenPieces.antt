-- Structs that are written piece by piece.
use Rattle.std.proofs.Common.{◌≡◌, ℕ, suc, ◌+◌, ◌<◌, ◌≤◌, List, [], ◌∷◌, ◌++◌, length, get_or, map, take, drop, refl, sym, ap, subst, ◌∙◌, arith, append_assoc}
use Rattle.std.specs.Prelude.{ℤ, pos}
use Rattle.std.proofs.lemmas.List.{append-nil, take_more, take_all}
use Rattle.bits.specs.Codec.{Appends}
use Rattle.thrift_compact.specs.declared.tree.Field.{Field}
use Rattle.thrift_compact.specs.Tree.{Node, list, struct, Nodes, no_nodes, node, Fields, no_fields, field, fields_nest, count}
use Rattle.thrift_compact.specs.Compact.{IsByte, IsFieldHead, IsListHead, AreFields, IsThrift}
use Rattle.thrift_compact.specs.View.{field_view, field_views, nodes_of, fields_of}
use Rattle.thrift_compact.specs.Length.{size_field_head, size_list_head, size_value, size_elements, size_struct, size_fields, AppendsStruct}
use Rattle.thrift_compact.specs.Piecewise.{AreBegun, size_begun, last_id, last_of, BeginsStruct, BeginsList, StructsBeginEmpty, ListsEnd, ListsGrow, RestsFollow}
use Rattle.thrift_compact.specs.inner.Writing.{AppendsField, SpellsValue, SpellsElement, SpellsElements, SpellsField, SpellsFields}
use Rattle.thrift_compact.proofs.Elements.{append}
use Rattle.thrift_compact.proofs.FieldsRead.{append_fields}
use Rattle.thrift_compact.proofs.Appending.{appends_then, appends_so}
use Rattle.thrift_compact.proofs.Writes.{push, size_push, push_field, size_more, finish, size_end, field_all, thrift_stands}

-- ---- fields

fields_push : (fs : List (ℤ × Node)) (id : ℤ) (x : Node) → fields_of (fs ++ (id, x) ∷ []) ≡ append_fields (fields_of fs) (field id x no_fields)
fields_push [] id x = refl
fields_push (f ∷ fs) id x = ap (field f.0 f.1) (fields_push fs id x)

last_push : (fs : Fields) (id : ℤ) (x : Node) (previous : ℤ) → last_id (append_fields fs (field id x no_fields)) previous ≡ id
last_push no_fields id x previous = refl
last_push (field jd y fs) id x previous = last_push fs id x jd

pub last_more : (fs : List (ℤ × Node)) (id : ℤ) (x : Node) → last_of (fs ++ (id, x) ∷ []) ≡ id
last_more fs id x = ap (λ (gs : Fields). last_id gs (pos 0)) (fields_push fs id x) ∙ last_push (fields_of fs) id x (pos 0)

-- the last id of more fields
pub last_on : (fs gs : List (ℤ × Node)) (previous : ℤ) → last_id (fields_of (fs ++ gs)) previous ≡ last_id (fields_of gs) (last_id (fields_of fs) previous)
last_on [] gs previous = refl
last_on (f ∷ fs) gs previous = last_on fs gs f.0

pub begins_empty : StructsBeginEmpty
begins_empty old = record { text = []; joined = sym (append-nil old); stands = λ more. (refl, refl); short = omega arith }

-- one more field
pub begins_more : (fs : List (ℤ × Node)) (id : ℤ) (x : Node) (old mid new : List ℕ) → BeginsStruct fs old mid
    → Appends (SpellsField (last_of fs) 32 id x) (size_field_head (last_of fs) id + size_value x) mid new → BeginsStruct (fs ++ (id, x) ∷ []) old new
begins_more fs id x old mid new p q =
    let front = fields_of fs in
    let last = last_of fs in
    let a = appends_then (AreBegun 32 front (pos 0) last) (SpellsField last 32 id x) (AreBegun 32 (append_fields front (field id x no_fields)) (pos 0) id) (size_begun front (pos 0)) (size_field_head last id + size_value x) old mid new
    (λ bytes u v. push_field front id x 32 (pos 0) last bytes u v) p q in
    let m = size_more front 32 (pos 0) last (p.text ++ []) (length p.text) (p.stands []) id x in
    let b = subst (λ (n : ℕ). Appends (AreBegun 32 (append_fields front (field id x no_fields)) (pos 0) id) n old new) (sym m) a in
    let c = subst (λ (gs : Fields). Appends (AreBegun 32 gs (pos 0) id) (size_begun gs (pos 0)) old new) (sym (fields_push fs id x)) b in
    let all = fields_of (fs ++ (id, x) ∷ []) in
    subst (λ (z : ℤ). Appends (AreBegun 32 all (pos 0) z) (size_begun all (pos 0)) old new) (sym (last_more fs id x)) c

fields_next : (fields : List Field) (i : ℕ) (f : Field) → i < length fields → f ≡ get_or fields i f → map field_view (take (i + 1) fields) ≡ map field_view (take i fields) ++ field_view f ∷ []
fields_next fields i f lt is =
    ap (λ (fs : List Field). map field_view fs) (take_more fields i f lt) ∙ push_view (take i fields) (get_or fields i f) ∙ ap (λ (g : Field). map field_view (take i fields) ++ field_view g ∷ []) (sym is)
  where
    push_view : (fs : List Field) (g : Field) → map field_view (fs ++ g ∷ []) ≡ map field_view fs ++ field_view g ∷ []
    push_view [] g = refl
    push_view (h ∷ fs) g = ap (λ (gs : List (ℤ × Node)). field_view h ∷ gs) (push_view fs g)

-- the next one of a list of fields
pub written_next : (fields : List Field) (i : ℕ) (f : Field) (previous last : ℤ) (out mid new : List ℕ) → i < length fields → f ≡ get_or fields i f → last ≡ last_id (field_views (take i fields)) previous
    → AppendsField last 32 (field_view f).0 (field_view f).1 mid new
    → ((fs : List (ℤ × Node)) (old : List ℕ) → previous ≡ last_of fs → BeginsStruct fs old out → BeginsStruct (fs ++ map field_view (take i fields)) old mid)
    → (fs : List (ℤ × Node)) (old : List ℕ) → previous ≡ last_of fs → BeginsStruct fs old out → BeginsStruct (fs ++ map field_view (take (i + 1) fields)) old new
written_next fields i f previous last out mid new lt is at one so_far fs old same begun =
    let done = map field_view (take i fields) in
    let id = (field_view f).0 in
    let x = (field_view f).1 in
    let here : last ≡ last_of (fs ++ done) = at ∙ ap (λ (z : ℤ). last_id (fields_of done) z) same ∙ sym (last_on fs done (pos 0)) in
    let more = begins_more (fs ++ done) id x old mid new (so_far fs old same begun) (subst (λ (z : ℤ). Appends (SpellsField z 32 id x) (size_field_head z id + size_value x) mid new) here one) in
    subst (λ (gs : List (ℤ × Node)). BeginsStruct gs old new) (append_assoc fs done (field_view f ∷ []) ∙ ap (λ (gs : List (ℤ × Node)). fs ++ gs) (sym (fields_next fields i f lt is))) more

-- and its id is the last one
pub last_next : (fields : List Field) (i : ℕ) (f : Field) (previous : ℤ) → i < length fields → f ≡ get_or fields i f → (field_view f).0 ≡ last_id (field_views (take (i + 1) fields)) previous
last_next fields i f previous lt is =
    sym (ap (λ (gs : List (ℤ × Node)). last_id (fields_of gs) previous) (fields_next fields i f lt is) ∙ last_on (map field_view (take i fields)) (field_view f ∷ []) previous)

-- all of the list
pub written_all : (fields : List Field) (i : ℕ) (previous : ℤ) (out new : List ℕ) → length fields ≤ i
    → ((fs : List (ℤ × Node)) (old : List ℕ) → previous ≡ last_of fs → BeginsStruct fs old out → BeginsStruct (fs ++ map field_view (take i fields)) old new)
    → (fs : List (ℤ × Node)) (old : List ℕ) → previous ≡ last_of fs → BeginsStruct fs old out → BeginsStruct (fs ++ map field_view fields) old new
written_all fields i previous out new le so_far fs old same begun = subst (λ (gs : List Field). BeginsStruct (fs ++ map field_view gs) old new) (take_all i fields le) (so_far fs old same begun)

-- the byte that ends a struct
pub struct_ended : (fs : List (ℤ × Node)) (old mid new : List ℕ) → Appends (λ bytes. IsByte bytes 0) 1 mid new → BeginsStruct fs old mid → AppendsStruct (fields_of fs) old new
struct_ended fs old mid new q p =
    let all = fields_of fs in
    let a = appends_then (AreBegun 32 all (pos 0) (last_of fs)) (λ bytes. IsByte bytes 0) (SpellsFields 32 all) (size_begun all (pos 0)) 1 old mid new
    (λ bytes u v. finish all 32 (pos 0) (last_of fs) bytes u v) p q in
    thrift_stands all old new (subst (λ (n : ℕ). Appends (SpellsFields 32 all) n old new) (sym (size_end all (pos 0))) a)

-- ---- lists

nodes_push : (xs : List Node) (x : Node) → nodes_of (xs ++ x ∷ []) ≡ append (nodes_of xs) (node x no_nodes)
nodes_push [] x = refl
nodes_push (y ∷ xs) x = ap (node y) (nodes_push xs x)

count_nodes : (xs : List Node) → count (nodes_of xs) ≡ length xs
count_nodes [] = refl
count_nodes (x ∷ xs) = ap suc (count_nodes xs)

pub list_begun : (fs : List (ℤ × Node)) (id : ℤ) (code n : ℕ) (old a b c : List ℕ) → BeginsStruct fs old a → Appends (λ bytes. IsFieldHead (last_of fs) bytes id 9) (size_field_head (last_of fs) id) a b
    → Appends (λ bytes. IsListHead bytes code n) (size_list_head n) b c → BeginsList fs id code n [] old c
list_begun fs id code n old a b c p q r = record {
  before = a;
  named = b;
  sized = c;
  begun = p;
  head = q;
  size = r;
  elements = record { text = []; joined = sym (append-nil c); stands = λ more. (omega arith, refl); short = omega arith };
}

-- one more struct
pub list_more : (gs : Fields) (mid new : List ℕ) → Appends (SpellsFields 30 gs) (size_struct gs) mid new → (fs : List (ℤ × Node)) (id : ℤ) (n : ℕ) (xs : List Node) (old : List ℕ)
    → BeginsList fs id 12 n xs old mid → BeginsList fs id 12 n (xs ++ struct gs ∷ []) old new
list_more gs mid new q fs id n xs old p =
    let done = nodes_of xs in
    let one = appends_so (SpellsFields 30 gs) (SpellsElement 12 31 (struct gs)) (size_struct gs) mid new (λ bytes used s. (refl, omega (arith, s.0), s.1)) q in
    let a = appends_then (SpellsElements 12 31 done) (SpellsElement 12 31 (struct gs)) (SpellsElements 12 31 (append done (node (struct gs) no_nodes))) (size_elements done) (size_value (struct gs)) p.sized mid new
    (λ bytes u v. push done (struct gs) 12 31 bytes u v) p.elements one in
    let b = subst (λ (m : ℕ). Appends (SpellsElements 12 31 (append done (node (struct gs) no_nodes))) m p.sized new) (sym (size_push done (struct gs))) a in
    record {
      before = p.before;
      named = p.named;
      sized = p.sized;
      begun = p.begun;
      head = p.head;
      size = p.size;
      elements = subst (λ (ys : Nodes). Appends (SpellsElements 12 31 ys) (size_elements ys) p.sized new) (sym (nodes_push xs (struct gs))) b;
    }

pub list_ended : ListsEnd
list_ended fs id code xs old new p =
    let all = nodes_of xs in
    let size = subst (λ (n : ℕ). Appends (λ bytes. IsListHead bytes code n) (size_list_head n) p.named p.sized) (sym (count_nodes xs)) p.size in
    let value = appends_then (λ bytes. IsListHead bytes code (count all)) (SpellsElements code 31 all) (SpellsValue 32 (list code all)) (size_list_head (count all)) (size_elements all) p.named p.sized new
    (λ bytes u v a b. (omega (arith, b.0), (u, v, a, b.1, refl))) size p.elements in
    begins_more fs id (list code all) old p.before new p.begun (field_all (last_of fs) id (list code all) 9 32 p.before p.named new refl p.head value)

-- one more struct, by its bytes
pub list_grows : ListsGrow
list_grows fs id n xs x old mid new p shallow q =
    list_more x mid new (appends_so (λ bytes used. IsThrift bytes x used) (SpellsFields 30 x) (size_struct x) mid new (λ bytes used s. (shallow, s.spelled)) q) fs id n xs old p

-- a first field, and the rest of a struct
pub rests_follow : RestsFollow
rests_follow id x rest old mid new p q =
    let one = field id x no_fields in
    let Rest = λ (bytes : List ℕ) (used : ℕ). (fields_nest rest ≤ 32) × AreFields rest id bytes used in
    let a = appends_then (AreBegun 32 one (pos 0) id) Rest (SpellsFields 32 (field id x rest)) (size_begun one (pos 0)) (size_fields rest id) old mid new (λ bytes u v. joined bytes u v) p q in
    let m : size_fields (field id x rest) (pos 0) ≡ size_begun one (pos 0) + size_fields rest id = omega arith in
    thrift_stands (field id x rest) old new (subst (λ (n : ℕ). Appends (SpellsFields 32 (field id x rest)) n old new) (sym m) a)
  where
    joined : (bytes : List ℕ) (u v : ℕ) → AreBegun 32 (field id x no_fields) (pos 0) id bytes u → (fields_nest rest ≤ 32) × AreFields rest id (drop u bytes) v → SpellsFields 32 (field id x rest) bytes (u + v)
    joined bytes u v b r =
        let e : u ≡ b.0 + b.1 = omega (arith, b.6, b.5.0) in
        (omega (arith, b.4.0, r.0), (b.0, b.1, v, b.3, b.4.1, subst (λ (n : ℕ). AreFields rest id (drop n bytes) v) e r.1, omega (arith, e)))
