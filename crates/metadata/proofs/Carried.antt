-- What stands for a record in some bytes can be written as the record's own struct.
use Rattle.std.proofs.Common.{◌≡◌, ℕ, suc, ◌+◌, ◌*◌, ◌<◌, ◌≤◌, ℤ, pos, negsuc, ◌+ℤ◌, ◌-ℤ◌, List, [], ◌∷◌, ◌++◌, length, map, drop, refl, sym, ap, subst, ◌∙◌, arith, Option, Some, None, Bool, true, false, ◌&&◌, inl}
use Rattle.std.specs.Prelude.{option_map, if◌then◌else◌, nat_lt, nat_le, FitsSigned}
use Rattle.std.specs.Int.{w16}
use Rattle.std.specs.Ordering.{int_eq}
use Rattle.std.proofs.lemmas.Bool.{and_parts}
use Rattle.std.proofs.lemmas.Bool.Decides.{nat_tests}
use Rattle.std.proofs.Math.IntN.{+ℤ_comm, -ℤ-+ℤ_cancel}
use Rattle.std.proofs.lemmas.Option.{same_Some as some_same}
use Rattle.thrift_compact.specs.Tree.{Node, yes, no, i32, i64, binary, list, struct, Nodes, no_nodes, node, Fields, no_fields, field, nest, nodes_nest, fields_nest, count}
use Rattle.thrift_compact.specs.View.{nodes_of}
use Rattle.thrift_compact.specs.Compact.{IsByte, kind, IsElement, IsFieldHead, IsListHead, IsValue, AreElements, AreFields}
use Rattle.thrift_compact.specs.Length.{is_step}
use Rattle.metadata.specs.FieldValues.{◌>>=◌, all_with, later, last_of, known, needed, int32, int64, boolean, text, tree, record_by, each_of, list_by}
use Rattle.metadata.specs.ToTree.{Entry, written, truth, many, record_as}
use Rattle.thrift_compact.proofs.Texts.{HasText, then_text, as_text, no_text, byte_text}
use Rattle.metadata.proofs.Texts.{list_head_text, size_of_head, value_text, field_then}
use Rattle.metadata.proofs.Weights.{steps_from, steps}

-- a value that bytes have, nested at most so deep
pub record Good (left : ℕ) (x : Node) : Type 0 where
  pub shallow : nest x ≤ left
  pub text : HasText (IsValue x)

pub record GoodFields (left : ℕ) (fs : Fields) : Type 0 where
  pub shallow : fields_nest fs ≤ left
  pub text : HasText (AreFields fs (pos 0))

-- each value of the fields is good
abbrev pub AllGood : ℕ → Fields → Type 0
AllGood left no_fields = Unit {0}
AllGood left (field id x fs) = Good left x × AllGood left fs

abbrev pub EachGood : ℕ → List Node → Type 0
EachGood left [] = Unit {0}
EachGood left (x ∷ xs) = Good left x × EachGood left xs

pub all_good : (fs : Fields) (previous : ℤ) (bytes : List ℕ) (u left : ℕ) → AreFields fs previous bytes u → fields_nest fs ≤ left → AllGood left fs
all_good no_fields previous bytes u left p h = tt
all_good (field id x fs) previous bytes u left p h =
    (record { shallow = omega (arith, h); text = value_text x (drop p.0 bytes) p.1 p.4 }, all_good fs id (drop (p.0 + p.1) bytes) p.2 left p.5 (omega (arith, h)))

pub bind_some : {A B : Type 0} (o : Option A) (f : A → Option B) (y : B) → (o >>= f) ≡ Some y → (v : A) × (o ≡ Some v) × (f v ≡ Some y)
bind_some (Some x) f y e = (x, refl, e)
bind_some None f y e = absurd (cc)

some_or : {A : Type 0} → A → Option A → A
some_or x (Some y) = y
some_or x None = x

-- what is read of a value can be written where that value can
pub record Carries {X : Type 0} (read : Node → Option X) (write : X → Node) : Type 0 where
  pub some : (v : X) → 1 ≤ kind (write v)
  pub few : (v : X) → kind (write v) < 16
  pub good : (x : Node) (v : X) (left : ℕ) → read x ≡ Some v → Good left x → Good left (write v)

abbrev pub GoodValue : ℕ → Option Node → Type 0
GoodValue left None = Unit {0}
GoodValue left (Some x) = Good left x × (1 ≤ kind x) × (kind x < 16)

good_later : {X : Type 0} (write : X → Node) (left : ℕ) (v : X) (l : Option X) → GoodValue left (Some (write v)) → GoodValue left (option_map write l) → GoodValue left (option_map write (later v l))
good_later write left v None one rest = one
good_later write left v (Some y) one rest = rest

good_last : {X : Type 0} (read : Node → Option X) (write : X → Node) → Carries read write → (left : ℕ) (xs : List Node) (o : Option X) → EachGood left xs → last_of read xs ≡ Some o → GoodValue left (option_map write o)
good_last {X} read write carries left [] o each e = subst (λ (l : Option X). GoodValue left (option_map write l)) (some_same None o e) tt
good_last {X} read write carries left (x ∷ xs) o each e =
    let first = bind_some (read x) (λ v. last_of read xs >>= λ l. Some (later v l)) o e in
    let second = bind_some (last_of read xs) (λ l. Some (later first.0 l)) o first.2 in
    let one : GoodValue left (Some (write first.0)) = (carries.good x first.0 left first.1 each.0, carries.some first.0, carries.few first.0) in
    let rest = good_last read write carries left xs second.0 each.1 second.1 in
    subst (λ (l : Option X). GoodValue left (option_map write l)) (some_same (later first.0 second.0) o second.2) (good_later write left first.0 second.0 one rest)

good_if : (b : Bool) (left : ℕ) (x : Node) (xs : List Node) → Good left x → EachGood left xs → EachGood left (if b then x ∷ xs else xs)
good_if true left x xs one rest = (one, rest)
good_if false left x xs one rest = rest

good_with : (id : ℤ) (left : ℕ) (fs : Fields) → AllGood left fs → EachGood left (all_with id fs)
good_with id left no_fields all = tt
good_with id left (field z x fs) all = good_if (int_eq z id) left x (all_with id fs) all.0 (good_with id left fs all.1)

pub good_known : {X : Type 0} (read : Node → Option X) (write : X → Node) → Carries read write → (left : ℕ) (id : ℤ) (fs : Fields) (o : Option X) → AllGood left fs → known read id fs ≡ Some o → GoodValue left (option_map write o)
good_known read write carries left id fs o all e = good_last read write carries left (all_with id fs) o (good_with id left fs all) e

pub good_needed : {X : Type 0} (read : Node → Option X) (write : X → Node) → Carries read write → (left : ℕ) (id : ℤ) (fs : Fields) (v : X) → AllGood left fs → needed read id fs ≡ Some v → GoodValue left (Some (write v))
good_needed {X} read write carries left id fs v all e =
    let found = bind_some (known read id fs) (λ o. o) v e in
    subst (λ (o : Option X). GoodValue left (option_map write o)) found.2 (good_known read write carries left id fs found.0 all found.1)

-- ---- the struct of a table

abbrev pub GoodEntries : ℕ → List Entry → Type 0
GoodEntries left [] = Unit {0}
GoodEntries left (e ∷ es) = GoodValue left e.1 × GoodEntries left es

abbrev pub is_small : ℤ → Bool
is_small (pos n) = nat_le n 99
is_small (negsuc n) = false

abbrev pub are_small : List Entry → Bool
are_small [] = true
are_small (e ∷ es) = is_small e.0 && are_small es

small_below : (n : ℕ) → nat_le n 99 ≡ true → n ≤ 99
small_below n e = grind (arith, nat_tests)

fits_small : (z : ℤ) → is_small z ≡ true → FitsSigned w16 z
fits_small (pos n) e = omega (arith, small_below n e)
fits_small (negsuc n) e = absurd (cc)

step_of : (z : ℤ) → is_step z ≡ true → (step : ℕ) × (1 ≤ step) × (step ≤ 15) × (z ≡ pos step)
step_of (pos n) e = let both = and_parts (nat_lt 0 n) (nat_le n 15) e in let low = both.0 in let high = both.1 in (n, grind (arith, nat_tests), grind (arith, nat_tests), refl)
step_of (negsuc n) e = absurd (cc)

-- a short header
short_head : (previous id : ℤ) (k : ℕ) → is_step (id -ℤ previous) ≡ true → is_small id ≡ true → 1 ≤ k → k < 16 → HasText (λ b used. IsFieldHead previous b id k used)
short_head previous id k step small some few =
    let s = step_of (id -ℤ previous) step in
    let fits = fits_small id small in
    let is : id ≡ previous +ℤ pos s.0 = sym (-ℤ-+ℤ_cancel id previous) ∙ ap (λ (z : ℤ). z +ℤ previous) s.3 ∙ +ℤ_comm (pos s.0) previous in
    as_text (λ b used. IsByte b (16 * s.0 + k) used) (λ b used. IsFieldHead previous b id k used)
    (λ b used byte. (some, few, fits, inl (record { step = s.0; low = s.1; high = s.2; byte = byte; is = is })))
    (byte_text (16 * s.0 + k))

pub text_of_table : (left : ℕ) (previous : ℤ) (es : List Entry) → steps_from previous es ≡ true → steps es ≡ true → are_small es ≡ true → GoodEntries left es → (fields_nest (written es) ≤ left) × HasText (AreFields (written es) previous)
text_of_table left previous [] h g i good = (omega arith, byte_text 0)
text_of_table left previous ((id, None) ∷ es) h g i good =
    let hs = and_parts (is_step (id -ℤ previous)) (steps_from previous es) h in
    let gs = and_parts (steps_from id es) (steps es) g in
    let is = and_parts (is_small id) (are_small es) i in
    text_of_table left previous es hs.1 gs.1 is.1 good.1
text_of_table left previous ((id, Some x) ∷ es) h g i good =
    let hs = and_parts (is_step (id -ℤ previous)) (steps_from previous es) h in
    let gs = and_parts (steps_from id es) (steps es) g in
    let is = and_parts (is_small id) (are_small es) i in
    let rest = text_of_table left id es gs.0 gs.1 is.1 good.1 in
    let shallow = good.0.0.shallow in
    let deep = rest.0 in
    (omega (arith, shallow, deep), field_then previous id x (written es) (short_head previous id (kind x) hs.0 is.0 good.0.1 good.0.2) good.0.0.text rest.1)

pub good_table : (left : ℕ) (es : List Entry) → steps_from (pos 0) es ≡ true → steps es ≡ true → are_small es ≡ true → GoodEntries left es → GoodFields left (written es)
good_table left es h g i good = let both = text_of_table left (pos 0) es h g i good in record { shallow = both.0; text = both.1 }

-- ---- the types

same_carries : {X : Type 0} (read : Node → Option X) (write : X → Node) → ((v : X) → 1 ≤ kind (write v)) → ((v : X) → kind (write v) < 16) → ((x : Node) (v : X) → read x ≡ Some v → x ≡ write v) → Carries read write
same_carries read write some few same = record { some = some; few = few; good = λ x v left e good. subst (Good left) (same x v e) good }

same_int32 : (x : Node) (z : ℤ) → int32 x ≡ Some z → x ≡ i32 z
same_int32 (i32 y) z e = ap i32 (some_same y z e)
same_int32 _ z e = absurd (cc)

same_int64 : (x : Node) (z : ℤ) → int64 x ≡ Some z → x ≡ i64 z
same_int64 (i64 y) z e = ap i64 (some_same y z e)
same_int64 _ z e = absurd (cc)

same_boolean : (x : Node) (b : Bool) → boolean x ≡ Some b → x ≡ truth b
same_boolean yes b e = ap truth (some_same true b e)
same_boolean no b e = ap truth (some_same false b e)
same_boolean _ b e = absurd (cc)

same_text : (x : Node) (s : List ℕ) → text x ≡ Some s → x ≡ binary s
same_text (binary t) s e = ap binary (some_same t s e)
same_text _ s e = absurd (cc)

same_tree : (x : Node) (fs : Fields) → tree x ≡ Some fs → x ≡ struct fs
same_tree (struct gs) fs e = ap struct (some_same gs fs e)
same_tree _ fs e = absurd (cc)

truth_some : (b : Bool) → 1 ≤ kind (truth b)
truth_some true = omega arith
truth_some false = omega arith

truth_few : (b : Bool) → kind (truth b) < 16
truth_few true = omega arith
truth_few false = omega arith

pub int32_carries : Carries int32 i32
int32_carries = same_carries int32 i32 (λ _. omega arith) (λ _. omega arith) same_int32

pub int64_carries : Carries int64 i64
int64_carries = same_carries int64 i64 (λ _. omega arith) (λ _. omega arith) same_int64

pub boolean_carries : Carries boolean truth
boolean_carries = same_carries boolean truth truth_some truth_few same_boolean

pub text_carries : Carries text binary
text_carries = same_carries text binary (λ _. omega arith) (λ _. omega arith) same_text

pub tree_carries : Carries tree struct
tree_carries = same_carries tree struct (λ _. omega arith) (λ _. omega arith) same_tree

good_struct : {X : Type 0} (is : Fields → Option X) (fields : X → Fields) → ((fs : Fields) (v : X) (left : ℕ) → is fs ≡ Some v → AllGood left fs → GoodFields left (fields v)) → (x : Node) (v : X) (left : ℕ) → record_by is x ≡ Some v → Good left x → Good left (struct (fields v))
good_struct is fields good (struct fs) v left e here =
    let spelled = here.text.stands [] in
    let inner = good fs v (fields_nest fs) e (all_good fs (pos 0) (here.text.text ++ []) (length here.text.text) (fields_nest fs) spelled (omega arith)) in
    let deep = here.shallow in
    let shallow = inner.shallow in
    record { shallow = omega (arith, deep, shallow); text = inner.text }
good_struct is fields good _ v left e here = absurd (cc)

pub record_carries : {X : Type 0} (is : Fields → Option X) (fields : X → Fields) → ((fs : Fields) (v : X) (left : ℕ) → is fs ≡ Some v → AllGood left fs → GoodFields left (fields v)) → Carries (record_by is) (record_as fields)
record_carries is fields good = record { some = λ _. omega arith; few = λ _. omega arith; good = good_struct is fields good }

-- the values of a list, written again
pub record GoodElements (code left size : ℕ) (xs : Nodes) : Type 0 where
  pub same : count xs ≡ size
  pub shallow : nodes_nest xs ≤ left
  pub text : HasText (AreElements xs code)

good_elements : {X : Type 0} (read : Node → Option X) (write : X → Node) (code : ℕ) → Carries read write → ((v : X) → IsElement code (write v)) → (xs : Nodes) (k : ℕ) (bytes : List ℕ) (u left : ℕ) (vs : List X) → AreElements xs k bytes u → nodes_nest xs ≤ left → each_of read xs ≡ Some vs → GoodElements code left (count xs) (nodes_of (map write vs))
good_elements {X} read write code carries is no_nodes k bytes u left vs p h e =
    subst (λ (ws : List X). GoodElements code left 0 (nodes_of (map write ws))) (some_same [] vs e) (record { same = refl; shallow = omega arith; text = no_text (AreElements no_nodes code) (λ b. refl) })
good_elements {X} read write code carries is (node x xs) k bytes u left vs p h e =
    let first = bind_some (read x) (λ v. each_of read xs >>= λ ws. Some (v ∷ ws)) vs e in
    let second = bind_some (each_of read xs) (λ ws. Some (first.0 ∷ ws)) vs first.2 in
    let one = carries.good x first.0 left first.1 (record { shallow = omega (arith, h); text = value_text x bytes p.1.0 p.1.2 }) in
    let rest = good_elements read write code carries is xs k (drop p.1.0 bytes) p.1.1 left second.0 p.1.3 (omega (arith, h)) second.1 in
    let element = is first.0 in
    let here = one.shallow in
    let there = rest.shallow in
    let size = rest.same in
    let tail = nodes_of (map write second.0) in
    subst (λ (ws : List X). GoodElements code left (suc (count xs)) (nodes_of (map write ws))) (some_same (first.0 ∷ second.0) vs second.2)
    (record {
      same = ap suc size;
      shallow = omega (arith, here, there);
      text = then_text (IsValue (write first.0)) (AreElements tail code) (AreElements (node (write first.0) tail) code) (λ b s t now behind. (element, (s, t, now, behind, refl))) one.text rest.text;
    })

good_list : {X : Type 0} (read : Node → Option X) (write : X → Node) (code : ℕ) → code < 16 → Carries read write → ((v : X) → IsElement code (write v)) → (x : Node) (vs : List X) (left : ℕ) → list_by read x ≡ Some vs → Good left x → Good left (many code write vs)
good_list read write code low carries is (list k xs) vs left e here =
    let spelled = here.text.stands [] in
    let bytes = here.text.text ++ [] in
    let size = size_of_head bytes k (count xs) spelled.0 spelled.2 in
    let all = good_elements read write code carries is xs k (drop spelled.0 bytes) spelled.1 (nodes_nest xs) vs spelled.3 (omega arith) e in
    let ws = nodes_of (map write vs) in
    let deep = here.shallow in
    let shallow = all.shallow in
    let head : HasText (λ b used. IsListHead b code (count ws) used) = subst (λ (n : ℕ). HasText (λ b used. IsListHead b code n used)) (sym all.same) (list_head_text code (count xs) low size) in
    record {
      shallow = omega (arith, deep, shallow);
      text = then_text (λ b used. IsListHead b code (count ws) used) (AreElements ws code) (IsValue (list code ws)) (λ b s t first second. (s, t, first, second, refl)) head all.text;
    }
good_list read write code low carries is _ vs left e here = absurd (cc)

pub list_carries : {X : Type 0} (read : Node → Option X) (write : X → Node) (code : ℕ) → code < 16 → Carries read write → ((v : X) → IsElement code (write v)) → Carries (list_by read) (many code write)
list_carries read write code low carries is = record { some = λ _. omega arith; few = λ _. omega arith; good = good_list read write code low carries is }
