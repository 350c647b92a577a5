-- What stands where a value is read, and that nothing does where it is refused.
use Rattle.std.proofs.Common.{◌≡◌, ◌⊎◌, ℕ, List, [], ◌∷◌, ◌++◌, refl, sym, ap, subst, ◌∙◌, arith, inl, inr, append_assoc, Option, Some, None, Result, Ok, Err}
use Rattle.std.specs.Prelude.{ℤ, Bool, true, false, option_map, option_and_then}
use Rattle.std.specs.Ordering.{int_eq}
use Rattle.std.proofs.lemmas.Bool.Decides.{Decides-int_eq}
use Rattle.std.specs.Result.{IsErrAnd, IfOk}
use Rattle.std.proofs.lemmas.List.{append-nil}
use Rattle.lists.proofs.Options.{map_some}
use Rattle.bits.specs.declared.refusal.Refusal.{Refusal}
use Rattle.bits.specs.declared.refusal.Refusal.TheVariants.{Truncated, Thrift, Memory}
use Rattle.bits.specs.Refusals.{IsFault, HasCause, RefusedOnly}
use Rattle.bits.specs.Codec.{NothingStands, NothingStandsEver, IsFunctional}
use Rattle.bits.proofs.Passing.{passes}
use Rattle.thrift_compact.specs.Tree.{Node, yes, no, i32, i64, binary, list, struct, Nodes, no_nodes, node, Fields, no_fields, field}
use Rattle.thrift_compact.specs.Law.{ValuesStay}
use Rattle.thrift_compact.specs.Values.{IsRefusedFor, ValueOf, ReadAs, truth_of, folded, folded_each, fields_by, elements_by}
use Rattle.metadata.specs.FieldValues.{◌>>=◌, int32, int64, boolean, text, tree, any_struct, record_by, each_of, list_by}
use Rattle.metadata.specs.Answers.{IsRecordOf, StandsFor}
use Rattle.metadata.specs.inner.Slots.{slot_step, other_step, row_of, item_step}
use Rattle.metadata.proofs.Places.{step_here, step_other}

-- ---- refusals

because : {Y Z : Type 0} (Part : List ℕ → Y → ℕ → Type 0) (Whole : List ℕ → Z → ℕ → Type 0) (bytes : List ℕ) (e : Refusal) → HasCause (IsRefusedFor Part bytes) e → ((b : List ℕ) → NothingStands (Part b) → NothingStands (Whole b)) → HasCause (IsRefusedFor Whole bytes) e
because Part Whole bytes Memory p nothing = p
because Part Whole bytes Truncated p nothing = nothing bytes p
because Part Whole bytes Thrift p nothing = λ more. nothing (bytes ++ more) (p more)
because Part Whole bytes e p nothing = absurd p

-- what a `?` passes on, where nothing stands as the whole when nothing does as the part
pub refused : {X Y Z : Type 0} (Part : List ℕ → Y → ℕ → Type 0) (Whole : List ℕ → Z → ℕ → Type 0) (bytes : List ℕ) (r : Result X Refusal) (e : Refusal) → IsErrAnd r (λ f. f ≡ e) → HasCause (IsRefusedFor Part bytes) e → ((b : List ℕ) → NothingStands (Part b) → NothingStands (Whole b))
    → RefusedOnly (IsRefusedFor Whole bytes) r
refused Part Whole bytes r e is p nothing = passes (HasCause (IsRefusedFor Whole bytes)) r e is (because Part Whole bytes e p nothing)

record_because : {X Y Z : Type 0} (view : X → Y) (is : Option Y) (Whole : List ℕ → Z → ℕ → Type 0) (bytes : List ℕ) (e : Refusal) → IsRecordOf view is (Err e) → (is ≡ None → NothingStandsEver Whole bytes) → HasCause (IsRefusedFor Whole bytes) e
record_because view is Whole bytes Memory p nothing = p
record_because view is Whole bytes Thrift p nothing = nothing p
record_because view is Whole bytes e p nothing = absurd p

-- what a `?` passes on of a record that is none
pub record_refused : {X Y Z V : Type 0} (view : X → Y) (is : Option Y) (Whole : List ℕ → Z → ℕ → Type 0) (bytes : List ℕ) (r : Result V Refusal) (e : Refusal) → IsErrAnd r (λ f. f ≡ e) → IsRecordOf view is (Err e) → (is ≡ None → NothingStandsEver Whole bytes)
    → RefusedOnly (IsRefusedFor Whole bytes) r
record_refused view is Whole bytes r e same p nothing = passes (HasCause (IsRefusedFor Whole bytes)) r e same (record_because view is Whole bytes e p nothing)

-- ---- options

-- ---- values without others in them

pub form_read : {Y : Type 0} (read : Node → Option Y) (form : Y → Node) (code left : ℕ) (bytes : List ℕ) (y : Y) (used : ℕ) → ((z : Y) → read (form z) ≡ Some z) → ValueOf code left bytes (form y) used → ReadAs read code left bytes y used
form_read read form code left bytes y used same v = (form y, v, same y)

pub form_refused : {Y : Type 0} (read : Node → Option Y) (form : Y → Node) (code left : ℕ) → ((x : Node) (y : Y) → read x ≡ Some y → x ≡ form y) → (b : List ℕ) → NothingStands (λ y. ValueOf code left b (form y)) → NothingStands (ReadAs read code left b)
form_refused read form code left is b nothing y used (x, v, e) = nothing y used (subst (λ z. ValueOf code left b z used) (is x y e) v)

-- the same for a call whose result is returned
pub form_returned : {Y : Type 0} (read : Node → Option Y) (form : Y → Node) (code left : ℕ) (bytes : List ℕ) (r : Result (Y × ℕ) Refusal) → ((z : Y) → read (form z) ≡ Some z)
    → IfOk r (λ x. ValueOf code left bytes (form x.0) x.1) → IfOk r (λ x. ReadAs read code left bytes x.0 x.1)
form_returned read form code left bytes (Ok x) same v = form_read read form code left bytes x.0 x.1 same v
form_returned read form code left bytes (Err e) same v = tt

pub form_refusal : {Y : Type 0} (read : Node → Option Y) (form : Y → Node) (code left : ℕ) (bytes : List ℕ) (r : Result (Y × ℕ) Refusal) → ((x : Node) (y : Y) → read x ≡ Some y → x ≡ form y)
    → RefusedOnly (IsRefusedFor (λ b y. ValueOf code left b (form y)) bytes) r → RefusedOnly (IsRefusedFor (ReadAs read code left) bytes) r
form_refusal read form code left bytes (Ok x) is p = tt
form_refusal read form code left bytes (Err e) is p = because (λ b y. ValueOf code left b (form y)) (ReadAs read code left) bytes e p (form_refused read form code left is)

pub int32_is : (x : Node) (z : ℤ) → int32 x ≡ Some z → x ≡ i32 z
int32_is (i32 y) z e = cc
int32_is x z e = absurd (cc)

pub int64_is : (x : Node) (z : ℤ) → int64 x ≡ Some z → x ≡ i64 z
int64_is (i64 y) z e = cc
int64_is x z e = absurd (cc)

pub text_is : (x : Node) (s : List ℕ) → text x ≡ Some s → x ≡ binary s
text_is (binary t) s e = cc
text_is x s e = absurd (cc)

pub tree_is : (x : Node) (fs : Fields) → tree x ≡ Some fs → x ≡ struct fs
tree_is (struct gs) fs e = cc
tree_is x fs e = absurd (cc)

pub truth_read : (b : Bool) → boolean (truth_of b) ≡ Some b
truth_read true = refl
truth_read false = refl

pub boolean_is : (x : Node) (b : Bool) → boolean x ≡ Some b → x ≡ truth_of b
boolean_is yes true e = refl
boolean_is yes false e = absurd (cc)
boolean_is no true e = absurd (cc)
boolean_is no false e = refl
boolean_is x b e = absurd (cc)

any_fields : (fs : Fields) → folded other_step tt fs ≡ Some tt
any_fields no_fields = refl
any_fields (field id x fs) = any_fields fs

pub any_struct_is : (x : Node) → fields_by other_step tt x ≡ any_struct x
any_struct_is (struct fs) = any_fields fs
any_struct_is x = refl

-- ---- readings that say the same

pub same_read : {Y : Type 0} (f g : Node → Option Y) (code left : ℕ) (bytes : List ℕ) (y : Y) (used : ℕ) → ((x : Node) → f x ≡ g x) → ReadAs f code left bytes y used → ReadAs g code left bytes y used
same_read f g code left bytes y used same (x, v, e) = (x, v, sym (same x) ∙ e)

pub same_refused : {Y : Type 0} (f g : Node → Option Y) (code left : ℕ) → ((x : Node) → f x ≡ g x) → (b : List ℕ) → NothingStands (ReadAs f code left b) → NothingStands (ReadAs g code left b)
same_refused f g code left same b nothing y used (x, v, e) = nothing y used (x, v, same x ∙ e)

-- a reading of what is read
made_of : {R Y : Type 0} (f : Fields → Option R) (g : Fields → Option Y) (make : R → Y) → ((fs : Fields) → g fs ≡ option_map make (f fs)) → (x : Node) (r : R) → record_by f x ≡ Some r → record_by g x ≡ Some (make r)
made_of f g make same (struct fs) r e = same fs ∙ ap (option_map make) e
made_of f g make same x r e = absurd (cc)

pub made_read : {R Y : Type 0} (f : Fields → Option R) (g : Fields → Option Y) (make : R → Y) (code left : ℕ) (bytes : List ℕ) (r : R) (used : ℕ) → ((fs : Fields) → g fs ≡ option_map make (f fs)) → ReadAs (record_by f) code left bytes r used → ReadAs (record_by g) code left bytes (make r) used
made_read f g make code left bytes r used same (x, v, e) = (x, v, made_of f g make same x r e)

found_in : {R Y : Type 0} (f : Fields → Option R) (g : Fields → Option Y) (make : R → Y) → ((fs : Fields) → g fs ≡ option_map make (f fs)) → (x : Node) (y : Y) → record_by g x ≡ Some y → (r : R) × (record_by f x ≡ Some r)
found_in f g make same (struct fs) y e = let m = map_some make (f fs) y (sym (same fs) ∙ e) in (m.0, m.1)
found_in f g make same x y e = absurd (cc)

pub made_refused : {R Y : Type 0} (f : Fields → Option R) (g : Fields → Option Y) (make : R → Y) (code left : ℕ) → ((fs : Fields) → g fs ≡ option_map make (f fs)) → (b : List ℕ) → NothingStands (ReadAs (record_by f) code left b) → NothingStands (ReadAs (record_by g) code left b)
made_refused f g make code left same b nothing y used (x, v, e) = let r = found_in f g make same x y e in nothing r.0 used (x, v, r.1)

-- ---- lists

item_of : {X : Type 0} (read : Node → Option X) (done : List X) (v : X) (rest : Option (List X)) → option_map (λ ys. (done ++ v ∷ []) ++ ys) rest ≡ option_map (λ ys. done ++ ys) (rest >>= λ vs. Some (v ∷ vs))
item_of read done v None = refl
item_of read done v (Some vs) = ap Some (append_assoc done (v ∷ []) vs)

items_from : {X : Type 0} (read : Node → Option X) (done : List X) (xs : Nodes) → folded_each (item_step read) done xs ≡ option_map (λ ys. done ++ ys) (each_of read xs)
items_from read done no_nodes = ap Some (sym (append-nil done))
items_from {X} read done (node x xs) = go (λ more. items_from read more xs) (read x)
  where
    go : ((more : List X) → folded_each (item_step read) more xs ≡ option_map (λ ys. more ++ ys) (each_of read xs)) → (o : Option X)
        → option_and_then (λ n. folded_each (item_step read) n xs) (option_map (λ v. done ++ v ∷ []) o) ≡ option_map (λ ys. done ++ ys) (o >>= λ v. each_of read xs >>= λ vs. Some (v ∷ vs))
    go rest None = refl
    go rest (Some v) = rest (done ++ v ∷ []) ∙ item_of read done v (each_of read xs)

map_same : {X : Type 0} (o : Option (List X)) → option_map (λ ys. [] ++ ys) o ≡ o
map_same None = refl
map_same (Some ys) = refl

pub items_are : {X : Type 0} (read : Node → Option X) (x : Node) → elements_by (item_step read) [] x ≡ list_by read x
items_are read (list k xs) = items_from read [] xs ∙ map_same (each_of read xs)
items_are read x = refl

pub item_refused : {X : Type 0} (read : Node → Option X) (done : List X) (code left : ℕ) (b : List ℕ) → NothingStands (ReadAs read code left b) → NothingStands (ReadAs (item_step read done) code left b)
item_refused read done code left b nothing y used (x, s, e) = let m = map_some (λ w. done ++ w ∷ []) (read x) y e in nothing m.0 used (x, s, m.1)

-- ---- places

pub differ : (x y : ℤ) → (x ≡ y → ⊥) → int_eq x y ≡ false
differ x y apart = go (int_eq x y) refl
  where
    go : (b : Bool) → int_eq x y ≡ b → int_eq x y ≡ false
    go true e = absurd (apart ((Decides-int_eq x y).0 e))
    go false e = e

pub here_refused : {X S : Type 0} (read : Node → Option X) (others : S → ℤ → Node → Option S) (s : (ℤ × Option X) × S) (id : ℤ) (code left : ℕ) → int_eq id s.0.0 ≡ true → (b : List ℕ) → NothingStands (ReadAs read code left b) → NothingStands (ReadAs (slot_step read others s id) code left b)
here_refused read others s id code left e b nothing n used (x, w, f) =
    let m = map_some (λ z. ((s.0.0, Some z), s.1)) (read x) n (sym (step_here read others s id x e) ∙ f) in nothing m.0 used (x, w, m.1)

pub other_refused : {X S : Type 0} (read : Node → Option X) (others : S → ℤ → Node → Option S) (s : (ℤ × Option X) × S) (id : ℤ) (code left : ℕ) → int_eq id s.0.0 ≡ false → (b : List ℕ) → NothingStands (ReadAs (others s.1 id) code left b) → NothingStands (ReadAs (slot_step read others s id) code left b)
other_refused read others s id code left e b nothing n used (x, w, f) =
    let m = map_some (λ z. (s.0, z)) (others s.1 id x) n (sym (step_other read others s id x e) ∙ f) in nothing m.0 used (x, w, m.1)

-- ---- what is read, but not kept

-- whatever follows, no other value stands there; so nothing is read where that is none
pub none_ever : {A B : Type 0} (f : Node → Option A) (g : Node → Option B) (code left : ℕ) (bytes : List ℕ) (a : A) (taken : ℕ) → ((code left : ℕ) → IsFunctional (ValueOf code left)) → ValuesStay → ((x : Node) → f x ≡ Some a → g x ≡ None)
    → ReadAs f code left bytes a taken → NothingStandsEver (ReadAs g code left) bytes
none_ever f g code left bytes a taken one stay none (x0, v0, e0) more y used (x, v, e) =
    let same : x ≡ x0 = (one code left (bytes ++ more) x x0 used taken v (stay code left bytes more x0 taken v0)).0 in
    let here = subst (λ z. g z ≡ Some y) same e in
    let gone = none x0 e0 in
    absurd (cc)

row_read : {S R : Type 0} (step : S → ℤ → Node → Option S) (row : S → Option R) (start held : S) (x : Node) → fields_by step start x ≡ Some held → record_by (row_of step row start) x ≡ row held
row_read step row start held (struct fs) e = ap (option_and_then row) e
row_read step row start held x e = absurd (cc)

pub row_stands : {S R : Type 0} (step : S → ℤ → Node → Option S) (row : S → Option R) (start held : S) (r : R) (code left : ℕ) (bytes : List ℕ) (used : ℕ) → ReadAs (fields_by step start) code left bytes held used → row held ≡ Some r
    → ReadAs (record_by (row_of step row start)) code left bytes r used
row_stands step row start held r code left bytes used (x, v, e) is = (x, v, row_read step row start held x e ∙ is)

pub row_absent : {S R : Type 0} (step : S → ℤ → Node → Option S) (row : S → Option R) (start held : S) → row held ≡ None → (x : Node) → fields_by step start x ≡ Some held → record_by (row_of step row start) x ≡ None
row_absent step row start held none x e = row_read step row start held x e ∙ none

held_in : {S R : Type 0} (step : S → ℤ → Node → Option S) (row : S → Option R) (start : S) (x : Node) (r : R) → record_by (row_of step row start) x ≡ Some r → (held : S) × (fields_by step start x ≡ Some held)
held_in {S} {R} step row start (struct fs) r e = go (folded step start fs) e
  where
    go : (o : Option S) → option_and_then row o ≡ Some r → (held : S) × (o ≡ Some held)
    go None e = absurd (cc)
    go (Some held) e = (held, refl)
held_in step row start x r e = absurd (cc)

pub row_refused : {S R : Type 0} (step : S → ℤ → Node → Option S) (row : S → Option R) (start : S) (code left : ℕ) (b : List ℕ) → NothingStands (ReadAs (fields_by step start) code left b) → NothingStands (ReadAs (record_by (row_of step row start)) code left b)
row_refused step row start code left b nothing r used (x, v, e) = let h = held_in step row start x r e in nothing h.0 used (x, v, h.1)

-- ---- a struct at the start of bytes

pub stands_for : {Y : Type 0} (is : Fields → Option Y) (code left : ℕ) (bytes : List ℕ) (y : Y) (used : ℕ) → left ≡ 33 → ReadAs (record_by is) code left bytes y used → StandsFor is bytes y used
stands_for is code left bytes y used l (struct fs, v, e) = record { fields = fs; spelled = record { spelled = v.2; shallow = omega (arith, v.1, l) }; record_of = e }
stands_for is code left bytes y used l (x, v, e) = absurd (cc)

read_where_stands : {Y : Type 0} (is : Fields → Option Y) (code left : ℕ) (bytes : List ℕ) (y : Y) (used : ℕ) → code ≡ 12 → left ≡ 33 → StandsFor is bytes y used → ReadAs (record_by is) code left bytes y used
read_where_stands is code left bytes y used c l s = (struct s.fields, (sym c, omega (arith, l, s.spelled.shallow), s.spelled.spelled), s.record_of)

pub nothing_for : {Y : Type 0} (is : Fields → Option Y) (code left : ℕ) (bytes : List ℕ) → code ≡ 12 → left ≡ 33 → NothingStands (ReadAs (record_by is) code left bytes) → NothingStands (StandsFor is bytes)
nothing_for is code left bytes c l nothing y used s = nothing y used (read_where_stands is code left bytes y used c l s)

pub only_for : {Y : Type 0} (is : Fields → Option Y) (code left : ℕ) (bytes : List ℕ) (e : Refusal) → code ≡ 12 → left ≡ 33 → HasCause (IsRefusedFor (ReadAs (record_by is) code left) bytes) e → IsFault e → NothingStands (StandsFor is bytes)
only_for is code left bytes Truncated c l p fault = nothing_for is code left bytes c l p
only_for is code left bytes Thrift c l p fault = nothing_for is code left bytes c l (subst (λ b. NothingStands (ReadAs (record_by is) code left b)) (append-nil bytes) (p []))
only_for is code left bytes Memory c l p fault = absurd fault
only_for is code left bytes e c l p fault = absurd p

pub which_for : {Y : Type 0} (Stands : List ℕ → Y → ℕ → Type 0) (bytes : List ℕ) (e : Refusal) → HasCause (IsRefusedFor Stands bytes) e → HasCause (λ e. (e ≡ Truncated) ⊎ (e ≡ Thrift)) e
which_for Stands bytes Truncated p = inl refl
which_for Stands bytes Thrift p = inr refl
which_for Stands bytes Memory p = p
which_for Stands bytes e p = absurd p

pub ever_for : {Y : Type 0} (is : Fields → Option Y) (code left : ℕ) (bytes : List ℕ) (e : Refusal) → code ≡ 12 → left ≡ 33 → HasCause (IsRefusedFor (ReadAs (record_by is) code left) bytes) e → e ≡ Thrift → NothingStandsEver (StandsFor is) bytes
ever_for is code left bytes Thrift c l p same = λ more. nothing_for is code left (bytes ++ more) c l (p more)
ever_for is code left bytes e c l p same = absurd (cc)

-- a refusal that is passed on is the same one
pub same_refusal : {X : Type 0} (r : Result X Refusal) (e : Refusal) → IsErrAnd r (λ f. f ≡ e) → r ≡ Err Thrift → e ≡ Thrift
same_refusal (Ok x) e is thrift = absurd is
same_refusal (Err f) e is thrift = cc
