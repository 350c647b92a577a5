-- What is found in a member is what it says.
use Rattle.std.proofs.Common.{◌≡◌, ℕ, ℤ, pos, Bool, true, false, true≢false, List, Option, Some, None, is_some, option_map, option_and_then, if◌then◌else◌, refl, sym, ap, subst, ◌∙◌}
use Rattle.std.specs.Prelude.{◌↔◌, IsSome}
use Rattle.std.specs.Ordering.{int_eq}
use Rattle.std.proofs.lemmas.Bool.Decides.{Decides-int_eq}
use Rattle.std.proofs.lemmas.Option.{same_Some as same_value}
use Rattle.lists.proofs.Options.{and_then_some as and_then_gave, map_some as map_gave, some_if as if_gave}
use Rattle.serde_json.specs.Data.{Data, Num, null, boolean, number, string, array, object, Items, Members}
use Rattle.serde_json.specs.Find.{as_i64, as_str, as_number, as_array, get, get_member}
use Rattle.schema.specs.Fits.{is_within}
use Rattle.jsonrows.specs.SchemaJson.{Word, number_of, IsText, IsWord, IsInt32, Has, Lacks, MayHave}
use Rattle.jsonrows.specs.inner.SchemaReading.{word_of, int32_of, optional, length_of, absent}

-- ---- steps that gave a value

pub none_is : {A : Type 0} {B : Type 0} (x : A) → None ≡ Some x → B
none_is x e = absurd (true≢false (sym (ap is_some e)))

-- ---- kinds of values

pub is_string : (d : Data) (s : List ℕ) → as_str d ≡ Some s → d ≡ string s
is_string null s e = none_is s e
is_string (boolean b) s e = none_is s e
is_string (number n) s e = none_is s e
is_string (string t) s e = ap string (same_value t s e)
is_string (array ds) s e = none_is s e
is_string (object ms) s e = none_is s e

is_number : (d : Data) (n : Num) → as_number d ≡ Some n → d ≡ number n
is_number null n e = none_is n e
is_number (boolean b) n e = none_is n e
is_number (number m) n e = ap number (same_value m n e)
is_number (string t) n e = none_is n e
is_number (array ds) n e = none_is n e
is_number (object ms) n e = none_is n e

pub is_array : (d : Data) (ds : Items) → as_array d ≡ Some ds → d ≡ array ds
is_array null ds e = none_is ds e
is_array (boolean b) ds e = none_is ds e
is_array (number m) ds e = none_is ds e
is_array (string t) ds e = none_is ds e
is_array (array es) ds e = ap array (same_value es ds e)
is_array (object ms) ds e = none_is ds e

pub is_object : (k : List ℕ) (d x : Data) → get k d ≡ Some x → (ms : Members) × (d ≡ object ms)
is_object k null x e = none_is x e
is_object k (boolean b) x e = none_is x e
is_object k (number m) x e = none_is x e
is_object k (string t) x e = none_is x e
is_object k (array es) x e = none_is x e
is_object k (object ms) x e = (ms, refl)

-- ---- words, numbers

pub text_found : (d : Data) (s : List ℕ) → as_str d ≡ Some s → IsText d s
text_found d s e = is_string d s e

pub text_there : (d : Data) (s : List ℕ) → IsText d s → as_str d ≡ Some s
text_there d s h = ap as_str h

pub word_found : (ws : List Word) (d : Data) (z : ℤ) → word_of ws d ≡ Some z → IsWord ws d z
word_found ws d z e = let p = and_then_gave (number_of ws) (as_str d) z e in (p.0, is_string d p.0 p.1, p.2)

pub word_there : (ws : List Word) (d : Data) (z : ℤ) → IsWord ws d z → word_of ws d ≡ Some z
word_there ws d z h = ap (word_of ws) h.1 ∙ h.2

pub int_found : (d : Data) (z : ℤ) → int32_of d ≡ Some z → IsInt32 d z
int_found d z e =
    let p = and_then_gave (λ (x : ℤ). if is_within 2147483648 x then Some x else None) (option_and_then as_i64 (as_number d)) z e in
    let q = and_then_gave as_i64 (as_number d) p.0 p.1 in
    let w = if_gave (is_within 2147483648 p.0) (Some p.0) z p.2 in
    let same : p.0 ≡ z = same_value p.0 z w.1 in
    (q.0, is_number d q.0 q.1, q.2 ∙ ap Some same, subst (λ x. is_within 2147483648 x ≡ true) same w.0)

pub int_there : (d : Data) (z : ℤ) → IsInt32 d z → int32_of d ≡ Some z
int_there d z h =
    ap int32_of h.1 ∙ ap (option_and_then (λ (x : ℤ). if is_within 2147483648 x then Some x else None)) h.2 ∙ ap (λ b. if b then Some z else None) h.3

-- ---- members

pub has_found : {A : Type 0} (f : Data → Option A) (Says : Data → A → Type 0) → ((d : Data) (x : A) → f d ≡ Some x → Says d x) → (k : List ℕ) (ms : Members) (x : A) → option_and_then f (get_member k ms) ≡ Some x → Has Says k ms x
has_found f Says found k ms x e = let p = and_then_gave f (get_member k ms) x e in (p.0, p.1, found p.0 x p.2)

pub has_there : {A : Type 0} (f : Data → Option A) (Says : Data → A → Type 0) → ((d : Data) (x : A) → Says d x → f d ≡ Some x) → (k : List ℕ) (ms : Members) (x : A) → Has Says k ms x → option_and_then f (get_member k ms) ≡ Some x
has_there f Says there k ms x h = ap (option_and_then f) h.1 ∙ there h.0 x h.2

pub may_found : {A : Type 0} (f : Data → Option A) (Says : Data → A → Type 0) → ((d : Data) (x : A) → f d ≡ Some x → Says d x) → (k : List ℕ) (ms : Members) (o : Option A) → optional f (get_member k ms) ≡ Some o → MayHave Says k ms o
may_found {A = A} f Says found k ms o h = go (get_member k ms) refl o h
  where
    go : (g : Option Data) → get_member k ms ≡ g → (o : Option A) → optional f g ≡ Some o → MayHave Says k ms o
    go None e None h = e
    go None e (Some x) h = none_is x (same_value None (Some x) h)
    go (Some d) e None h = let p = map_gave Some (f d) None h in none_is p.0 (sym p.2)
    go (Some d) e (Some x) h = let p = map_gave Some (f d) (Some x) h in (d, e, found d x (p.1 ∙ p.2))

pub may_there : {A : Type 0} (f : Data → Option A) (Says : Data → A → Type 0) → ((d : Data) (x : A) → Says d x → f d ≡ Some x) → (k : List ℕ) (ms : Members) (o : Option A) → MayHave Says k ms o → optional f (get_member k ms) ≡ Some o
may_there f Says there k ms None h = ap (optional f) h
may_there f Says there k ms (Some x) h = ap (optional f) h.1 ∙ ap (option_map Some) (there h.0 x h.2)

-- ---- the length

pub length_found : (kind : ℤ) (k : List ℕ) (ms : Members) (o : Option ℤ) → length_of kind (get_member k ms) ≡ Some o → MayHave IsInt32 k ms o × (IsSome o ↔ (kind ≡ pos 7))
length_found kind k ms o h = by (int_eq kind (pos 7)) refl
  where
    lacks : (g : Option Data) → get_member k ms ≡ g → (o : Option ℤ) → absent g ≡ Some o → Lacks k ms × (o ≡ None)
    lacks None e o h = (e, sym (same_value None o h))
    lacks (Some d) e o h = none_is o h

    by : (b : Bool) → int_eq kind (pos 7) ≡ b → MayHave IsInt32 k ms o × (IsSome o ↔ (kind ≡ pos 7))
    by true e =
        let p = map_gave Some (option_and_then int32_of (get_member k ms)) o (rw e at h) in
        let is : kind ≡ pos 7 = (Decides-int_eq kind (pos 7)).0 e in
        rw (← p.2) (has_found int32_of IsInt32 int_found k ms p.0 p.1, ((λ s. is), (λ s. refl)))
    by false e =
        let p = lacks (get_member k ms) refl o (rw e at h) in
        rw p.1 (p.0, ((λ s. absurd (true≢false (sym s))), (λ is. absurd (true≢false (sym ((Decides-int_eq kind (pos 7)).1 is) ∙ e)))))

pub length_there : (kind : ℤ) (k : List ℕ) (ms : Members) (o : Option ℤ) → MayHave IsInt32 k ms o → (IsSome o ↔ (kind ≡ pos 7)) → length_of kind (get_member k ms) ≡ Some o
length_there kind k ms None h fixed = by (int_eq kind (pos 7)) refl
  where
    by : (b : Bool) → int_eq kind (pos 7) ≡ b → length_of kind (get_member k ms) ≡ Some None
    by true e = absurd (true≢false (sym (fixed.1 ((Decides-int_eq kind (pos 7)).0 e))))
    by false e = rw (e, h) refl
length_there kind k ms (Some z) h fixed =
    rw ((Decides-int_eq kind (pos 7)).1 (fixed.0 refl)) (ap (option_map Some) (has_there int32_of IsInt32 int_there k ms z h))
