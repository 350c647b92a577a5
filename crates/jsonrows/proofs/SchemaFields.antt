-- What is found in an array of fields, and in a whole text, is what it says.
use Rattle.std.proofs.Common.{◌≡◌, ◌⊎◌, inl, inr, ℕ, zero, suc, max, ◌+◌, ◌*◌, ◌<◌, ◌≤◌, ◌^◌, nat_lt, ℤ, true, codes, List, [], ◌∷◌, ◌++◌, Option, Some, None, Result, Ok, Err, option_map, option_and_then, refl, sym, ap, ap₂, subst, ◌∙◌, arith}
use Rattle.std.specs.Prelude.{IfOk, IfErr}
use Rattle.std.specs.Ordering.{nat_cmp, match_ordering}
use Rattle.std.specs.declared.cmp.Ordering.{Ordering}
use Rattle.std.specs.declared.cmp.Ordering.TheVariants.{Less, Equal, Greater}
use Rattle.std.specs.Cmp.Lexicographic.{slice_cmp}
use Rattle.std.proofs.Math.Nat.{le-max_left, le-max_right}
use Rattle.std.proofs.lemmas.Bool.Decides.{Decides-ltb}
use Rattle.std.proofs.lemmas.Option.{same_Some as same_value}
use Rattle.lists.proofs.Options.{and_then_some as and_then_gave, map_some as map_gave, some_if as if_gave}
use Rattle.serde_json.specs.Data.{Data, null, boolean, number, string, array, object, Items, no_items, item, Members, no_members, member, depth, items_depth, members_depth}
use Rattle.serde_json.specs.Find.{as_str, as_array, get_member}
use Rattle.serde_json.specs.Events.{items_len}
use Rattle.serde_json.specs.Read.{read}
use Rattle.bits.specs.declared.refusal.Refusal.{Refusal}
use Rattle.bits.specs.declared.refusal.Refusal.TheVariants.{Script, Memory}
use Rattle.bits.specs.Refusals.{IsFault, HasCause}
use Rattle.schema.specs.Shape.{Fields}
use Rattle.schema.specs.Elements.{Element}
use Rattle.schema.specs.Faults.{HasFault}
use Rattle.schema.specs.Listing.{Branch, branch, Branches, no_branches, branches, depth_first, depth_first_each, IsSchemaOf}
use Rattle.jsonrows.specs.SchemaJson.{repetitions, IsText, IsWord, Has, Lacks, IsLeaf, IsGroup, SaysField, SaysFields, SaysSchema, SaysElements, IsSchemaText, IsRefusedSchema}
use Rattle.jsonrows.specs.inner.SchemaReading.{word_of, Said, said_of_group, leaf_said, group_said, said_by, field_said, fields_said, said_below, all_said, HasStruct, IsElementOf, AreElementsOf}
use Rattle.jsonrows.proofs.SchemaMembers.{none_is, is_array, text_found, text_there, word_found, word_there, has_found, has_there}
use Rattle.jsonrows.proofs.SchemaNotes.{none_kept}
use Rattle.jsonrows.proofs.SchemaLeaves.{leaf_found, leaf_there, group_found, group_there}

-- ---- from what is found

pub record AreSplit (xs ys : List Said) (es : List Element) : Type 0 where
  pub first : List Element
  pub rest : List Element
  pub joined : es ≡ first ++ rest
  pub are : AreElementsOf xs first
  pub others : AreElementsOf ys rest

split_elements : (xs ys : List Said) (es : List Element) → AreElementsOf (xs ++ ys) es → AreSplit xs ys es
split_elements [] ys es h = record { first = []; rest = es; joined = refl; are = tt; others = h }
split_elements (x ∷ xs) ys [] h = absurd h
split_elements (x ∷ xs) ys (e ∷ es) h =
    let p = split_elements xs ys es h.1 in
    record { first = e ∷ p.first; rest = p.rest; joined = ap (λ l. e ∷ l) p.joined; are = (h.0, p.are); others = p.others }

abbrev pub Found : (Items → Option (List Said)) → Type 0
Found below = (ds : Items) (said : List Said) (es : List Element) → below ds ≡ Some said → AreElementsOf said es → (bs : Branches) × SaysFields bs ds × (es ≡ depth_first_each bs)

abbrev pub FieldFound : Data → List Element → Type 0
FieldFound d es = (b : Branch) × SaysField b d × (es ≡ depth_first b)

leaf_alone : (ms : Members) (name : List ℕ) (r : ℤ) (said : List Said) (es : List Element) → Has IsText (codes "name") ms name → Has (IsWord repetitions) (codes "rep") ms r → Lacks (codes "fields") ms
    → option_map (λ s. s ∷ []) (leaf_said name r (object ms)) ≡ Some said → AreElementsOf said es → FieldFound (object ms) es
leaf_alone ms name r said es called repeats lacks h are =
    let p = map_gave (λ (s : Said). s ∷ []) (leaf_said name r (object ms)) said h in
    one p.0 p.1 es (subst (λ x. AreElementsOf x es) (sym p.2) are)
  where
    one : (s : Said) → leaf_said name r (object ms) ≡ Some s → (es : List Element) → AreElementsOf (s ∷ []) es → FieldFound (object ms) es
    one s is [] p = absurd p
    one s is (e ∷ []) p = (branch e no_branches, (ms, refl, inl (leaf_found ms name r s e called repeats lacks is p.0, refl)), refl)
    one s is (e ∷ x ∷ rest) p = absurd p.1

group_and_below : (below : Items → Option (List Said)) → Found below → (ms : Members) (name : List ℕ) (r : ℤ) (ds : Items) (said : List Said) (es : List Element) → Has IsText (codes "name") ms name → Has (IsWord repetitions) (codes "rep") ms r
    → get_member (codes "fields") ms ≡ Some (array ds) → option_and_then (λ s. option_map (λ all. s ∷ all) (below ds)) (group_said name r (object ms) (items_len ds)) ≡ Some said → AreElementsOf said es → FieldFound (object ms) es
group_and_below below found ms name r ds said es called repeats has h are =
    let p = and_then_gave (λ (s : Said). option_map (λ (all : List Said). s ∷ all) (below ds)) (group_said name r (object ms) (items_len ds)) said h in
    let q = map_gave (λ (all : List Said). p.0 ∷ all) (below ds) said p.2 in
    one p.0 p.1 q.0 q.1 es (subst (λ x. AreElementsOf x es) (sym q.2) are)
  where
    one : (s : Said) → group_said name r (object ms) (items_len ds) ≡ Some s → (all : List Said) → below ds ≡ Some all → (es : List Element) → AreElementsOf (s ∷ all) es → FieldFound (object ms) es
    one s is all has_below [] p = absurd p
    one s is all has_below (e ∷ rest) p =
        let k = found ds all rest has_below p.1 in
        (branch e k.0, (ms, refl, inr (ds, group_found ms name r ds s e called repeats has is p.0, k.1)), ap (λ l. e ∷ l) k.2)

pub field_found : (below : Items → Option (List Said)) → Found below → (d : Data) (said : List Said) (es : List Element) → field_said below d ≡ Some said → AreElementsOf said es → FieldFound d es
field_found below found null said es h are = none_is said h
field_found below found (boolean b) said es h are = none_is said h
field_found below found (number n) said es h are = none_is said h
field_found below found (string s) said es h are = none_is said h
field_found below found (array ds) said es h are = none_is said h
field_found below found (object ms) said es h are =
    let a = and_then_gave _ (option_and_then as_str (get_member (codes "name") ms)) said h in
    let b = and_then_gave _ (option_and_then (word_of repetitions) (get_member (codes "rep") ms)) said a.2 in
    by a.0 b.0 (has_found as_str IsText text_found (codes "name") ms a.0 a.1) (has_found (word_of repetitions) (IsWord repetitions) (word_found repetitions) (codes "rep") ms b.0 b.1) (get_member (codes "fields") ms) refl b.2
  where
    by : (name : List ℕ) (r : ℤ) → Has IsText (codes "name") ms name → Has (IsWord repetitions) (codes "rep") ms r → (F : Option Data) → get_member (codes "fields") ms ≡ F → said_by below name r (object ms) F ≡ Some said → FieldFound (object ms) es
    by name r called repeats None f k = leaf_alone ms name r said es called repeats f k are
    by name r called repeats (Some x) f k =
        let p = and_then_gave (λ (ds : Items). option_and_then (λ (s : Said). option_map (λ (all : List Said). s ∷ all) (below ds)) (group_said name r (object ms) (items_len ds))) (as_array x) said k in
        group_and_below below found ms name r p.0 said es called repeats (f ∙ ap Some (is_array x p.0 p.1)) p.2 are

fields_found : (below : Items → Option (List Said)) → Found below → Found (fields_said below)
fields_found below found no_items said es h are = none (same_value [] said h) es are
  where
    none : [] ≡ said → (es : List Element) → AreElementsOf said es → (bs : Branches) × SaysFields bs no_items × (es ≡ depth_first_each bs)
    none e [] p = (no_branches, tt, refl)
    none e (x ∷ xs) p = absurd (subst (λ l. AreElementsOf l (x ∷ xs)) (sym e) p)
fields_found below found (item d ds) said es h are =
    let a = and_then_gave (λ (some : List Said). option_map (λ (more : List Said). some ++ more) (fields_said below ds)) (field_said below d) said h in
    let b = map_gave (λ (more : List Said). a.0 ++ more) (fields_said below ds) said a.2 in
    let p = split_elements a.0 b.0 es (subst (λ l. AreElementsOf l es) (sym b.2) are) in
    let k = field_found below found d a.0 p.first a.1 p.are in
    let m = fields_found below found ds b.0 p.rest b.1 p.others in
    (branches k.0 m.0, (k.1, m.1), p.joined ∙ ap₂ (λ x y. x ++ y) k.2 m.2)

pub below_found : (deep : ℕ) → Found (said_below deep)
below_found zero ds said es h are = none_is said h
below_found (suc deep) ds said es h are = fields_found (said_below deep) (below_found deep) ds said es h are

one_element : (s : Said) (e : Element) → s.logical ≡ None → IsElementOf s e → e ≡ record s.element { logical_type = None }
one_element s e none h = h.same ∙ ap (λ l. record s.element { logical_type = l }) (none_kept e.logical_type (subst (λ x. HasStruct x e.logical_type) none h.kept))

-- the elements of what is found in a JSON value are those that it says
all_found : (d : Data) (said : List Said) (es : List Element) → all_said d ≡ Some said → AreElementsOf said es → SaysSchema d es
all_found d said es h are =
    let a = and_then_gave _ (as_array d) said h in
    let w = if_gave (nat_lt (items_len a.0) (2 ^ 31)) (option_map (λ (all : List Said). said_of_group (codes "schema") None (items_len a.0) None ∷ all) (fields_said (said_below 64) a.0)) said a.2 in
    let p = map_gave (λ (all : List Said). said_of_group (codes "schema") None (items_len a.0) None ∷ all) (fields_said (said_below 64) a.0) said w.1 in
    whole a.0 (is_array d a.0 a.1) ((Decides-ltb (items_len a.0) (2 ^ 31)).0 w.0) p.0 p.1 es (subst (λ x. AreElementsOf x es) (sym p.2) are)
  where
    whole : (ds : Items) → d ≡ array ds → items_len ds < 2 ^ 31 → (all : List Said) → fields_said (said_below 64) ds ≡ Some all → (es : List Element) → AreElementsOf (said_of_group (codes "schema") None (items_len ds) None ∷ all) es → SaysSchema d es
    whole ds listed few all says [] p = absurd p
    whole ds listed few all says (e ∷ rest) p =
        let k = fields_found (said_below 64) (below_found 64) ds all rest says p.1 in
        let root = one_element (said_of_group (codes "schema") None (items_len ds) None) e refl p.0 in
        record { below = ds; fields = k.0; listed = listed; few = few; say = k.1; elements = ap₂ (λ x xs. x ∷ xs) root k.2 }

-- ---- from what is said

join_elements : (xs ys : List Said) (es ds : List Element) → AreElementsOf xs es → AreElementsOf ys ds → AreElementsOf (xs ++ ys) (es ++ ds)
join_elements [] ys [] ds p q = q
join_elements [] ys (e ∷ es) ds p q = absurd p
join_elements (x ∷ xs) ys [] ds p q = absurd p
join_elements (x ∷ xs) ys (e ∷ es) ds p q = (p.0, join_elements xs ys es ds p.1 q)

left_of_max : (n m most : ℕ) → max n m ≤ most → n ≤ most
left_of_max n m most h = omega (arith, le-max_left n m)

right_of_max : (n m most : ℕ) → max n m ≤ most → m ≤ most
right_of_max n m most h = omega (arith, le-max_right n m)

below_left : (x n m : ℕ) → x ≤ n → x ≤ max n m
below_left x n m h = omega (arith, le-max_left n m)

below_right : (x n m : ℕ) → x ≤ m → x ≤ max n m
below_right x n m h = omega (arith, le-max_right n m)

-- a member nests no deeper than all of them
pub member_depth : (k : List ℕ) (ms : Members) (x : Data) → get_member k ms ≡ Some x → depth x ≤ members_depth ms
member_depth k no_members x h = none_is x h
member_depth k (member l e ms) x h = by (member_depth k ms x) (slice_cmp nat_cmp k l) h
  where
    by : (get_member k ms ≡ Some x → depth x ≤ members_depth ms) → (o : Ordering) → match_ordering o (get_member k ms) (Some e) (get_member k ms) ≡ Some x → depth x ≤ max (depth e) (members_depth ms)
    by later Less g = below_right (depth x) (depth e) (members_depth ms) (later g)
    by later Equal g = subst (λ y. depth y ≤ max (depth e) (members_depth ms)) (same_value e x g) (le-max_left (depth e) (members_depth ms))
    by later Greater g = below_right (depth x) (depth e) (members_depth ms) (later g)

abbrev pub FieldThere : (Items → Option (List Said)) → Data → List Element → Type 0
FieldThere below d es = (said : List Said) × (field_said below d ≡ Some said) × AreElementsOf said es

abbrev FieldsThere : (Items → Option (List Said)) → Items → List Element → Type 0
FieldsThere below ds es = (said : List Said) × (fields_said below ds ≡ Some said) × AreElementsOf said es

at_leaf : (below : Items → Option (List Said)) (ms : Members) (e : Element) → IsLeaf e ms → FieldThere below (object ms) (e ∷ [])
at_leaf below ms e h =
    let p = leaf_there ms e h in
    let called = has_there as_str IsText text_there (codes "name") ms e.name h.called in
    let repeats = has_there (word_of repetitions) (IsWord repetitions) (word_there repetitions) (codes "rep") ms h.repetition h.repeats in
    (p.0 ∷ [], rw (called, repeats, h.no_fields, p.1) refl, (p.2, tt))

at_group : (below : Items → Option (List Said)) (ms : Members) (ds : Items) (e : Element) (all : List Said) (es : List Element) → IsGroup e ds ms → below ds ≡ Some all → AreElementsOf all es → FieldThere below (object ms) (e ∷ es)
at_group below ms ds e all es h says are =
    let p = group_there ms ds e h in
    let called = has_there as_str IsText text_there (codes "name") ms e.name h.called in
    let repeats = has_there (word_of repetitions) (IsWord repetitions) (word_there repetitions) (codes "rep") ms h.repetition h.repeats in
    (p.0 ∷ all, rw (called, repeats, h.fields, p.1, says) refl, (p.2, are))

nested : (deep : ℕ) (e : Element) (bs : Branches) (ms : Members) (ds : Items) → IsGroup e ds ms → SaysFields bs ds → suc (members_depth ms) ≤ 2 * deep + 1
    → ((less : ℕ) → items_depth ds ≤ 2 * less + 1 → FieldsThere (said_below less) ds (depth_first_each bs)) → FieldThere (said_below deep) (object ms) (e ∷ depth_first_each bs)
nested zero e bs ms ds h q low below =
    let m : suc (items_depth ds) ≤ members_depth ms = member_depth (codes "fields") ms (array ds) h.fields in
    absurd (omega arith)
nested (suc less) e bs ms ds h q low below =
    let m : suc (items_depth ds) ≤ members_depth ms = member_depth (codes "fields") ms (array ds) h.fields in
    let k = below less (omega arith) in
    at_group (said_below (suc less)) ms ds e k.0 (depth_first_each bs) h k.1 k.2

at_field : (deep : ℕ) (e : Element) (bs : Branches) (d : Data) → SaysField (branch e bs) d → depth d ≤ 2 * deep + 1
    → ((less : ℕ) (ds : Items) → SaysFields bs ds → items_depth ds ≤ 2 * less + 1 → FieldsThere (said_below less) ds (depth_first_each bs)) → FieldThere (said_below deep) d (e ∷ depth_first_each bs)
at_field deep e bs d h low below = subst (λ x. FieldThere (said_below deep) x (e ∷ depth_first_each bs)) (sym h.1) (by h.0 (subst (λ x. depth x ≤ 2 * deep + 1) h.1 low) h.2)
  where
    by : (ms : Members) → suc (members_depth ms) ≤ 2 * deep + 1 → ((IsLeaf e ms × (bs ≡ no_branches)) ⊎ ((ds : Items) × IsGroup e ds ms × SaysFields bs ds)) → FieldThere (said_below deep) (object ms) (e ∷ depth_first_each bs)
    by ms l (inl p) = subst (λ x. FieldThere (said_below deep) (object ms) (e ∷ depth_first_each x)) (sym p.1) (at_leaf (said_below deep) ms e p.0)
    by ms l (inr p) = nested deep e bs ms p.0 p.1 p.2 l (λ less m. below less p.0 p.2 m)

mutual
  pub field_there : (deep : ℕ) (b : Branch) (d : Data) → SaysField b d → depth d ≤ 2 * deep + 1 → FieldThere (said_below deep) d (depth_first b)
  field_there deep (branch e bs) d h low = at_field deep e bs d h low (λ less ds q m. fields_there less bs ds q m)

  fields_there : (deep : ℕ) (bs : Branches) (ds : Items) → SaysFields bs ds → items_depth ds ≤ 2 * deep + 1 → FieldsThere (said_below deep) ds (depth_first_each bs)
  fields_there deep no_branches no_items h low = ([], refl, tt)
  fields_there deep no_branches (item d ds) h low = absurd h
  fields_there deep (branches b bs) no_items h low = absurd h
  fields_there deep (branches b bs) (item d ds) h low =
      let k = field_there deep b d h.0 (left_of_max (depth d) (items_depth ds) (2 * deep + 1) low) in
      let m = fields_there deep bs ds h.1 (right_of_max (depth d) (items_depth ds) (2 * deep + 1) low) in
      (k.0 ++ m.0, rw (k.1, m.1) refl, join_elements k.0 m.0 (depth_first b) (depth_first_each bs) k.2 m.2)

-- what a JSON value says is found in it, where it nests no deeper than the reader goes
all_there : (d : Data) (es : List Element) → SaysSchema d es → depth d ≤ 127 → (said : List Said) × (all_said d ≡ Some said) × AreElementsOf said es
all_there d es h low = subst (λ x. (said : List Said) × (all_said x ≡ Some said) × AreElementsOf said es) (sym h.listed) (whole (subst (λ x. depth x ≤ 127) h.listed low))
  where
    whole : suc (items_depth h.below) ≤ 127 → (said : List Said) × (all_said (array h.below) ≡ Some said) × AreElementsOf said es
    whole l =
        let k = fields_there 64 h.fields h.below h.say (omega arith) in
        let few : nat_lt (items_len h.below) (2 ^ 31) ≡ true = (Decides-ltb (items_len h.below) (2 ^ 31)).1 h.few in
        let root = said_of_group (codes "schema") None (items_len h.below) None in
        let is : IsElementOf root root.element = record { same = refl; kept = tt; unnamed = refl } in
        (root ∷ k.0, rw (few, k.1) refl, subst (AreElementsOf (root ∷ k.0)) (sym h.elements) (is, k.2))

-- ---- of a text

pub said_found : (text : List ℕ) (d : Data) (said : List Said) (es : List Element) → read text ≡ Some d → Some said ≡ all_said d → AreElementsOf said es → SaysElements text es
said_found text d said es reads says are = (d, reads, all_found d said es (sym says) are)

said_there : (text : List ℕ) (d : Data) (es : List Element) → read text ≡ Some d → depth d ≤ 127 → SaysElements text es → (said : List Said) × (all_said d ≡ Some said) × AreElementsOf said es
said_there text d es reads low h = all_there d es (subst (λ x. SaysSchema x es) (same_value h.0 d (sym h.1 ∙ reads)) h.2) low

-- nothing of the form is found
pub none_found : (text : List ℕ) (d : Data) → read text ≡ Some d → depth d ≤ 127 → None ≡ all_said d → (es : List Element) → SaysElements text es → ⊥
none_found text d reads low none es h = let p = said_there text d es reads low h in none_is p.0 (none ∙ p.1)

-- what is found has no elements
pub none_are : (text : List ℕ) (d : Data) (said : List Said) → read text ≡ Some d → depth d ≤ 127 → Some said ≡ all_said d → ((es : List Element) → AreElementsOf said es → ⊥) → (es : List Element) → SaysElements text es → ⊥
none_are text d said reads low says none es h =
    let p = said_there text d es reads low h in
    none es (subst (λ x. AreElementsOf x es) (same_value p.0 said (sym p.1 ∙ sym says)) p.2)

-- the elements that a text says are those of what is found
pub same_elements : (text : List ℕ) (d : Data) (said : List Said) (es : List Element) → read text ≡ Some d → depth d ≤ 127 → Some said ≡ all_said d → SaysElements text es → AreElementsOf said es
same_elements text d said es reads low says h =
    let p = said_there text d es reads low h in
    subst (λ x. AreElementsOf x es) (same_value p.0 said (sym p.1 ∙ sym says)) p.2

-- ---- refusals

memory_or : (Cause : Refusal → Type 0) (e : Refusal) → HasCause Cause e → (e ≡ Memory) ⊎ Cause e
memory_or Cause Memory h = inl refl
memory_or Cause e h = inr h

pub refused_form : (text : List ℕ) (e : Refusal) → (IsFault e → (es : List Element) → SaysElements text es → ⊥) → HasCause (λ x. x ≡ Script) e → IsRefusedSchema text e
refused_form text e none h =
    elim (memory_or (λ x. x ≡ Script) e h) [ inl m ↦ subst (IsRefusedSchema text) (sym m) tt | inr s ↦ subst (IsRefusedSchema text) (sym s) (subst (λ x. IsFault x → (es : List Element) → SaysElements text es → ⊥) s none tt) ]

refused_list : (text : List ℕ) (es : List Element) (e : Refusal) → SaysElements text es → HasFault es e → IsRefusedSchema text e
refused_list text es Script says h = absurd h
refused_list text es Memory says h = tt
refused_list text es e says h = (es, says, h)

pub is_refused_list : {X : Type 0} (text : List ℕ) (es : List Element) (r : Result X Refusal) → SaysElements text es → IfErr r (HasFault es) → IfErr r (IsRefusedSchema text)
is_refused_list text es (Ok x) says h = tt
is_refused_list text es (Err e) says h = refused_list text es e says h

pub is_text_of : (text : List ℕ) (es : List Element) (r : Result Fields Refusal) → SaysElements text es → IfOk r (IsSchemaOf es) → IfOk r (IsSchemaText text)
is_text_of text es (Ok fs) says h = (es, says, h)
is_text_of text es (Err e) says h = tt
