-- What is said of fields one after another, before what is left.
use Rattle.std.proofs.Common.{◌≡◌, ◌<◌, ◌≤◌, ◌^◌, ℕ, suc, ℤ, Bool, true, false, true≢false, nat_lt, codes, if◌then◌else◌, List, [], ◌∷◌, ◌++◌, Option, Some, None, is_some, option_map, option_and_then, Result, Ok, Err, refl, sym, ap, ◌∙◌, append_assoc, append-nil, arith}
use Rattle.std.proofs.lemmas.Bool.{lt-ltb}
use Rattle.std.proofs.lemmas.Bool.Decides.{nat_tests}
use Rattle.std.specs.Prelude.{IfOk}
use Rattle.std.proofs.lemmas.Option.{same_Some as same_value}
use Rattle.serde_json.specs.Data.{Data, Items}
use Rattle.serde_json.specs.Find.{get, as_str, as_array}
use Rattle.serde_json.specs.Events.{items_len}
use Rattle.schema.specs.declared.element.Element.{Element as CodeElement}
use Rattle.schema.specs.Elements.{Element, element_view, elements_view}
use Rattle.jsonrows.specs.declared.schema_elements.Said.{Said as CodeSaid}
use Rattle.jsonrows.specs.SchemaJson.{repetitions}
use Rattle.jsonrows.specs.inner.SchemaReading.{Said, word_of, group_said, said_of_group, said_by, field_said, fields_said, said_below, all_said}
use Rattle.jsonrows.specs.inner.SchemaViews.{said_view, saids, Says}

-- those, and then what is said
abbrev pub after : List Said → Option (List Said) → Option (List Said)
after old said = option_map (λ more. old ++ more) said

-- what two say
abbrev pub both : Option (List Said) → Option (List Said) → Option (List Said)
both next left = option_and_then (λ some. option_map (λ more. some ++ more) left) next

abbrev value_or : {A : Type 0} → A → Option A → A
value_or d None = d
value_or d (Some x) = x

after-after : (old some : List Said) (left : Option (List Said)) → after old (option_map (λ more. some ++ more) left) ≡ after (old ++ some) left
after-after old some None = refl
after-after old some (Some more) = ap Some (sym (append_assoc old some more))

pub said_more : (old mid new : List Said) (all next left : Option (List Said)) → Some new ≡ after mid next → after old all ≡ after mid (both next left) → after old all ≡ after new left
said_more old mid new all None left step e = absurd (true≢false (ap is_some step))
said_more old mid new all (Some some) left step e = e ∙ after-after mid some left ∙ ap (λ xs. after xs left) (sym (same_value new (mid ++ some) step))

no_more : (old : List Said) (all : Option (List Said)) → after old all ≡ None → None ≡ all
no_more old None e = refl
no_more old (Some some) e = absurd (true≢false (ap is_some e))

pub said_wrongly : (old mid : List Said) (all next left : Option (List Said)) → None ≡ next → after old all ≡ after mid (both next left) → None ≡ all
said_wrongly old mid all next left none e = no_more old all (e ∙ ap (λ n. after mid (both n left)) (sym none))

pub said_whole : (old new : List Said) (all left : Option (List Said)) → left ≡ Some [] → after old all ≡ after new left → Some new ≡ after old all
said_whole old new all left none e = sym (e ∙ ap (after new) none ∙ ap Some (append-nil new))

-- a group, and then what is said below it
says_group_at : (old new : List Said) (s : Said) (formed : Bool) (o : Option (List Said)) → Says (old ++ s ∷ []) new formed o → Says old new formed (option_map (λ all. s ∷ all) o)
says_group_at old new s true None h = h
says_group_at old new s true (Some more) h = h ∙ ap Some (append_assoc old (s ∷ []) more)
says_group_at old new s false None h = refl
says_group_at old new s false (Some more) h = absurd (true≢false (sym (ap is_some h)))

pub says_group : {E : Type 0} (old now new : List Said) (s : Said) (o said : Option (List Said)) (r : Result Bool E) → now ≡ old ++ s ∷ [] → said ≡ option_map (λ all. s ∷ all) o → IfOk r (λ formed. Says now new formed o) → IfOk r (λ formed. Says old new formed said)
says_group old now new s o said (Ok formed) pushed is h = rw is (says_group_at old new s formed o (rw pushed at h))
says_group old now new s o said (Err e) pushed is h = h

-- below a field that may have some
pub said_below-more : (deep less : ℕ) (ds : Items) → deep ≡ suc less → said_below deep ds ≡ fields_said (said_below less) ds
said_below-more deep less ds e = rw e refl

-- one more element
pub elements-push : (es : List CodeElement) (e : CodeElement) (left : List Element) → elements_view (es ++ e ∷ []) ++ left ≡ elements_view es ++ element_view e ∷ left
elements-push [] e left = refl
elements-push (x ∷ es) e left = ap (λ xs. element_view x ∷ xs) (elements-push es e left)

pub saids-push : (all : List CodeSaid) (s : CodeSaid) → saids (all ++ s ∷ []) ≡ saids all ++ said_view s ∷ []
saids-push [] s = refl
saids-push (x ∷ all) s = ap (λ xs. said_view x ∷ xs) (saids-push all s)

-- what a group says, member by member
pub group_says : (below : Items → Option (List Said)) (d x : Data) (name : List ℕ) (repetition : ℤ) (ds : Items) (s : Option Said) → Some name ≡ option_and_then as_str (get (codes "name") d)
    → Some repetition ≡ option_and_then (word_of repetitions) (get (codes "rep") d) → Some x ≡ get (codes "fields") d → Some ds ≡ as_array x → s ≡ group_said name repetition d (items_len ds)
    → option_and_then (λ g. option_map (λ all. g ∷ all) (below ds)) s ≡ field_said below d
group_says below d x name repetition ds s named repeats has holds says =
    ap (option_and_then (λ g. option_map (λ all. g ∷ all) (below ds))) says
    ∙ ap (option_and_then (λ is. option_and_then (λ g. option_map (λ all. g ∷ all) (below is)) (group_said name repetition d (items_len is)))) holds
    ∙ ap (said_by below name repetition d) has
    ∙ ap (option_and_then (λ r. said_by below name r d (get (codes "fields") d))) repeats
    ∙ ap (option_and_then (λ n. option_and_then (λ r. said_by below n r d (get (codes "fields") d)) (option_and_then (word_of repetitions) (get (codes "rep") d)))) named

-- what an array says, whose fields are so many
abbrev array_says : Items → ℕ → Option (List Said)
array_says ds n = if nat_lt n (2 ^ 31) then option_map (λ all. said_of_group (codes "schema") None n None ∷ all) (fields_said (said_below 64) ds) else None

array_said : (d : Data) (ds : Items) (n : ℕ) → Some ds ≡ as_array d → n ≡ items_len ds → array_says ds n ≡ all_said d
array_said d ds n holds counts = ap (array_says ds) counts ∙ ap (option_and_then (λ is. array_says is (items_len is))) holds

pub all_say : (d : Data) (ds : Items) (n : ℕ) (now new : List Said) → Some ds ≡ as_array d → n ≡ items_len ds → n < 2147483648 → now ≡ said_of_group (codes "schema") None n None ∷ []
    → Some new ≡ after now (fields_said (said_below 64) ds) → Some new ≡ all_said d
all_say d ds n now new holds counts few is says =
    let test : nat_lt n (2 ^ 31) ≡ true = lt-ltb n (2 ^ 31) few in
    let root = said_of_group (codes "schema") None n None in
    let whole : array_says ds n ≡ option_map (λ all. root ∷ all) (fields_said (said_below 64) ds) = rw test refl in
    says ∙ ap (λ xs. after xs (fields_said (said_below 64) ds)) is ∙ sym whole ∙ array_said d ds n holds counts

pub too_many_say : (d : Data) (ds : Items) (n : ℕ) → Some ds ≡ as_array d → n ≡ items_len ds → 2147483648 ≤ n → None ≡ all_said d
too_many_say d ds n holds counts many =
    let test : nat_lt n (2 ^ 31) ≡ false = grind (arith, nat_tests) in
    let whole : array_says ds n ≡ None = rw test refl in
    sym whole ∙ array_said d ds n holds counts
