-- The bodies of pages, where the levels of the page are known, or the header that its type names.
use Rattle.std.proofs.Common.{◌≡◌, ℕ, ◌≤◌, List, length, Option, Some, sym, ap, subst, ◌∙◌, arith, inl, inr, pos}
use Rattle.std.specs.Prelude.{Result, Ok, Err, OnOk}
use Rattle.std.proofs.lemmas.List.{length-map}
use Rattle.lists.proofs.Options.{one_some as some_is}
use Rattle.bits.specs.declared.refusal.Refusal.{Refusal}
use Rattle.schema.specs.Stripe.{Leaf, Entry}
use Rattle.schema.specs.Values.{ValueTree}
use Rattle.metadata.specs.Records.{PageHeader, DataPageHeader, DataPageHeaderV2, DictionaryPageHeader}
use Rattle.pages.specs.declared.encoding.Encoding.{Encoding}
use Rattle.pages.specs.Encodings.{encoding_of, AreValues}
use Rattle.pages.specs.Chunk.{entries_of}
use Rattle.pages.specs.Limits.{IsBodyOver, in_version_1, in_version_2, in_dictionary, IsValueOver, full}
use Rattle.pages.specs.Page.{Page, skipped, dictionary, entries, repetitions, definitions, values, Spell, AreLevelsV1, AreLevelsV2, IsBodyV1, IsBodyV2, IsDictionaryBody, IsBody}
use Rattle.pages.specs.inner.Reading.{AreEntries, IsDataOver, IsDataOverV2, IsDictionaryOver}
use Rattle.pages.proofs.OneList.{HybridsAreOne}
use Rattle.pages.proofs.OneBody.{one_text_v1, one_text_v2}

pub on_ok : {X P Q : Type 0} (r : Result X Refusal) → (P → Q) → OnOk r P → OnOk r Q
on_ok (Ok x) f p = f p
on_ok (Err e) f p = tt

-- the number of entries is that of their levels
pub count_by_levels : (leaf : Leaf) (d : Option (List ValueTree)) (e : Option Encoding) (text rs ds : List ℕ) (es : List Entry) (n left : ℕ) → AreEntries leaf d e text rs ds es → length ds ≡ n → n ≤ left → length es ≤ left
count_by_levels leaf d e text rs ds es n left p size few =
    let many : length es ≡ length ds = sym (length-map es (λ x. x.definition)) ∙ ap length p.definitions_are in
    omega (arith, many, size, few)

-- ---- version 1

pub entries_v1 : HybridsAreOne → (leaf : Leaf) (d : Option (List ValueTree)) (own : DataPageHeader) (e : Option Encoding) (body rs ds text : List ℕ) (es : List Entry) → e ≡ encoding_of own.encoding → AreLevelsV1 leaf own body rs ds text
    → IsBodyV1 leaf d own body es → AreEntries leaf d e text rs ds es
entries_v1 law leaf d own e body rs ds text es is known p =
    let same = one_text_v1 law leaf own body (repetitions es) rs (definitions es) ds p.text text p.levels known in
    record {
      repetitions_are = same.0;
      definitions_are = same.1;
      each = p.each;
      spelled = subst (λ (o : Option Encoding). Spell (AreValues d leaf.leaf_type.kind o) text (values es)) (sym is) (subst (λ (s : List ℕ). Spell (AreValues d leaf.leaf_type.kind (encoding_of own.encoding)) s (values es)) same.2 p.spelled);
    }

pub over_v1 : HybridsAreOne → (leaf : Leaf) (own : DataPageHeader) (e : Option Encoding) (body rs ds text : List ℕ) → e ≡ encoding_of own.encoding → AreLevelsV1 leaf own body rs ds text → IsDataOver leaf own body
    → IsValueOver leaf.leaf_type.kind e text (full leaf ds)
over_v1 law leaf own e body rs ds text is known p =
    let same = one_text_v1 law leaf own body p.repetitions rs p.definitions ds p.text text p.levels known in
    let here : IsValueOver leaf.leaf_type.kind e p.text (full leaf p.definitions) = subst (λ (o : Option Encoding). IsValueOver leaf.leaf_type.kind o p.text (full leaf p.definitions)) (sym is) p.over in
    let there : IsValueOver leaf.leaf_type.kind e text (full leaf p.definitions) = subst (λ (s : List ℕ). IsValueOver leaf.leaf_type.kind e s (full leaf p.definitions)) same.2 here in
    subst (λ (xs : List ℕ). IsValueOver leaf.leaf_type.kind e text (full leaf xs)) same.1 there

-- ---- version 2

pub entries_v2 : HybridsAreOne → (leaf : Leaf) (d : Option (List ValueTree)) (own : DataPageHeaderV2) (e : Option Encoding) (body rs ds text : List ℕ) (es : List Entry) → e ≡ encoding_of own.encoding → AreLevelsV2 leaf own body rs ds text
    → IsBodyV2 leaf d own body es → AreEntries leaf d e text rs ds es
entries_v2 law leaf d own e body rs ds text es is known p =
    let same = one_text_v2 law leaf own body (repetitions es) rs (definitions es) ds p.text text p.levels known in
    record {
      repetitions_are = same.0;
      definitions_are = same.1;
      each = p.each;
      spelled = subst (λ (o : Option Encoding). Spell (AreValues d leaf.leaf_type.kind o) text (values es)) (sym is) (subst (λ (s : List ℕ). Spell (AreValues d leaf.leaf_type.kind (encoding_of own.encoding)) s (values es)) same.2 p.spelled);
    }

pub over_v2 : HybridsAreOne → (leaf : Leaf) (own : DataPageHeaderV2) (e : Option Encoding) (body rs ds text : List ℕ) → e ≡ encoding_of own.encoding → AreLevelsV2 leaf own body rs ds text → IsDataOverV2 leaf own body
    → IsValueOver leaf.leaf_type.kind e text (full leaf ds)
over_v2 law leaf own e body rs ds text is known p =
    let same = one_text_v2 law leaf own body p.repetitions rs p.definitions ds p.text text p.levels known in
    let here : IsValueOver leaf.leaf_type.kind e p.text (full leaf p.definitions) = subst (λ (o : Option Encoding). IsValueOver leaf.leaf_type.kind o p.text (full leaf p.definitions)) (sym is) p.over in
    let there : IsValueOver leaf.leaf_type.kind e text (full leaf p.definitions) = subst (λ (s : List ℕ). IsValueOver leaf.leaf_type.kind e s (full leaf p.definitions)) same.2 here in
    subst (λ (xs : List ℕ). IsValueOver leaf.leaf_type.kind e text (full leaf xs)) same.1 there

-- ---- the header that a page's type names

pub record IsVersionOne (h : PageHeader) (own : DataPageHeader) : Type 0 where
  pub kind : h.kind ≡ pos 0
  pub header : h.data_page_header ≡ Some own

pub record IsVersionTwo (h : PageHeader) (own : DataPageHeaderV2) : Type 0 where
  pub kind : h.kind ≡ pos 3
  pub header : h.data_page_header_v2 ≡ Some own

pub record IsOfDictionary (h : PageHeader) (own : DictionaryPageHeader) : Type 0 where
  pub kind : h.kind ≡ pos 2
  pub header : h.dictionary_page_header ≡ Some own

pub no_page_v1 : (leaf : Leaf) (d : Option (List ValueTree)) (h : PageHeader) (own : DataPageHeader) (body : List ℕ) (left : ℕ) → IsVersionOne h own → ((es : List Entry) → IsBodyV1 leaf d own body es → length es ≤ left → ⊥)
    → (page : Page) → IsBody leaf d h body page → length (entries_of page) ≤ left → ⊥
no_page_v1 leaf d h own body left one nothing skipped p few = p.0 one.kind
no_page_v1 leaf d h own body left one nothing (dictionary vs) p few = let a = one.kind in let b = p.1 in cc
no_page_v1 leaf d h own body left one nothing (entries es) (inl p) few = nothing es (subst (λ (o : DataPageHeader). IsBodyV1 leaf d o body es) (some_is h.data_page_header p.0 own p.2 one.header) p.3) few
no_page_v1 leaf d h own body left one nothing (entries es) (inr p) few = let a = one.kind in let b = p.1 in cc

pub no_page_v2 : (leaf : Leaf) (d : Option (List ValueTree)) (h : PageHeader) (own : DataPageHeaderV2) (body : List ℕ) (left : ℕ) → IsVersionTwo h own → ((es : List Entry) → IsBodyV2 leaf d own body es → length es ≤ left → ⊥)
    → (page : Page) → IsBody leaf d h body page → length (entries_of page) ≤ left → ⊥
no_page_v2 leaf d h own body left two nothing skipped p few = p.2 two.kind
no_page_v2 leaf d h own body left two nothing (dictionary vs) p few = let a = two.kind in let b = p.1 in cc
no_page_v2 leaf d h own body left two nothing (entries es) (inl p) few = let a = two.kind in let b = p.1 in cc
no_page_v2 leaf d h own body left two nothing (entries es) (inr p) few = nothing es (subst (λ (o : DataPageHeaderV2). IsBodyV2 leaf d o body es) (some_is h.data_page_header_v2 p.0 own p.2 two.header) p.3) few

pub no_dictionary_page : (leaf : Leaf) (d : Option (List ValueTree)) (h : PageHeader) (own : DictionaryPageHeader) (body : List ℕ) (left : ℕ) → IsOfDictionary h own → ((vs : List ValueTree) → IsDictionaryBody leaf.leaf_type.kind own body vs → ⊥)
    → (page : Page) → IsBody leaf d h body page → length (entries_of page) ≤ left → ⊥
no_dictionary_page leaf d h own body left is nothing skipped p few = p.1 is.kind
no_dictionary_page leaf d h own body left is nothing (dictionary vs) p few = nothing vs (subst (λ (o : DictionaryPageHeader). IsDictionaryBody leaf.leaf_type.kind o body vs) (some_is h.dictionary_page_header p.0 own p.2 is.header) p.3)
no_dictionary_page leaf d h own body left is nothing (entries es) (inl p) few = let a = is.kind in let b = p.1 in cc
no_dictionary_page leaf d h own body left is nothing (entries es) (inr p) few = let a = is.kind in let b = p.1 in cc

pub body_over_v1 : (leaf : Leaf) (h : PageHeader) (own : DataPageHeader) (body : List ℕ) → IsVersionOne h own → IsDataOver leaf own body → IsBodyOver leaf h body
body_over_v1 leaf h own body one p = in_version_1 own p.repetitions p.definitions p.text one.kind one.header p.levels p.over

pub body_over_v2 : (leaf : Leaf) (h : PageHeader) (own : DataPageHeaderV2) (body : List ℕ) → IsVersionTwo h own → IsDataOverV2 leaf own body → IsBodyOver leaf h body
body_over_v2 leaf h own body two p = in_version_2 own p.repetitions p.definitions p.text two.kind two.header p.levels p.over

pub body_over_dictionary : (leaf : Leaf) (h : PageHeader) (own : DictionaryPageHeader) (body : List ℕ) → IsOfDictionary h own → IsDictionaryOver leaf.leaf_type.kind own body → IsBodyOver leaf h body
body_over_dictionary leaf h own body is p = in_dictionary own p.count is.kind is.header p.says p.encoding p.over

pub not_over_v1 : (leaf : Leaf) (h : PageHeader) (own : DataPageHeader) (body : List ℕ) → IsVersionOne h own → (IsDataOver leaf own body → ⊥) → IsBodyOver leaf h body → ⊥
not_over_v1 leaf h own body one none (in_version_1 other rs ds text kind header levels over) =
    none (subst (λ (o : DataPageHeader). IsDataOver leaf o body) (some_is h.data_page_header other own header one.header) (record { repetitions = rs; definitions = ds; text = text; levels = levels; over = over }))
not_over_v1 leaf h own body one none (in_version_2 other rs ds text kind header levels over) = let a = one.kind in cc
not_over_v1 leaf h own body one none (in_dictionary other n kind header count encoding over) = let a = one.kind in cc

pub not_over_v2 : (leaf : Leaf) (h : PageHeader) (own : DataPageHeaderV2) (body : List ℕ) → IsVersionTwo h own → (IsDataOverV2 leaf own body → ⊥) → IsBodyOver leaf h body → ⊥
not_over_v2 leaf h own body two none (in_version_1 other rs ds text kind header levels over) = let a = two.kind in cc
not_over_v2 leaf h own body two none (in_version_2 other rs ds text kind header levels over) =
    none (subst (λ (o : DataPageHeaderV2). IsDataOverV2 leaf o body) (some_is h.data_page_header_v2 other own header two.header) (record { repetitions = rs; definitions = ds; text = text; levels = levels; over = over }))
not_over_v2 leaf h own body two none (in_dictionary other n kind header count encoding over) = let a = two.kind in cc

pub not_over_dictionary : (leaf : Leaf) (h : PageHeader) (own : DictionaryPageHeader) (body : List ℕ) → IsOfDictionary h own → (IsDictionaryOver leaf.leaf_type.kind own body → ⊥) → IsBodyOver leaf h body → ⊥
not_over_dictionary leaf h own body is none (in_version_1 other rs ds text kind header levels over) = let a = is.kind in cc
not_over_dictionary leaf h own body is none (in_version_2 other rs ds text kind header levels over) = let a = is.kind in cc
not_over_dictionary leaf h own body is none (in_dictionary other n kind header count encoding over) =
    none (subst (λ (o : DictionaryPageHeader). IsDictionaryOver leaf.leaf_type.kind o body) (some_is h.dictionary_page_header other own header is.header) (record { count = n; says = count; encoding = encoding; over = over }))
