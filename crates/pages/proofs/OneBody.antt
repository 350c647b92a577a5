-- What the body of a page stands for, where its header is known, is one page.
use Rattle.std.proofs.Common.{◌≡◌, ℕ, ◌<◌, List, [], ◌∷◌, length, Option, Some, None, refl, sym, ap, subst, ◌∙◌, arith, inl, inr}
use Rattle.std.specs.Prelude.{IsTrue, MatchOption}
use Rattle.std.specs.List.{AllByRecursion}
use Rattle.lists.proofs.Lists.{same_number_and_rest as firsts}
use Rattle.bits.specs.Codec.{IsFunctional}
use Rattle.schema.specs.declared.value.Kind.{Kind}
use Rattle.schema.specs.Annotations.{LeafType}
use Rattle.schema.specs.Fits.{fits_leaf}
use Rattle.schema.specs.Values.{ValueTree}
use Rattle.schema.specs.Stripe.{Leaf, Entry}
use Rattle.schema.specs.Law.{IsEntryOf}
use Rattle.metadata.specs.Records.{PageHeader, DataPageHeader, DataPageHeaderV2, DictionaryPageHeader}
use Rattle.metadata.specs.FromTree.{page_header}
use Rattle.metadata.specs.Answers.{StandsFor}
use Rattle.plain.specs.Plain.{IsPlain}
use Rattle.pages.specs.declared.encoding.Encoding.{Encoding}
use Rattle.pages.specs.Encodings.{encoding_of, AreValues}
use Rattle.pages.specs.Page.{Page, skipped, dictionary, entries, repetitions, definitions, values, Spell, IsSectionV1, IsSectionV2, AreLevelsV1, AreLevelsV2, IsBodyV1, IsBodyV2, IsDictionaryBody, IsBody, IsPage}
use Rattle.pages.proofs.OneList.{PlainsAreOne, HybridsAreOne, ListsAreOne, one_spelled, one_section_v1, one_section_v2}
use Rattle.pages.proofs.Framed.{of_frame}

-- ---- entries

-- an entry by its parts
abbrev made : ℕ → ℕ → Option ValueTree → Entry
made r d o = record { repetition = r; definition = d; value = o }

abbrev IsThere : ℕ → LeafType → ℕ → Option ValueTree → Type 0
IsThere g t d o = MatchOption o (d < g) (λ v. (d ≡ g) × IsTrue (fits_leaf t v))

first_value : (a b : ValueTree) (xs ys : List ValueTree) → a ∷ xs ≡ b ∷ ys → (a ≡ b) × (xs ≡ ys)
first_value a b xs ys e = (cc, cc)

-- where the definition levels are the same, as many values are there
same_count : (leaf : Leaf) (es fs : List Entry) → AllByRecursion (IsEntryOf leaf) es → AllByRecursion (IsEntryOf leaf) fs → definitions es ≡ definitions fs → length (values es) ≡ length (values fs)
same_count leaf [] [] p q e = refl
same_count leaf [] (f ∷ fs) p q e = cc
same_count leaf (x ∷ es) [] p q e = cc
same_count leaf (x ∷ es) (f ∷ fs) p q e =
    let levels = firsts x.definition f.definition (definitions es) (definitions fs) e in
    by x.definition f.definition x.value f.value levels.0 p.0.value q.0.value (same_count leaf es fs p.1 q.1 levels.1)
  where
    by : (c d : ℕ) (a b : Option ValueTree) → c ≡ d → IsThere leaf.greatest_definition leaf.leaf_type c a → IsThere leaf.greatest_definition leaf.leaf_type d b → length (values es) ≡ length (values fs)
        → length (values (made 0 0 a ∷ es)) ≡ length (values (made 0 0 b ∷ fs))
    by c d None None e p q rest = rest
    by c d None (Some w) e p q rest = absurd (let g = q.0 in omega (arith, e, p, g))
    by c d (Some v) None e p q rest = absurd (let g = p.0 in omega (arith, e, q, g))
    by c d (Some v) (Some w) e p q rest = omega (arith, rest)

-- entries are known by their levels and their values
same_entries : (leaf : Leaf) (es fs : List Entry) → AllByRecursion (IsEntryOf leaf) es → AllByRecursion (IsEntryOf leaf) fs → repetitions es ≡ repetitions fs → definitions es ≡ definitions fs → values es ≡ values fs → es ≡ fs
same_entries leaf [] [] p q rs ds vs = refl
same_entries leaf [] (f ∷ fs) p q rs ds vs = cc
same_entries leaf (x ∷ es) [] p q rs ds vs = cc
same_entries leaf (x ∷ es) (f ∷ fs) p q rs ds vs =
    let r = firsts x.repetition f.repetition (repetitions es) (repetitions fs) rs in
    let d = firsts x.definition f.definition (definitions es) (definitions fs) ds in
    by x.repetition f.repetition x.definition f.definition x.value f.value r.0 d.0 p.0.value q.0.value vs (λ same. same_entries leaf es fs p.1 q.1 r.1 d.1 same)
  where
    joined : (r s c d : ℕ) (a b : Option ValueTree) → r ≡ s → c ≡ d → a ≡ b → es ≡ fs → made r c a ∷ es ≡ made s d b ∷ fs
    joined r s c d a b er ed ev e =
        ap (λ (n : ℕ). made n c a ∷ es) er ∙ ap (λ (n : ℕ). made s n a ∷ es) ed ∙ ap (λ (o : Option ValueTree). made s d o ∷ es) ev ∙ ap (λ (t : List Entry). made s d b ∷ t) e

    by : (r s c d : ℕ) (a b : Option ValueTree) → r ≡ s → c ≡ d → IsThere leaf.greatest_definition leaf.leaf_type c a → IsThere leaf.greatest_definition leaf.leaf_type d b
        → values (made r c a ∷ es) ≡ values (made s d b ∷ fs) → (values es ≡ values fs → es ≡ fs) → made r c a ∷ es ≡ made s d b ∷ fs
    by r s c d None None er ed p q vs rest = joined r s c d None None er ed refl (rest vs)
    by r s c d None (Some w) er ed p q vs rest = absurd (let g = q.0 in omega (arith, ed, p, g))
    by r s c d (Some v) None er ed p q vs rest = absurd (let g = p.0 in omega (arith, ed, q, g))
    by r s c d (Some v) (Some w) er ed p q vs rest =
        let v_is = first_value v w (values es) (values fs) vs in
        joined r s c d (Some v) (Some w) er ed (ap (λ (t : ValueTree). Some t) v_is.0) (rest v_is.1)

one_entries : ListsAreOne → (leaf : Leaf) (d : Option (List ValueTree)) (e : Option Encoding) (text : List ℕ) (es fs : List Entry) → AllByRecursion (IsEntryOf leaf) es → AllByRecursion (IsEntryOf leaf) fs
    → repetitions es ≡ repetitions fs → definitions es ≡ definitions fs → Spell (AreValues d leaf.leaf_type.kind e) text (values es) → Spell (AreValues d leaf.leaf_type.kind e) text (values fs) → es ≡ fs
one_entries laws leaf d e text es fs p q rs ds a b =
    same_entries leaf es fs p q rs ds (one_spelled laws d leaf.leaf_type.kind e text (values es) (values fs) (same_count leaf es fs p q ds) a b)

-- ---- bodies

-- the same levels, and the same text behind them
abbrev pub IsOneText : List ℕ → List ℕ → List ℕ → List ℕ → List ℕ → List ℕ → Type 0
IsOneText rs us ds cs text behind = (rs ≡ us) × (ds ≡ cs) × (text ≡ behind)

pub one_text_v1 : HybridsAreOne → (leaf : Leaf) (h : DataPageHeader) (body rs us ds cs text behind : List ℕ) → AreLevelsV1 leaf h body rs ds text → AreLevelsV1 leaf h body us cs behind → IsOneText rs us ds cs text behind
one_text_v1 law leaf h body rs us ds cs text behind p q =
    let a = p.count in
    let b = q.count in
    let size : length ds ≡ length cs = cc in
    let first = one_section_v1 law leaf.greatest_repetition h.repetition_level_encoding body rs us p.between q.between (p.paired ∙ size ∙ sym q.paired) p.first q.first in
    let second = one_section_v1 law leaf.greatest_definition h.definition_level_encoding q.between ds cs text behind size
    (subst (λ (t : List ℕ). IsSectionV1 leaf.greatest_definition h.definition_level_encoding t ds text) first.1 p.second) q.second in
    (first.0, second.0, second.1)

pub one_text_v2 : HybridsAreOne → (leaf : Leaf) (h : DataPageHeaderV2) (body rs us ds cs text behind : List ℕ) → AreLevelsV2 leaf h body rs ds text → AreLevelsV2 leaf h body us cs behind → IsOneText rs us ds cs text behind
one_text_v2 law leaf h body rs us ds cs text behind p q =
    let a = p.count in
    let b = q.count in
    let size : length ds ≡ length cs = cc in
    let first = one_section_v2 law leaf.greatest_repetition h.repetition_levels_byte_length body rs us p.between q.between (p.paired ∙ size ∙ sym q.paired) p.first q.first in
    let second = one_section_v2 law leaf.greatest_definition h.definition_levels_byte_length q.between ds cs text behind size
    (subst (λ (t : List ℕ). IsSectionV2 leaf.greatest_definition h.definition_levels_byte_length t ds text) first.1 p.second) q.second in
    (first.0, second.0, second.1)

one_body_v1 : ListsAreOne → (leaf : Leaf) (d : Option (List ValueTree)) (h : DataPageHeader) (body : List ℕ) (es fs : List Entry) → IsBodyV1 leaf d h body es → IsBodyV1 leaf d h body fs → es ≡ fs
one_body_v1 laws leaf d h body es fs p q =
    let same = one_text_v1 laws.hybrid leaf h body (repetitions es) (repetitions fs) (definitions es) (definitions fs) p.text q.text p.levels q.levels in
    one_entries laws leaf d (encoding_of h.encoding) q.text es fs p.each q.each same.0 same.1 (subst (λ (t : List ℕ). Spell (AreValues d leaf.leaf_type.kind (encoding_of h.encoding)) t (values es)) same.2 p.spelled) q.spelled

one_body_v2 : ListsAreOne → (leaf : Leaf) (d : Option (List ValueTree)) (h : DataPageHeaderV2) (body : List ℕ) (es fs : List Entry) → IsBodyV2 leaf d h body es → IsBodyV2 leaf d h body fs → es ≡ fs
one_body_v2 laws leaf d h body es fs p q =
    let same = one_text_v2 laws.hybrid leaf h body (repetitions es) (repetitions fs) (definitions es) (definitions fs) p.text q.text p.levels q.levels in
    one_entries laws leaf d (encoding_of h.encoding) q.text es fs p.each q.each same.0 same.1 (subst (λ (t : List ℕ). Spell (AreValues d leaf.leaf_type.kind (encoding_of h.encoding)) t (values es)) same.2 p.spelled) q.spelled

one_dictionary : PlainsAreOne → (kind : Kind) (h : DictionaryPageHeader) (body : List ℕ) (vs ws : List ValueTree) → IsDictionaryBody kind h body vs → IsDictionaryBody kind h body ws → vs ≡ ws
one_dictionary plain kind h body vs ws p q =
    let a = p.count in
    let b = q.count in
    let size : length vs ≡ length ws = cc in
    (plain kind (length ws) body vs ws p.spelled.0 q.spelled.0 (subst (λ (n : ℕ). IsPlain kind n body vs p.spelled.0) size p.spelled.1) q.spelled.1).0

one_body : ListsAreOne → (leaf : Leaf) (d : Option (List ValueTree)) (h : PageHeader) (body : List ℕ) (p q : Page) → IsBody leaf d h body p → IsBody leaf d h body q → p ≡ q
one_body laws leaf d h body skipped skipped a b = refl
one_body laws leaf d h body skipped (dictionary ws) a b = absurd (a.1 b.1)
one_body laws leaf d h body skipped (entries fs) a (inl b) = absurd (a.0 b.1)
one_body laws leaf d h body skipped (entries fs) a (inr b) = absurd (a.2 b.1)
one_body laws leaf d h body (dictionary vs) skipped a b = absurd (b.1 a.1)
one_body laws leaf d h body (dictionary vs) (dictionary ws) a b =
    let x = a.2 in
    let y = b.2 in
    let same : a.0 ≡ b.0 = cc in
    ap (λ (t : List ValueTree). dictionary t) (one_dictionary laws.plain leaf.leaf_type.kind b.0 body vs ws (subst (λ (o : DictionaryPageHeader). IsDictionaryBody leaf.leaf_type.kind o body vs) same a.3) b.3)
one_body laws leaf d h body (dictionary vs) (entries fs) a (inl b) = let x = a.1 in let y = b.1 in cc
one_body laws leaf d h body (dictionary vs) (entries fs) a (inr b) = let x = a.1 in let y = b.1 in cc
one_body laws leaf d h body (entries es) skipped (inl a) b = absurd (b.0 a.1)
one_body laws leaf d h body (entries es) skipped (inr a) b = absurd (b.2 a.1)
one_body laws leaf d h body (entries es) (dictionary ws) (inl a) b = let x = a.1 in let y = b.1 in cc
one_body laws leaf d h body (entries es) (dictionary ws) (inr a) b = let x = a.1 in let y = b.1 in cc
one_body laws leaf d h body (entries es) (entries fs) (inl a) (inl b) =
    let x = a.2 in
    let y = b.2 in
    let same : a.0 ≡ b.0 = cc in
    ap (λ (t : List Entry). entries t) (one_body_v1 laws leaf d b.0 body es fs (subst (λ (o : DataPageHeader). IsBodyV1 leaf d o body es) same a.3) b.3)
one_body laws leaf d h body (entries es) (entries fs) (inl a) (inr b) = let x = a.1 in let y = b.1 in cc
one_body laws leaf d h body (entries es) (entries fs) (inr a) (inl b) = let x = a.1 in let y = b.1 in cc
one_body laws leaf d h body (entries es) (entries fs) (inr a) (inr b) =
    let x = a.2 in
    let y = b.2 in
    let same : a.0 ≡ b.0 = cc in
    ap (λ (t : List Entry). entries t) (one_body_v2 laws leaf d b.0 body es fs (subst (λ (o : DataPageHeaderV2). IsBodyV2 leaf d o body es) same a.3) b.3)

-- ---- the page

pub one_page : ListsAreOne → IsFunctional (StandsFor page_header) → (leaf : Leaf) (d : Option (List ValueTree)) → IsFunctional (IsPage leaf d)
one_page laws one leaf d bytes p q used taken a b =
    let frame = of_frame leaf d bytes a.header a.body used q taken one a.framed b in
    (one_body laws leaf d a.header a.body p q a.stands_for frame.0, sym frame.1)
