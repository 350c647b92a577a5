-- PLAIN pages without levels that are written.
use Rattle.std.proofs.Common.{◌≡◌, ℕ, ◌+◌, ◌-◌, ◌^◌, ◌≤◌, ◌<◌, List, [], ◌++◌, length, Some, refl, sym, ap, subst, arith, inl, inr, true}
use Rattle.std.specs.Prelude.{◌⊎◌, All, min}
use Rattle.std.specs.List.{Any}
use Rattle.std.proofs.lemmas.List.{append-nil, length-append}
use Rattle.bits.specs.declared.refusal.Refusal.{Refusal}
use Rattle.bits.specs.declared.refusal.Refusal.TheVariants.{Limit, Memory}
use Rattle.bits.specs.Refusals.{HasCause}
use Rattle.bits.specs.Codec.{Appends}
use Rattle.thrift_compact.specs.Compact.{IsThrift}
use Rattle.schema.specs.declared.value.Kind.{Kind}
use Rattle.schema.specs.Values.{ValueTree}
use Rattle.schema.specs.Stripe.{Leaf, Entry}
use Rattle.metadata.specs.Records.{PageHeader}
use Rattle.metadata.specs.FromTree.{page_header, has_own_header}
use Rattle.metadata.specs.ToTree.{page_header_fields}
use Rattle.plain.specs.Plain.{IsPlain, HasZeroPadding, IsOfKind, IsTooLong, plain_size}
use Rattle.pages.specs.declared.encoding.Encoding.{Encoding}
use Rattle.pages.specs.declared.encoding.Encoding.TheVariants.{Plain}
use Rattle.pages.specs.declared.page_version.PageVersion.{PageVersion}
use Rattle.pages.specs.declared.page_version.PageVersion.TheVariants.{V1, V2}
use Rattle.pages.specs.declared.header_writing.DataPageHead.{DataPageHead}
use Rattle.pages.specs.Greatest.{most_of_page}
use Rattle.pages.specs.Headers.{data_header, section, rows_in, nulls_in, AreLevelsIn, IsWrittenPage}
use Rattle.pages.specs.Page.{repetitions, definitions, values}
use Rattle.pages.specs.Writing.{page_weight}
use Rattle.pages.specs.WrittenValues.{AreWritten, AreValuesIn}
use Rattle.pages.specs.inner.Put.{before, most_of_values, IsDataPage, IsPlainDataPage, IsOfPlainWriting}
use Rattle.pages.proofs.WrittenValues.{plain_put, plain_light}
use Rattle.pages.proofs.WrittenParts.{data_page}
use Rattle.pages.proofs.WrittenPages.{fills, entries_written}

none_before : (version : PageVersion) (g : ℕ) → g ≡ 0 → before version g ≡ 0
none_before V1 g none = rw none refl
none_before V2 g none = refl

no_section : (version : PageVersion) (g : ℕ) → g ≡ 0 → section version g [] ≡ []
no_section V1 g none = rw none refl
no_section V2 g none = refl

-- the header, and the bytes of the values after it
pub page_of_text : (leaf : Leaf) (head : DataPageHead) (text : List ℕ) (size : ℕ) (old mid new : List ℕ) → leaf.greatest_repetition ≡ 0 → leaf.greatest_definition ≡ 0
    → ((h : PageHeader) → has_own_header h ≡ true → page_header (page_header_fields h) ≡ Some h) → size ≡ length text → size ≤ most_of_page → head.entries ≤ most_of_page
    → Appends (λ bytes. IsThrift bytes (page_header_fields (data_header head.version head.encoding head.entries head.nulls head.rows size 0 0))) 128 old mid
    → new ≡ mid ++ text → IsDataPage leaf head [] [] text old new
page_of_text leaf head text size old mid new r d again long small few p after =
    let whole : size ≡ length text + (before head.version leaf.greatest_repetition + before head.version leaf.greatest_definition) = omega (arith, long, none_before head.version leaf.greatest_repetition r, none_before head.version leaf.greatest_definition d) in
    let a = no_section head.version leaf.greatest_repetition r in
    let b = no_section head.version leaf.greatest_definition d in
    let joined : new ≡ ((mid ++ section head.version leaf.greatest_repetition []) ++ section head.version leaf.greatest_definition []) ++ text
    = rw (a, b) (rw (append-nil mid, append-nil mid) after) in
    data_page leaf head text (record { repetitions = 0; definitions = 0 }) size old mid new again whole small few p joined [] [] text (record { joined = refl; first = refl; second = refl })

-- the header, and the values after it
pub plain_page : (leaf : Leaf) (head : DataPageHead) (vs : List ValueTree) (size : ℕ) (old mid new : List ℕ) → leaf.greatest_repetition ≡ 0 → leaf.greatest_definition ≡ 0
    → ((h : PageHeader) → has_own_header h ≡ true → page_header (page_header_fields h) ≡ Some h) → All (IsOfKind leaf.leaf_type.kind) vs
    → size ≡ min (plain_size leaf.leaf_type.kind vs) (2 ^ 64 - 1) → size ≤ most_of_page → head.entries ≤ most_of_page
    → Appends (λ bytes. IsThrift bytes (page_header_fields (data_header head.version head.encoding head.entries head.nulls head.rows size 0 0))) 128 old mid
    → Appends (λ bytes. IsPlain leaf.leaf_type.kind (length vs) bytes vs) (plain_size leaf.leaf_type.kind vs) mid new → Appends (HasZeroPadding leaf.leaf_type.kind (length vs)) (plain_size leaf.leaf_type.kind vs) mid new
    → length new ≡ length mid + plain_size leaf.leaf_type.kind vs → IsPlainDataPage leaf head vs old new
plain_page leaf head vs size old mid new r d again are sized small few p q z total =
    let kind = leaf.leaf_type.kind in
    let values = plain_put kind vs mid new are q z in
    let long : size ≡ length values.text = omega (arith, sized, small, total, ap length values.joined, length-append mid values.text) in
    record {
      text = values.text;
      spelled = fills (AreWritten kind Plain vs) (most_of_values vs) mid new values;
      short = values.short;
      page = page_of_text leaf head values.text size old mid new r d again long small few p values.joined;
    }

pub plain_too_much : (kind : Kind) (vs : List ValueTree) (size n : ℕ) → All (IsOfKind kind) vs → size ≡ min (plain_size kind vs) (2 ^ 64 - 1) → (most_of_page < size) ⊎ (most_of_page < n) → Any IsTooLong vs ⊎ (most_of_page < most_of_values vs) ⊎ (most_of_page < n)
plain_too_much kind vs size n are sized (inl big) = inr (inl (omega (arith, big, sized, plain_light kind vs are)))
plain_too_much kind vs size n are sized (inr many) = inr (inr many)

-- what the header is refused for, the page is
pub header_refused : (n : ℕ) (vs : List ValueTree) (e : Refusal) → HasCause (λ f. f ≡ Limit) e → (e ≡ Limit → Any IsTooLong vs ⊎ (most_of_page < most_of_values vs) ⊎ (most_of_page < n)) → HasCause (IsOfPlainWriting n vs) e
header_refused n vs Memory cause over = tt
header_refused n vs e cause over = subst (HasCause (IsOfPlainWriting n vs)) (sym cause) (over cause)

-- the page of these values is the page of the entries
pub plain_written : (leaf : Leaf) (head : DataPageHead) (es : List Entry) (vs : List ValueTree) (old new : List ℕ) → leaf.greatest_repetition ≡ 0 → leaf.greatest_definition ≡ 0 → head.encoding ≡ Plain → vs ≡ values es
    → head.entries ≡ length es → head.nulls ≡ nulls_in es → head.rows ≡ rows_in es → length (values es) ≤ length es
    → IsPlainDataPage leaf head vs old new → Appends (IsWrittenPage leaf head.version head.encoding (AreValuesIn leaf.leaf_type.kind head.encoding (values es)) es) (page_weight es) old new
plain_written leaf head es vs old new r d plain same entries_are nulls_are rows_are few p =
    let kind = leaf.leaf_type.kind in
    let here = subst (λ (t : List ValueTree). AreValuesIn kind Plain t p.text) same p.spelled in
    let spelled = subst (λ (e : Encoding). AreValuesIn kind e (values es) p.text) (sym plain) here in
    let short = subst (λ (t : List ValueTree). length p.text ≤ most_of_values t) same p.short in
    entries_written leaf head es (AreValuesIn kind head.encoding (values es)) (page_weight es) [] [] p.text old new entries_are nulls_are rows_are
    (subst (λ (g : ℕ). AreLevelsIn g (repetitions es) []) (sym r) refl) (subst (λ (g : ℕ). AreLevelsIn g (definitions es) []) (sym d) refl) spelled (omega (arith, short, few)) p.page
