-- Pages of values that were PLAIN bytes before.
use Rattle.std.proofs.Common.{◌≡◌, ℕ, ◌+◌, ◌*◌, ◌≤◌, ◌<◌, List, [], ◌∷◌, length, refl, sym, ap, subst, ◌∙◌, arith, inl, inr}
use Rattle.std.specs.Prelude.{◌⊎◌}
use Rattle.std.proofs.lemmas.List.{length-append, length-map}
use Rattle.std.proofs.Math.Nat.{mul_comm}
use Rattle.byteorder.specs.Endian.{little_bytes}
use Rattle.byteorder.specs.Numbers.{length-bytes_low_first}
use Rattle.bits.specs.Codec.{InTurn, Appends}
use Rattle.schema.specs.declared.value.Kind.{Kind}
use Rattle.schema.specs.declared.value.Kind.TheVariants.{Boolean, Int32, Int64, ByteArray, FixedLenByteArray}
use Rattle.schema.specs.Values.{ValueTree, bytes}
use Rattle.schema.specs.Stripe.{Leaf}
use Rattle.plain.specs.Plain.{IsSpelled, IsPlain, HasZeroPadding, plain_size, text_size}
use Rattle.plain.specs.Flat.{flat_entry, flat_entries}
use Rattle.plain.proofs.Lists.{plain_of_kind}
use Rattle.plain.proofs.Turned.{sized_used}
use Rattle.pages.specs.declared.encoding.Encoding.TheVariants.{Plain}
use Rattle.pages.specs.declared.page_version.PageVersion.{PageVersion}
use Rattle.pages.specs.declared.header_writing.DataPageHead.{DataPageHead}
use Rattle.pages.specs.Greatest.{most_of_page}
use Rattle.pages.specs.Headers.{nulls_in, IsWrittenPage}
use Rattle.pages.specs.Page.{values}
use Rattle.pages.specs.PlainBytes.{FillPlain}
use Rattle.pages.specs.Writing.{page_weight, IsPageTooMuch, heavy_page, StandsAsPage}
use Rattle.pages.specs.WrittenValues.{AreValuesIn}
use Rattle.pages.specs.inner.Put.{most_of_values, IsDataPage}
use Rattle.pages.proofs.WrittenValues.{plain_light}
use Rattle.pages.proofs.WrittenPages.{nulls_and_values, page_stands}
use Rattle.pages.proofs.WrittenPlain.{plain_written}
use Rattle.pages.proofs.FullEntries.{rows_are}

-- ---- how many bytes PLAIN values take

texts_used : (vs : List ValueTree) (body : List ℕ) (used : ℕ) → InTurn (IsSpelled ByteArray) body vs used → used ≡ 4 * length vs + text_size vs
texts_used [] body used p = omega (arith, p)
texts_used (bytes text ∷ vs) body used p =
    omega (arith, texts_used vs _ p.1 p.3, p.2.ends, p.4, length-append (little_bytes 4 (length text)) text, length-bytes_low_first 0 4 (length text))
texts_used (_ ∷ vs) body used p = absurd p.2.has

plain_used : (kind : Kind) (n : ℕ) (text : List ℕ) (vs : List ValueTree) (used : ℕ) → (kind ≡ Boolean → ⊥) → IsPlain kind n text vs used → used ≡ plain_size kind vs
plain_used Boolean n text vs used not p = absurd (not refl)
plain_used Int32 n text vs used not p = omega (arith, sized_used Int32 4 refl vs text used p.1)
plain_used Int64 n text vs used not p = omega (arith, sized_used Int64 8 refl vs text used p.1)
plain_used ByteArray n text vs used not p = texts_used vs text used p.1
plain_used (FixedLenByteArray k) n text vs used not p = sized_used (FixedLenByteArray k) k refl vs text used p.1 ∙ mul_comm (length vs) k

not_padded : (kind : Kind) (n : ℕ) (text : List ℕ) (used : ℕ) → (kind ≡ Boolean → ⊥) → HasZeroPadding kind n text used
not_padded Boolean n text used not = absurd (not refl)
not_padded Int32 n text used not = tt
not_padded Int64 n text used not = tt
not_padded ByteArray n text used not = tt
not_padded (FixedLenByteArray k) n text used not = tt

-- they take no more than they weigh
light : (leaf : Leaf) (count : ℕ) (vs : List ValueTree) (text : List ℕ) → FillPlain leaf count vs text → length text ≤ most_of_values vs
light leaf count vs text p =
    let kind = leaf.leaf_type.kind in
    omega (arith, plain_used kind count text vs (length text) p.whole_bytes p.spelled, plain_light kind vs (plain_of_kind kind count text vs (length text) p.spelled))

written_in : (leaf : Leaf) (count : ℕ) (vs : List ValueTree) (text : List ℕ) → FillPlain leaf count vs text → AreValuesIn leaf.leaf_type.kind Plain vs text
written_in leaf count vs text p =
    let kind = leaf.leaf_type.kind in
    (subst (λ (n : ℕ). IsPlain kind n text vs (length text)) p.counted p.spelled, not_padded kind (length vs) text (length text) p.whole_bytes)

-- ---- entries without levels

values_flat : (vs : List ValueTree) → values (flat_entries vs) ≡ vs
values_flat [] = refl
values_flat (v ∷ vs) = ap (λ (t : List ValueTree). v ∷ t) (values_flat vs)

flat_count : (vs : List ValueTree) → length (flat_entries vs) ≡ length vs
flat_count vs = length-map vs flat_entry

no_nulls : (vs : List ValueTree) → 0 ≡ nulls_in (flat_entries vs)
no_nulls vs = omega (arith, nulls_and_values (flat_entries vs), ap length (values_flat vs), flat_count vs)

-- ---- their page

-- the head of a page of so many values
abbrev pub plain_head : PageVersion → ℕ → DataPageHead
plain_head version count = record { version = version; encoding = Plain; entries = count; nulls = 0; rows = count }

-- a header and the bytes of the values are the page of the entries
pub copied_page : (leaf : Leaf) (version : PageVersion) (count : ℕ) (vs : List ValueTree) (text old new : List ℕ) → leaf.greatest_repetition ≡ 0 → leaf.greatest_definition ≡ 0 → FillPlain leaf count vs text
    → IsDataPage leaf (plain_head version count) [] [] text old new
    → Appends (IsWrittenPage leaf version Plain (AreValuesIn leaf.leaf_type.kind Plain vs) (flat_entries vs)) (page_weight (flat_entries vs)) old new
copied_page leaf version count vs text old new r d fill page =
    let es = flat_entries vs in
    let counted : count ≡ length es = fill.counted ∙ sym (flat_count vs) in
    subst (λ (t : List ValueTree). Appends (IsWrittenPage leaf version Plain (AreValuesIn leaf.leaf_type.kind Plain t) es) (page_weight es) old new) (values_flat vs)
    (plain_written leaf (plain_head version count) es vs old new r d refl (sym (values_flat vs)) counted (no_nulls vs) (counted ∙ sym (rows_are leaf es r fill.of_leaf)) (omega (arith, ap length (values_flat vs), flat_count vs))
    (record { text = text; spelled = written_in leaf count vs text fill; short = light leaf count vs text fill; page = page }))

pub copied_page_stands : (leaf : Leaf) (version : PageVersion) (count : ℕ) (vs : List ValueTree) (text old new : List ℕ) → leaf.greatest_repetition ≡ 0 → leaf.greatest_definition ≡ 0 → FillPlain leaf count vs text
    → IsDataPage leaf (plain_head version count) [] [] text old new
    → Appends (StandsAsPage leaf (flat_entries vs)) (page_weight (flat_entries vs)) old new
copied_page_stands leaf version count vs text old new r d fill page =
    let es = flat_entries vs in
    page_stands leaf version Plain es old new fill.of_leaf
    (subst (λ (t : List ValueTree). Appends (IsWrittenPage leaf version Plain (AreValuesIn leaf.leaf_type.kind Plain t) es) (page_weight es) old new) (sym (values_flat vs)) (copied_page leaf version count vs text old new r d fill page))

-- what is over the limit of a page weighs too much
pub copied_too_much : (leaf : Leaf) (count : ℕ) (vs : List ValueTree) (text : List ℕ) → FillPlain leaf count vs text → (most_of_page < length text) ⊎ (most_of_page < count) → IsPageTooMuch (flat_entries vs)
copied_too_much leaf count vs text fill (inl big) = heavy_page (omega (arith, big, light leaf count vs text fill, flat_count vs, ap text_size (values_flat vs)))
copied_too_much leaf count vs text fill (inr many) = heavy_page (omega (arith, many, fill.counted, flat_count vs))
