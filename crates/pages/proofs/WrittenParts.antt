-- A header and the parts of a body.
use Rattle.std.proofs.Common.{◌≡◌, ℕ, zero, suc, ◌+◌, ◌≤◌, List, ◌++◌, length, take, drop, Some, refl, sym, ap, subst, ◌∙◌, arith, append_assoc, pos, true}
use Rattle.std.proofs.lemmas.List.{length-append, take_at, drop_at}
use Rattle.bits.specs.Codec.{Appends}
use Rattle.thrift_compact.specs.Compact.{IsThrift}
use Rattle.schema.specs.Stripe.{Leaf}
use Rattle.metadata.specs.Records.{PageHeader}
use Rattle.metadata.specs.FromTree.{page_header, has_own_header}
use Rattle.metadata.specs.ToTree.{page_header_fields}
use Rattle.pages.specs.declared.encoding.Encoding.{Encoding}
use Rattle.pages.specs.declared.page_version.PageVersion.{PageVersion}
use Rattle.pages.specs.declared.page_version.PageVersion.TheVariants.{V1, V2}
use Rattle.pages.specs.declared.header_writing.DataPageHead.{DataPageHead}
use Rattle.pages.specs.declared.header_writing.SectionSizes.{SectionSizes}
use Rattle.pages.specs.Greatest.{most_of_page}
use Rattle.pages.specs.Headers.{data_header, section, body_of}
use Rattle.pages.specs.inner.Put.{before, AreParts, header_of, IsDataPage}
use Rattle.pages.proofs.WrittenHeaders.{has_own_data, headed}

pub length-section : (version : PageVersion) (g : ℕ) (inside : List ℕ) → length (section version g inside) ≡ before version g + length inside
length-section V1 zero inside = omega arith
length-section V1 (suc g) inside = omega arith
length-section V2 g inside = omega arith

pub few_before : (version : PageVersion) (g : ℕ) → before version g ≤ 4
few_before V1 zero = omega arith
few_before V1 (suc g) = omega arith
few_before V2 g = omega arith

pub length-body : (version : PageVersion) (leaf : Leaf) (r d text : List ℕ)
    → length (body_of version leaf r d text) ≡ before version leaf.greatest_repetition + length r + before version leaf.greatest_definition + length d + length text
length-body version leaf r d text =
    let a = length-append (section version leaf.greatest_repetition r) (section version leaf.greatest_definition d ++ text) in
    let b = length-append (section version leaf.greatest_definition d) text in
    omega (arith, a, b, length-section version leaf.greatest_repetition r, length-section version leaf.greatest_definition d)

data_size : (version : PageVersion) (encoding : Encoding) (count nulls rows size r d : ℕ) → (data_header version encoding count nulls rows size r d).compressed_page_size ≡ pos size
data_size V1 encoding count nulls rows size r d = refl
data_size V2 encoding count nulls rows size r d = refl

-- the parts of what was split
pub split_first : (parts : List ℕ) (sizes : SectionSizes) (r d text : List ℕ) → AreParts parts sizes r d text → take sizes.repetitions parts ≡ r
split_first parts sizes r d text p = ap (take sizes.repetitions) p.joined ∙ take_at r (d ++ text) sizes.repetitions (sym p.first)

pub split_rest : (parts : List ℕ) (sizes : SectionSizes) (r d text : List ℕ) → AreParts parts sizes r d text → drop sizes.repetitions parts ≡ d ++ text
split_rest parts sizes r d text p = ap (drop sizes.repetitions) p.joined ∙ drop_at r (d ++ text) sizes.repetitions (sym p.first)

pub split_second : (parts : List ℕ) (sizes : SectionSizes) (r d text : List ℕ) → AreParts parts sizes r d text → take sizes.definitions (drop sizes.repetitions parts) ≡ d
split_second parts sizes r d text p = ap (take sizes.definitions) (split_rest parts sizes r d text p) ∙ take_at d text sizes.definitions (sym p.second)

pub split_last : (parts : List ℕ) (sizes : SectionSizes) (r d text : List ℕ) → AreParts parts sizes r d text → drop sizes.definitions (drop sizes.repetitions parts) ≡ text
split_last parts sizes r d text p = ap (drop sizes.definitions) (split_rest parts sizes r d text p) ∙ drop_at d text sizes.definitions (sym p.second)

-- how many bytes a body has whose parts have so many
pub parts_size : (parts : List ℕ) (sizes : SectionSizes) (r d text : List ℕ) → AreParts parts sizes r d text → length parts ≡ length r + length d + length text
parts_size parts sizes r d text p = omega (arith, ap length p.joined, length-append r (d ++ text), length-append d text)

-- the header, and then the sections and the values
pub data_page : (leaf : Leaf) (head : DataPageHead) (parts : List ℕ) (sizes : SectionSizes) (size : ℕ) (old mid new : List ℕ)
    → ((h : PageHeader) → has_own_header h ≡ true → page_header (page_header_fields h) ≡ Some h)
    → size ≡ length parts + (before head.version leaf.greatest_repetition + before head.version leaf.greatest_definition) → size ≤ most_of_page → head.entries ≤ most_of_page
    → Appends (λ bytes. IsThrift bytes (page_header_fields (data_header head.version head.encoding head.entries head.nulls head.rows size sizes.repetitions sizes.definitions))) 128 old mid
    → new ≡ ((mid ++ section head.version leaf.greatest_repetition (take sizes.repetitions parts)) ++ section head.version leaf.greatest_definition (take sizes.definitions (drop sizes.repetitions parts))) ++ drop sizes.definitions (drop sizes.repetitions parts)
    → (r d text : List ℕ) → AreParts parts sizes r d text → IsDataPage leaf head r d text old new
data_page leaf head parts sizes size old mid new again sized small few p joined r d text are =
    let version = head.version in
    let body = body_of version leaf r d text in
    let rs = section version leaf.greatest_repetition r in
    let ds = section version leaf.greatest_definition d in
    let long : size ≡ length body = omega (arith, sized, parts_size parts sizes r d text are, length-body version leaf r d text) in
    let one = subst (λ (n : ℕ). Appends (λ bytes. IsThrift bytes (page_header_fields (data_header version head.encoding head.entries head.nulls head.rows n sizes.repetitions sizes.definitions))) 128 old mid) long p in
    let two = subst (λ (n : ℕ). Appends (λ bytes. IsThrift bytes (page_header_fields (data_header version head.encoding head.entries head.nulls head.rows (length body) n sizes.definitions))) 128 old mid) are.first one in
    let put = subst (λ (n : ℕ). Appends (λ bytes. IsThrift bytes (page_header_fields (data_header version head.encoding head.entries head.nulls head.rows (length body) (length r) n))) 128 old mid) are.second two in
    let a : new ≡ ((mid ++ rs) ++ section version leaf.greatest_definition (take sizes.definitions (drop sizes.repetitions parts))) ++ drop sizes.definitions (drop sizes.repetitions parts)
    = joined ∙ ap (λ (t : List ℕ). ((mid ++ section version leaf.greatest_repetition t) ++ section version leaf.greatest_definition (take sizes.definitions (drop sizes.repetitions parts))) ++ drop sizes.definitions (drop sizes.repetitions parts)) (split_first parts sizes r d text are) in
    let b : new ≡ ((mid ++ rs) ++ ds) ++ drop sizes.definitions (drop sizes.repetitions parts) = a ∙ ap (λ (t : List ℕ). ((mid ++ rs) ++ section version leaf.greatest_definition t) ++ drop sizes.definitions (drop sizes.repetitions parts)) (split_second parts sizes r d text are) in
    let whole : new ≡ ((mid ++ rs) ++ ds) ++ text = b ∙ ap (λ (t : List ℕ). ((mid ++ rs) ++ ds) ++ t) (split_last parts sizes r d text are) in
    let after : new ≡ mid ++ body = whole ∙ append_assoc (mid ++ rs) ds text ∙ append_assoc mid rs (ds ++ text) in
    let h = header_of leaf head r d text in
    let q = headed h body old mid new (again h (has_own_data version head.encoding head.entries head.nulls head.rows (length body) (length r) (length d))) (data_size version head.encoding head.entries head.nulls head.rows (length body) (length r) (length d)) put after in
    record {
      stands = record { text = q.text; joined = q.joined; stands = q.stands; short = omega (arith, q.short, length-body version leaf r d text, few_before version leaf.greatest_repetition, few_before version leaf.greatest_definition) };
      small = omega (arith, long, small);
      few = few;
    }

-- a page is little longer than the greatest body
pub page_size : (leaf : Leaf) (head : DataPageHead) (r d text old new : List ℕ) → IsDataPage leaf head r d text old new → length new ≤ length old + 2147484671
page_size leaf head r d text old new p =
    let joined : length new ≡ length old + length p.stands.text = ap length p.stands.joined ∙ length-append old p.stands.text in
    let body = length-body head.version leaf r d text in
    omega (arith, joined, p.stands.short, p.small, body)
