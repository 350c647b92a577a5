-- What is written is a page of its entries.
use Rattle.std.proofs.Common.{◌≡◌, ℕ, zero, suc, ◌+◌, ◌^◌, ◌≤◌, ◌<◌, List, [], ◌∷◌, ◌++◌, length, Option, Some, None, refl, sym, ap, subst, ◌∙◌, arith, append_assoc, inl, inr, pos, false}
use Rattle.std.specs.Prelude.{◌↔◌, All, IsTrue, MatchOption, slice_get}
use Rattle.std.specs.List.{Any, AllByRecursion}
use Rattle.std.proofs.lemmas.List.{append-nil, length-map}
use Rattle.std.proofs.lemmas.List.Elements.{All-from_recursion}
use Rattle.bits.specs.Codec.{Appends}
use Rattle.schema.specs.declared.value.Kind.{Kind}
use Rattle.schema.specs.declared.value.Kind.TheVariants.{Boolean, Int32, Int64, ByteArray, FixedLenByteArray}
use Rattle.schema.specs.Values.{ValueTree}
use Rattle.schema.specs.Stripe.{Leaf, Entry}
use Rattle.schema.specs.Fits.{fits_kind, fits_leaf}
use Rattle.schema.specs.Law.{IsEntryOf}
use Rattle.plain.specs.Plain.{IsOfKind, IsTooLong}
use Rattle.dictionary.specs.Entries.{AreEntriesAt}
use Rattle.dictionary.specs.IndexPages.{IsIndexPage}
use Rattle.pages.specs.declared.encoding.Encoding.{Encoding}
use Rattle.pages.specs.declared.encoding.Encoding.TheVariants.{Plain, Rle, DeltaBinaryPacked, DeltaLengthByteArray, DeltaByteArray, PlainDictionary, BitPacked, RleDictionary, ByteStreamSplit}
use Rattle.pages.specs.declared.page_version.PageVersion.{PageVersion}
use Rattle.pages.specs.declared.page_version.PageVersion.TheVariants.{V1, V2}
use Rattle.pages.specs.Encodings.{encoding_of, AreValues}
use Rattle.pages.specs.Page.{IsPage, entries, AreZero, IsSectionV1, IsSectionV2, AreLevelsV1, AreLevelsV2, repetitions, definitions, values}
use Rattle.pages.specs.declared.header_writing.DataPageHead.{DataPageHead}
use Rattle.pages.specs.declared.header_writing.SectionSizes.{SectionSizes}
use Rattle.pages.specs.Headers.{number_of, data_header, section, body_of, rows_in, nulls_in, AreLevelsIn, IsHeaded, IsWrittenPage}
use Rattle.pages.specs.Writing.{page_weight, index_weight, StandsAsPage, StandsByIndexes}
use Rattle.pages.specs.WrittenValues.{AreValuesIn, AreIndexesIn}
use Rattle.pages.specs.inner.Put.{AreSections, AreParts, IsDataPage}
use Rattle.pages.proofs.Texts.{kinds_of_fit}
use Rattle.pages.proofs.WrittenLevels.{repetitions_within, definitions_within}
use Rattle.pages.proofs.WrittenParts.{length-body}

encoding_again : (encoding : Encoding) → encoding_of (pos (number_of encoding)) ≡ Some encoding
encoding_again Plain = refl
encoding_again PlainDictionary = refl
encoding_again Rle = refl
encoding_again BitPacked = refl
encoding_again DeltaBinaryPacked = refl
encoding_again DeltaLengthByteArray = refl
encoding_again DeltaByteArray = refl
encoding_again RleDictionary = refl
encoding_again ByteStreamSplit = refl

-- ---- levels

none_above : (levels : List ℕ) → AllByRecursion (λ l. l ≤ 0) levels → AreZero levels
none_above [] within = tt
none_above (l ∷ levels) (here, within) = (omega (arith, here), none_above levels within)

section_v1 : (g : ℕ) (levels inside behind : List ℕ) → AllByRecursion (λ l. l ≤ g) levels → length inside < 2 ^ 32 → AreLevelsIn g levels inside → IsSectionV1 g (Some (pos 3)) (section V1 g inside ++ behind) levels behind
section_v1 zero levels inside behind within small none = (none_above levels within, sym (ap (λ (t : List ℕ). t ++ behind) none))
section_v1 (suc g) levels inside behind within small p = (inr refl, (inside, record { short = small; joined = refl }, p.0))

section_v2 : (g : ℕ) (levels inside behind : List ℕ) → AllByRecursion (λ l. l ≤ g) levels → AreLevelsIn g levels inside → IsSectionV2 g (pos (length inside)) (inside ++ behind) levels behind
section_v2 zero levels inside behind within none = (inside, refl, refl, none_above levels within)
section_v2 (suc g) levels inside behind within p = (inside, refl, refl, p.0)

counted : (es : List Entry) → pos (length es) ≡ pos (length (definitions es))
counted es = ap pos (sym (length-map es (λ e. e.definition)))

paired : (es : List Entry) → length (repetitions es) ≡ length (definitions es)
paired es = length-map es (λ e. e.repetition) ∙ sym (length-map es (λ e. e.definition))

-- ---- pages

-- a page that is written stands for its entries, where its values stand in their section
pub written_page : (leaf : Leaf) (version : PageVersion) (encoding : Encoding) (Are : List ℕ → Type 0) (es : List Entry) (bytes : List ℕ) (used : ℕ) (d : Option (List ValueTree)) → AllByRecursion (IsEntryOf leaf) es
    → (p : IsWrittenPage leaf version encoding Are es bytes used) → AreValues d leaf.leaf_type.kind (Some encoding) p.text (values es) → IsPage leaf d bytes (entries es) used
written_page leaf V1 encoding Are es bytes used d each p spelled =
    let size = length-body V1 leaf p.repetition_bytes p.definition_bytes p.text in
    let first_small : length p.repetition_bytes < 2 ^ 32 = omega (arith, size, p.small) in
    let second_small : length p.definition_bytes < 2 ^ 32 = omega (arith, size, p.small) in
    let levels : AreLevelsV1 leaf (record { num_values = pos (length es); encoding = pos (number_of encoding); definition_level_encoding = Some (pos 3); repetition_level_encoding = Some (pos 3); statistics = None }) (body_of V1 leaf p.repetition_bytes p.definition_bytes p.text) (repetitions es) (definitions es) p.text = record {
      count = counted es;
      paired = paired es;
      between = section V1 leaf.greatest_definition p.definition_bytes ++ p.text;
      first = section_v1 leaf.greatest_repetition (repetitions es) p.repetition_bytes (section V1 leaf.greatest_definition p.definition_bytes ++ p.text) (repetitions_within leaf es each) first_small p.first;
      second = section_v1 leaf.greatest_definition (definitions es) p.definition_bytes p.text (definitions_within leaf es each) second_small p.second;
    } in
    record {
      header = _;
      body = body_of V1 leaf p.repetition_bytes p.definition_bytes p.text;
      framed = p.headed.framed;
      stands_for = inl (_, refl, refl, record { text = p.text; levels = levels; each = each; spelled = inr (subst (λ (e : Option Encoding). AreValues d leaf.leaf_type.kind e p.text (values es)) (sym (encoding_again encoding)) spelled) });
    }
written_page leaf V2 encoding Are es bytes used d each p spelled =
    let levels : AreLevelsV2 leaf (record { num_values = pos (length es); num_nulls = Some (pos (nulls_in es)); num_rows = Some (pos (rows_in es)); encoding = pos (number_of encoding); definition_levels_byte_length = pos (length p.definition_bytes); repetition_levels_byte_length = pos (length p.repetition_bytes); is_compressed = Some false; statistics = None }) (body_of V2 leaf p.repetition_bytes p.definition_bytes p.text) (repetitions es) (definitions es) p.text = record {
      count = counted es;
      paired = paired es;
      between = p.definition_bytes ++ p.text;
      first = section_v2 leaf.greatest_repetition (repetitions es) p.repetition_bytes (p.definition_bytes ++ p.text) (repetitions_within leaf es each) p.first;
      second = section_v2 leaf.greatest_definition (definitions es) p.definition_bytes p.text (definitions_within leaf es each) p.second;
    } in
    record {
      header = _;
      body = body_of V2 leaf p.repetition_bytes p.definition_bytes p.text;
      framed = p.headed.framed;
      stands_for = inr (_, refl, refl, record { text = p.text; levels = levels; each = each; spelled = inr (subst (λ (e : Option Encoding). AreValues d leaf.leaf_type.kind e p.text (values es)) (sym (encoding_again encoding)) spelled) });
    }

-- values that are written stand in the table of encodings
pub values_stand : (d : Option (List ValueTree)) (kind : Kind) (encoding : Encoding) (vs : List ValueTree) (text : List ℕ) → AreValuesIn kind encoding vs text → AreValues d kind (Some encoding) text vs
values_stand d kind Plain vs text p = (length text, p.0)
values_stand d Boolean Rle vs text p = record { bools = p.bools; inside = p.inside; rest = p.rest; used = length p.inside; are = p.are; prefixed = p.prefixed; packed = p.packed }
values_stand d Int32 DeltaBinaryPacked vs text p = (p.numbers, length text, p.are, p.stand)
values_stand d Int64 DeltaBinaryPacked vs text p = (p.numbers, length text, p.are, p.stand)
values_stand d ByteArray DeltaLengthByteArray vs text p = (length text, p.stand)
values_stand d ByteArray DeltaByteArray vs text p = (length text, p.stand)
values_stand d (FixedLenByteArray n) DeltaByteArray vs text p = (length text, p.stand)
values_stand d kind ByteStreamSplit vs text p = (length text, p)
values_stand d kind encoding vs text p = absurd p

-- so do indexes, in a chunk with their dictionary
pub indexes_stand : (d : List ValueTree) (kind : Kind) (size : ℕ) (indexes text : List ℕ) (vs : List ValueTree) → length d ≡ size → AreEntriesAt d indexes vs → IsIndexPage size text (length indexes) indexes (length text) → AreValues (Some d) kind (Some RleDictionary) text vs
indexes_stand d kind size indexes text vs sized are p =
    let count : length indexes ≡ length vs = sym (length-map indexes (λ i. slice_get d i)) ∙ ap length are ∙ length-map vs (λ v. Some v) in (
      length text,
      record {
        indexes = indexes;
        stand = subst (λ (n : ℕ). IsIndexPage n text (length vs) indexes (length text)) (sym sized) (subst (λ (n : ℕ). IsIndexPage size text n indexes (length text)) count p);
        are = are;
      },
    )

-- ---- from the parts

-- each entry has a value or none
nulls_here : (r d : ℕ) (o : Option ValueTree) (es : List Entry) → nulls_in es + length (values es) ≡ length es
    → nulls_in (record { repetition = r; definition = d; value = o } ∷ es) + length (values (record { repetition = r; definition = d; value = o } ∷ es)) ≡ suc (length es)
nulls_here r d None es rest = omega (arith, rest)
nulls_here r d (Some v) es rest = omega (arith, rest)

pub nulls_and_values : (es : List Entry) → nulls_in es + length (values es) ≡ length es
nulls_and_values [] = omega arith
nulls_and_values (e ∷ es) = nulls_here e.repetition e.definition e.value es (nulls_and_values es)

-- the page of these parts is the page of the entries
pub entries_written : (leaf : Leaf) (head : DataPageHead) (es : List Entry) (Are : List ℕ → Type 0) (most : ℕ) (r d text old new : List ℕ) → head.entries ≡ length es → head.nulls ≡ nulls_in es → head.rows ≡ rows_in es
    → AreLevelsIn leaf.greatest_repetition (repetitions es) r → AreLevelsIn leaf.greatest_definition (definitions es) d → Are text
    → 136 + length r + length d + length text ≤ most → IsDataPage leaf head r d text old new → Appends (IsWrittenPage leaf head.version head.encoding Are es) most old new
entries_written leaf head es Are most r d text old new entries_are nulls_are rows_are first second spelled light p =
    let body = body_of head.version leaf r d text in
    let a = subst (λ (n : ℕ). Appends (IsHeaded (data_header head.version head.encoding n head.nulls head.rows (length body) (length r) (length d)) body) (136 + length r + length d + length text) old new) entries_are p.stands in
    let b = subst (λ (n : ℕ). Appends (IsHeaded (data_header head.version head.encoding (length es) n head.rows (length body) (length r) (length d)) body) (136 + length r + length d + length text) old new) nulls_are a in
    let q = subst (λ (n : ℕ). Appends (IsHeaded (data_header head.version head.encoding (length es) (nulls_in es) n (length body) (length r) (length d)) body) (136 + length r + length d + length text) old new) rows_are b in
    record {
      text = q.text;
      joined = q.joined;
      stands = λ more. record { repetition_bytes = r; definition_bytes = d; text = text; first = first; second = second; spelled = spelled; small = p.small; headed = q.stands more };
      short = omega (arith, q.short, light);
    }

-- the sections and the values after them, as parts
pub parts_are : (leaf : Leaf) (es : List Entry) (mid parts text : List ℕ) (sizes : SectionSizes) → (p : AreSections leaf es mid sizes.repetitions sizes.definitions) → parts ≡ mid ++ text → AreParts parts sizes p.repetition_bytes p.definition_bytes text
parts_are leaf es mid parts text sizes p joined = record {
  joined = joined ∙ ap (λ (t : List ℕ). t ++ text) p.joined ∙ append_assoc p.repetition_bytes p.definition_bytes text;
  first = p.first_size;
  second = p.second_size;
}

-- what stands whatever follows, with nothing after it
pub fills : (Stands : List ℕ → ℕ → Type 0) (most : ℕ) (old new : List ℕ) → (p : Appends Stands most old new) → Stands p.text (length p.text)
fills Stands most old new p = subst (λ (t : List ℕ). Stands t (length p.text)) (append-nil p.text) (p.stands [])

-- ---- the values of entries

fit_here : (leaf : Leaf) (r d : ℕ) (o : Option ValueTree) (es : List Entry) → MatchOption o (d < leaf.greatest_definition) (λ v. (d ≡ leaf.greatest_definition) × IsTrue (fits_leaf leaf.leaf_type v)) → AllByRecursion (λ v. IsTrue (fits_leaf leaf.leaf_type v)) (values es)
    → AllByRecursion (λ v. IsTrue (fits_leaf leaf.leaf_type v)) (values (record { repetition = r; definition = d; value = o } ∷ es))
fit_here leaf r d None es here fit = fit
fit_here leaf r d (Some v) es here fit = (here.1, fit)

fit_values : (leaf : Leaf) (es : List Entry) → AllByRecursion (IsEntryOf leaf) es → AllByRecursion (λ v. IsTrue (fits_leaf leaf.leaf_type v)) (values es)
fit_values leaf [] all = tt
fit_values leaf (e ∷ es) (here, all) = fit_here leaf e.repetition e.definition e.value es here.value (fit_values leaf es all)

pub kinds_in : (leaf : Leaf) (es : List Entry) → ((kind : Kind) (v : ValueTree) → IsOfKind kind v ↔ IsTrue (fits_kind kind v)) → AllByRecursion (IsEntryOf leaf) es → All (IsOfKind leaf.leaf_type.kind) (values es)
kinds_in leaf es law all = All-from_recursion (IsOfKind leaf.leaf_type.kind) (values es) (kinds_of_fit leaf.leaf_type (values es) law (fit_values leaf es all))

pub all_short : (vs : List ValueTree) → (Any IsTooLong vs → ⊥) → AllByRecursion (λ v. IsTooLong v → ⊥) vs
all_short [] none = tt
all_short (v ∷ vs) none = (λ long. none (0, v, omega arith, refl, long), all_short vs (λ any. none (suc any.0, any.1, omega (arith, any.2), any.3, any.4)))

pub page_stands : (leaf : Leaf) (version : PageVersion) (encoding : Encoding) (es : List Entry) (old new : List ℕ) → AllByRecursion (IsEntryOf leaf) es → Appends (IsWrittenPage leaf version encoding (AreValuesIn leaf.leaf_type.kind encoding (values es)) es) (page_weight es) old new
    → Appends (StandsAsPage leaf es) (page_weight es) old new
page_stands leaf version encoding es old new each p = record {
  text = p.text;
  joined = p.joined;
  stands = λ more d.
      let here = p.stands more in
      written_page leaf version encoding (AreValuesIn leaf.leaf_type.kind encoding (values es)) es (p.text ++ more) (length p.text) d each here (values_stand d leaf.leaf_type.kind encoding (values es) here.text here.spelled);
  short = p.short;
}

pub page_stands_by_indexes : (leaf : Leaf) (version : PageVersion) (size : ℕ) (indexes : List ℕ) (es : List Entry) (old new : List ℕ) → AllByRecursion (IsEntryOf leaf) es
    → Appends (IsWrittenPage leaf version RleDictionary (AreIndexesIn size indexes) es) (index_weight (length es)) old new → Appends (StandsByIndexes leaf size indexes es) (index_weight (length es)) old new
page_stands_by_indexes leaf version size indexes es old new each p = record {
  text = p.text;
  joined = p.joined;
  stands = λ more d sized are.
      let here = p.stands more in
      written_page leaf version RleDictionary (AreIndexesIn size indexes) es (p.text ++ more) (length p.text) (Some d) each here (indexes_stand d leaf.leaf_type.kind size indexes here.text (values es) sized are here.spelled.0);
  short = p.short;
}
