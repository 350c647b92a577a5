-- A page whose values are short is over no limit.
use Rattle.std.proofs.Common.{◌≡◌, ℕ, ◌+◌, ◌<◌, List, [], ◌∷◌, ◌++◌, length, map, take, drop, Option, Some, sym, ap, subst, ◌∙◌, arith, append_assoc, inl, inr}
use Rattle.std.specs.Prelude.{ℤ, pos}
use Rattle.std.specs.Int.{w32}
use Rattle.std.specs.List.{AllByRecursion}
use Rattle.std.proofs.lemmas.List.{length-append, length-take-le, drop-drop}
use Rattle.byteorder.specs.Endian.{little_bytes, little_number}
use Rattle.byteorder.specs.Numbers.{little_number-reads_back}
use Rattle.bits.specs.Codec.{IsFunctional, InTurn}
use Rattle.delta.specs.Delta.{IsDelta}
use Rattle.delta.specs.ByteDeltas.{sizes, IsByteLengths, IsLengthsOver, AreCompleted, IsPrefixed as IsSharedPrefixes, IsPrefixesOver, StandForBytes}
use Rattle.schema.specs.declared.value.Kind.{Kind}
use Rattle.schema.specs.declared.value.Kind.TheVariants.{Boolean, Int32, Int64, ByteArray, FixedLenByteArray}
use Rattle.schema.specs.Values.{ValueTree, bytes as byte_value}
use Rattle.schema.specs.Stripe.{Leaf, Entry}
use Rattle.schema.specs.Law.{IsEntryOf}
use Rattle.metadata.specs.Records.{PageHeader, DataPageHeader, DataPageHeaderV2, DictionaryPageHeader}
use Rattle.metadata.specs.FromTree.{page_header}
use Rattle.metadata.specs.Answers.{StandsFor}
use Rattle.plain.specs.Plain.{IsSpelled, IsPlain, AnnouncesTooMuch, IsReadOver, IsTooLong}
use Rattle.plain.specs.Split.{IsSplit, IsSplitReadOver}
use Rattle.plain.proofs.Spelled.{one_spelled, of_fixed}
use Rattle.pages.specs.declared.encoding.Encoding.{Encoding}
use Rattle.pages.specs.declared.encoding.Encoding.TheVariants.{Plain, DeltaLengthByteArray, DeltaByteArray, ByteStreamSplit}
use Rattle.pages.specs.Encodings.{encoding_of, AreValues}
use Rattle.pages.specs.Page.{Page, skipped, dictionary, entries, repetitions, definitions, values, Spell, AreLevelsV1, AreLevelsV2, IsBodyV1, IsBodyV2, IsBody}
use Rattle.pages.specs.Limits.{IsValueOver, full, IsBodyOver, in_version_1, in_version_2, in_dictionary}
use Rattle.pages.specs.ShortPages.{HasShortValues, ShortPagesAreWithinLimits}
use Rattle.pages.proofs.Framed.{framed_short}
use Rattle.pages.proofs.OneList.{HybridsAreOne, DeltasAreOne}
use Rattle.pages.proofs.OneBody.{one_text_v1, one_text_v2}
use Rattle.pages.proofs.SharedValues.{nothing_over}
use Rattle.pages.proofs.EntriesOf.{has_values}

abbrev AllShort : List ValueTree → Type 0
AllShort vs = AllByRecursion (λ v. IsTooLong v → ⊥) vs

-- ---- PLAIN

-- the length that is announced is that of the value
first_short : (kind : Kind) (body : List ℕ) (v : ValueTree) (used : ℕ) → IsSpelled kind body v used → (IsTooLong v → ⊥) → AnnouncesTooMuch kind body → ⊥
first_short ByteArray body (byte_value text) used p short much =
    let has = p.has in
    let joined : body ≡ little_bytes 4 (length text) ++ (text ++ p.rest) = p.front ∙ append_assoc (little_bytes 4 (length text)) text p.rest in
    let number : little_number 4 body ≡ length text = ap (little_number 4) joined ∙ little_number-reads_back 4 (length text) (text ++ p.rest) (omega (arith, has.1)) in
    short (omega (arith, number, much.1))
first_short (FixedLenByteArray k) body (byte_value text) used p short much = let has = p.has in short (omega (arith, has.1, much))
first_short ByteArray body v used p short much = absurd p.has
first_short (FixedLenByteArray k) body v used p short much = absurd p.has
first_short kind body v used p short much = absurd much

turn_short : (kind : Kind) (text : List ℕ) (vs before : List ValueTree) (used at : ℕ) → InTurn (IsSpelled kind) text vs used → InTurn (IsSpelled kind) text before at → length before < length vs → AllShort vs → AnnouncesTooMuch kind (drop at text) → ⊥
turn_short kind text [] before used at p q few short much = omega (arith, few)
turn_short kind text (v ∷ vs) [] used at p q few short much = first_short kind text v p.0 p.2 short.0 (subst (λ (k : ℕ). AnnouncesTooMuch kind (drop k text)) q much)
turn_short kind text (v ∷ vs) (w ∷ before) used at p q few short much =
    let same = (one_spelled kind text w v q.0 p.0 q.2 p.2).1 in
    let next = subst (λ (k : ℕ). InTurn (IsSpelled kind) (drop k text) before q.1) same q.3 in
    let end : drop at text ≡ drop q.1 (drop p.0 text) = ap (λ (k : ℕ). drop k text) (q.4 ∙ ap (λ (k : ℕ). k + q.1) same) ∙ sym (drop-drop q.1 p.0 text) in
    turn_short kind (drop p.0 text) vs before p.1 q.1 p.3 next (omega (arith, few)) short.1 (subst (AnnouncesTooMuch kind) end much)

plain_short : (kind : Kind) (text : List ℕ) (vs : List ValueTree) (used n : ℕ) → n ≡ length vs → IsPlain kind (length vs) text vs used → AllShort vs → IsReadOver kind text n → ⊥
plain_short Boolean text vs used n size p short over = absurd over.much
plain_short Int32 text vs used n size p short over = absurd over.much
plain_short Int64 text vs used n size p short over = absurd over.much
plain_short ByteArray text vs used n size p short over = let few = over.few in turn_short ByteArray text vs over.before used over.at p.1 over.stand (omega (arith, few, size)) short over.much
plain_short (FixedLenByteArray k) text vs used n size p short over = let few = over.few in turn_short (FixedLenByteArray k) text vs over.before used over.at p.1 over.stand (omega (arith, few, size)) short over.much

-- ---- byte values by their lengths

sizes_short : (texts before : List (List ℕ)) (announced : ℕ) (later : List ℤ) → AllShort (map byte_value texts) → sizes texts ≡ sizes before ++ pos announced ∷ later → 16777216 < announced → ⊥
sizes_short [] [] announced later short are much = cc
sizes_short [] (b ∷ before) announced later short are much = cc
sizes_short (t ∷ texts) [] announced later short are much = let e : length t ≡ announced = cc in short.0 (omega (arith, e, much))
sizes_short (t ∷ texts) (b ∷ before) announced later short are much = sizes_short texts before announced later short.1 (cc) much

lengths_short : DeltasAreOne → (text : List ℕ) (vs : List ValueTree) (used : ℕ) → StandForBytes (IsByteLengths text (length vs)) vs used → AllShort vs → IsLengthsOver text (length vs) → ⊥
lengths_short law text vs used p short over =
    let same = law w32 (length vs) text (sizes p.texts) over.lengths p.stand.at over.at p.stand.lengths over.stand in
    sizes_short p.texts over.over.before over.over.announced over.over.later (subst (λ (ws : List ValueTree). AllShort ws) p.are short) (same.0 ∙ over.over.are) over.over.much

-- ---- byte values by what they share with the value before

-- what is announced of a prefix and a suffix is the length of their value
completed_short : (start other : List ℕ) (prefixes before : List ℕ) (suffixes front texts values : List (List ℕ)) (prefix announced : ℕ) (ps zs : List ℤ) → AreCompleted start prefixes suffixes texts → AreCompleted other before front values
    → AllShort (map byte_value texts) → map pos prefixes ≡ map pos before ++ pos prefix ∷ ps → sizes suffixes ≡ sizes front ++ pos announced ∷ zs → 16777216 < prefix + announced → ⊥
completed_short start other [] [] suffixes front texts values prefix announced ps zs c d short e f much = cc
completed_short start other [] (b ∷ before) suffixes front texts values prefix announced ps zs c d short e f much = cc
completed_short start other (p ∷ prefixes) before [] [] texts values prefix announced ps zs c d short e f much = cc
completed_short start other (p ∷ prefixes) before [] (x ∷ front) texts values prefix announced ps zs c d short e f much = cc
completed_short start other (p ∷ prefixes) before (s ∷ suffixes) front [] values prefix announced ps zs c d short e f much = absurd c
completed_short start other (p ∷ prefixes) [] (s ∷ suffixes) [] (t ∷ texts) values prefix announced ps zs c d short e f much =
    let first : p ≡ prefix = cc in
    let second : length s ≡ announced = cc in
    short.0 (omega (arith, first, second, c.0, ap length c.1, length-append (take p start) s, length-take-le p start c.0, much))
completed_short start other (p ∷ prefixes) [] (s ∷ suffixes) (x ∷ front) (t ∷ texts) values prefix announced ps zs c d short e f much = absurd d
completed_short start other (p ∷ prefixes) (b ∷ before) (s ∷ suffixes) [] (t ∷ texts) values prefix announced ps zs c d short e f much = absurd d
completed_short start other (p ∷ prefixes) (b ∷ before) (s ∷ suffixes) (x ∷ front) (t ∷ texts) [] prefix announced ps zs c d short e f much = absurd d
completed_short start other (p ∷ prefixes) (b ∷ before) (s ∷ suffixes) (x ∷ front) (t ∷ texts) (v ∷ values) prefix announced ps zs c d short e f much =
    completed_short t v prefixes before suffixes front texts values prefix announced ps zs c.2 d.2 short.1 (cc) (cc) much

prefixes_short : DeltasAreOne → (text : List ℕ) (vs : List ValueTree) (used : ℕ) → StandForBytes (IsSharedPrefixes text (length vs)) vs used → AllShort vs → IsPrefixesOver text (length vs) → ⊥
prefixes_short law text vs used p short over =
    let n = length vs in
    let s = p.stand in
    let o = over.over in
    let first = law w32 n text (map pos s.prefixes) over.prefixes s.at over.at s.shared over.shared in
    let there = subst (λ (k : ℕ). IsDelta w32 (drop k text) n over.lengths over.then) (sym first.1) over.others in
    let second = law w32 n (drop s.at text) (sizes s.suffixes) over.lengths s.others.at over.then s.others.lengths there in
    completed_short [] [] s.prefixes o.before s.suffixes o.suffixes p.texts o.values o.prefix o.announced o.later_prefixes o.later_lengths s.completed o.completed
    (subst (λ (ws : List ValueTree). AllShort ws) p.are short) (first.0 ∙ o.prefixes_are) (second.0 ∙ o.lengths_are) o.much

-- ---- split values

split_short : (kind : Kind) (text : List ℕ) (vs : List ValueTree) (used n : ℕ) → n ≡ length vs → IsSplit kind (length vs) text vs used → AllShort vs → IsSplitReadOver kind text n → ⊥
split_short Boolean text vs used n size p short over = over
split_short Int32 text vs used n size p short over = over
split_short Int64 text vs used n size p short over = over
split_short ByteArray text vs used n size p short over = over
split_short (FixedLenByteArray k) text [] used n size p short over = omega (arith, size, over.0)
split_short (FixedLenByteArray k) text (v ∷ vs) used n size p short over =
    let first = of_fixed k v (p.of_kind 0 v (omega arith)) in
    short.0 (subst IsTooLong (sym first.1) (omega (arith, first.3, over.1)))

-- ---- values in any encoding

values_short : DeltasAreOne → (d : Option (List ValueTree)) (kind : Kind) (e : Option Encoding) (text : List ℕ) (vs : List ValueTree) (n : ℕ) → n ≡ length vs → AreValues d kind e text vs → AllShort vs → IsValueOver kind e text n → ⊥
values_short law d kind (Some Plain) text vs n size p short over = plain_short kind text vs p.0 n size p.1 short over
values_short law d ByteArray (Some DeltaLengthByteArray) text vs n size p short over = lengths_short law text vs p.0 p.1 short (subst (IsLengthsOver text) size over)
values_short law d ByteArray (Some DeltaByteArray) text vs n size p short over = prefixes_short law text vs p.0 p.1 short (subst (IsPrefixesOver text) size over)
values_short law d (FixedLenByteArray k) (Some DeltaByteArray) text vs n size p short over = prefixes_short law text vs p.0 p.1 short (subst (IsPrefixesOver text) size over)
values_short law d kind (Some ByteStreamSplit) text vs n size p short over = split_short kind text vs p.0 n size p.1 short over
values_short law d kind e text vs n size p short over = absurd over

spelled_short : DeltasAreOne → (d : Option (List ValueTree)) (kind : Kind) (e : Option Encoding) (text : List ℕ) (vs : List ValueTree) (n : ℕ) → n ≡ length vs → Spell (AreValues d kind e) text vs → AllShort vs → IsValueOver kind e text n → ⊥
spelled_short law d kind e text vs n size (inl none) short over = nothing_over kind e text n (size ∙ ap length none) over
spelled_short law d kind e text vs n size (inr p) short over = values_short law d kind e text vs n size p short over

entries_short : DeltasAreOne → (leaf : Leaf) (d : Option (List ValueTree)) (e : Option Encoding) (text : List ℕ) (es : List Entry) → AllByRecursion (IsEntryOf leaf) es → Spell (AreValues d leaf.leaf_type.kind e) text (values es)
    → AllShort (values es) → IsValueOver leaf.leaf_type.kind e text (full leaf (definitions es)) → ⊥
entries_short law leaf d e text es each spelled short over = spelled_short law d leaf.leaf_type.kind e text (values es) (full leaf (definitions es)) (sym (has_values leaf es each).count) spelled short over

-- ---- bodies

v1_short : HybridsAreOne → DeltasAreOne → (leaf : Leaf) (d : Option (List ValueTree)) (own : DataPageHeader) (body : List ℕ) (es : List Entry) (rs ds text : List ℕ) → IsBodyV1 leaf d own body es → AllShort (values es)
    → AreLevelsV1 leaf own body rs ds text → IsValueOver leaf.leaf_type.kind (encoding_of own.encoding) text (full leaf ds) → ⊥
v1_short hybrids deltas leaf d own body es rs ds text p short levels over =
    let same = one_text_v1 hybrids leaf own body rs (repetitions es) ds (definitions es) text p.text levels p.levels in
    let kind = leaf.leaf_type.kind in
    let e = encoding_of own.encoding in
    entries_short deltas leaf d e p.text es p.each p.spelled short
    (subst (λ (xs : List ℕ). IsValueOver kind e p.text (full leaf xs)) same.1 (subst (λ (t : List ℕ). IsValueOver kind e t (full leaf ds)) same.2 over))

v2_short : HybridsAreOne → DeltasAreOne → (leaf : Leaf) (d : Option (List ValueTree)) (own : DataPageHeaderV2) (body : List ℕ) (es : List Entry) (rs ds text : List ℕ) → IsBodyV2 leaf d own body es → AllShort (values es)
    → AreLevelsV2 leaf own body rs ds text → IsValueOver leaf.leaf_type.kind (encoding_of own.encoding) text (full leaf ds) → ⊥
v2_short hybrids deltas leaf d own body es rs ds text p short levels over =
    let same = one_text_v2 hybrids leaf own body rs (repetitions es) ds (definitions es) text p.text levels p.levels in
    let kind = leaf.leaf_type.kind in
    let e = encoding_of own.encoding in
    entries_short deltas leaf d e p.text es p.each p.spelled short
    (subst (λ (xs : List ℕ). IsValueOver kind e p.text (full leaf xs)) same.1 (subst (λ (t : List ℕ). IsValueOver kind e t (full leaf ds)) same.2 over))

body_short : HybridsAreOne → DeltasAreOne → (leaf : Leaf) (d : Option (List ValueTree)) (h : PageHeader) (body : List ℕ) (page : Page) → IsBody leaf d h body page → HasShortValues page → IsBodyOver leaf h body → ⊥
body_short hybrids deltas leaf d h body skipped p short (in_version_1 own rs ds text kind has levels over) = p.0 kind
body_short hybrids deltas leaf d h body skipped p short (in_version_2 own rs ds text kind has levels over) = p.2 kind
body_short hybrids deltas leaf d h body skipped p short (in_dictionary own n kind has count encoding over) = p.1 kind
body_short hybrids deltas leaf d h body (dictionary vs) p short (in_version_1 own rs ds text kind has levels over) = let a = p.1 in cc
body_short hybrids deltas leaf d h body (dictionary vs) p short (in_version_2 own rs ds text kind has levels over) = let a = p.1 in cc
body_short hybrids deltas leaf d h body (dictionary vs) p short (in_dictionary own n kind has count encoding over) =
    let x = p.2 in
    let same : own ≡ p.0 = cc in
    let many = ap (λ (o : DictionaryPageHeader). o.num_values) same in
    let all = p.3.count in
    let size : n ≡ length vs = cc in
    plain_short leaf.leaf_type.kind body vs p.3.spelled.0 n size p.3.spelled.1 short over
body_short hybrids deltas leaf d h body (entries es) (inl p) short (in_version_1 own rs ds text kind has levels over) =
    let x = p.2 in
    let same : p.0 ≡ own = cc in
    v1_short hybrids deltas leaf d own body es rs ds text (subst (λ (o : DataPageHeader). IsBodyV1 leaf d o body es) same p.3) short levels over
body_short hybrids deltas leaf d h body (entries es) (inl p) short (in_version_2 own rs ds text kind has levels over) = let a = p.1 in cc
body_short hybrids deltas leaf d h body (entries es) (inl p) short (in_dictionary own n kind has count encoding over) = let a = p.1 in cc
body_short hybrids deltas leaf d h body (entries es) (inr p) short (in_version_1 own rs ds text kind has levels over) = let a = p.1 in cc
body_short hybrids deltas leaf d h body (entries es) (inr p) short (in_version_2 own rs ds text kind has levels over) =
    let x = p.2 in
    let same : p.0 ≡ own = cc in
    v2_short hybrids deltas leaf d own body es rs ds text (subst (λ (o : DataPageHeaderV2). IsBodyV2 leaf d o body es) same p.3) short levels over
body_short hybrids deltas leaf d h body (entries es) (inr p) short (in_dictionary own n kind has count encoding over) = let a = p.1 in cc

-- ---- the page

pub short_pages : HybridsAreOne → DeltasAreOne → IsFunctional (StandsFor page_header) → ShortPagesAreWithinLimits
short_pages hybrids deltas one leaf d bytes page used p short over =
    framed_short leaf bytes p.header p.body used one p.framed (body_short hybrids deltas leaf d p.header p.body page p.stands_for short) over
