-- The pages of a chunk that are written: which entries they hold, and how its record says so.
use Rattle.std.proofs.Common.{◌≡◌, ℕ, zero, suc, ◌+◌, ◌-◌, ◌<◌, List, [], ◌∷◌, ◌++◌, length, take, drop, map, Option, None, Some, true, refl, sym, ap, subst, ◌∙◌, arith, append_assoc}
use Rattle.std.specs.Prelude.{ℤ, pos, ◌<ℤ◌, flat_map, filter, sum_by, nat_lt}
use Rattle.std.specs.List.{Any, AllByRecursion}
use Rattle.std.proofs.lemmas.Bool.Decides.{nat_tests}
use Rattle.std.proofs.lemmas.List.{length-append, length-map, drop_at}
use Rattle.lists.proofs.Lists.{all_left as all_front, all_right as all_back}
use Rattle.bits.specs.Codec.{Appends, InTurn}
use Rattle.schema.specs.Values.{ValueTree}
use Rattle.schema.specs.Stripe.{Leaf, Entry}
use Rattle.metadata.specs.Records.{ColumnMeta}
use Rattle.plain.specs.Plain.{IsTooLong}
use Rattle.dictionary.specs.Entries.{IsIndexed}
use Rattle.pages.specs.Page.{Page, dictionary, entries, values, IsPage}
use Rattle.pages.specs.Chunk.{is_read, all_entries}
use Rattle.pages.specs.Headers.{IsWrittenDictionary}
use Rattle.pages.specs.Writing.{page_weight, index_weight, dictionary_weight, AreShort, StandsAsDictionary}
use Rattle.pages.specs.ShortPages.{HasShortValues, ShortPagesAreWithinLimits}
use Rattle.pages.proofs.Framed.{dictionary_is_not_read, no_page_of_no_bytes}
use Rattle.pages.proofs.WrittenPages.{all_short, nulls_and_values}
use Rattle.row_group.specs.declared.chunk_pages.ChunkPages.{ChunkPages}
use Rattle.row_group.specs.declared.options.ChunkOptions.{ChunkOptions}
use Rattle.row_group.specs.Chunks.{first_page, IsChunkOf}
use Rattle.row_group.specs.Greatest.{most_entries}
use Rattle.row_group.specs.Styles.{encoding_of, SuitsDictionary, HasDictionary, numbers_with_levels}
use Rattle.row_group.specs.Paged.{ArePages, ArePagesOf}
use Rattle.row_group.specs.Spelled.{IsValuePage, IsIndexPage, AreStatisticsOf}
use Rattle.row_group.specs.Spelled as spelled
use Rattle.row_group.specs.Writing.{AppendsChunk}
use Rattle.row_group.specs.inner.Parts.{SaysOfPages, IsShortChunk, AppendsPages}
use Rattle.row_group.proofs.OneRest.{PagesAreOne}
use Rattle.row_group.proofs.PartWeights.{values_append, values_weigh, indexes_weigh, with_dictionary}
use Rattle.row_group.proofs.PartsPut.{both_forms}
use Rattle.row_group.proofs.ShortChunks.{short_chunk}

-- ---- pages in turn

turn_as : {Y : Type 0} (A B : List ℕ → Y → ℕ → Type 0) → ((bytes : List ℕ) (y : Y) (u : ℕ) → A bytes y u → B bytes y u) → (ys : List Y) (bytes : List ℕ) (used : ℕ) → InTurn A bytes ys used → InTurn B bytes ys used
turn_as A B f [] bytes used p = p
turn_as A B f (y ∷ ys) bytes used p = (p.0, p.1, f bytes y p.0 p.2, turn_as A B f ys (drop p.0 bytes) p.1 p.3, p.4)

turn_pages : (leaf : Leaf) (d : Option (List ValueTree)) (parts : List (List Entry)) (bytes : List ℕ) (used : ℕ) → InTurn (λ t es u. IsPage leaf d t (entries es) u) bytes parts used → InTurn (IsPage leaf d) bytes (map entries parts) used
turn_pages leaf d [] bytes used p = p
turn_pages leaf d (part ∷ parts) bytes used p = (p.0, p.1, p.2, turn_pages leaf d parts (drop p.0 bytes) p.1 p.3, p.4)

all_read : (parts : List (List Entry)) → filter is_read (map entries parts) ≡ map entries parts
all_read [] = refl
all_read (part ∷ parts) = ap (λ (t : List Page). entries part ∷ t) (all_read parts)

all_of : (parts : List (List Entry)) → all_entries (map entries parts) ≡ flat_map (λ part. part) parts
all_of [] = refl
all_of (part ∷ parts) = ap (λ (t : List Entry). part ++ t) (all_of parts)

some_each : (size : ℕ) (parts : List (List Entry)) → ArePages size parts → AllByRecursion (λ part. 0 < length part) parts
some_each size [] p = tt
some_each size (part ∷ []) p = (p.0, tt)
some_each size (part ∷ next ∷ parts) p = (p.0, some_each size (next ∷ parts) p.3)

fewer : (parts : List (List Entry)) → AllByRecursion (λ part. 0 < length part) parts → (k : ℕ) → k < length parts → length (all_entries (take k (map entries parts))) < length (all_entries (map entries parts))
fewer [] some k lt = absurd (omega (arith, lt))
fewer (part ∷ parts) some zero lt = omega (arith, some.0, length-append part (all_entries (map entries parts)))
fewer (part ∷ parts) some (suc k) lt =
    omega (arith, fewer parts some.1 k (omega (arith, lt)), length-append part (all_entries (map entries parts)), length-append part (all_entries (take k (map entries parts))))

-- a chunk's pages, each of which stands for its entries
pages_held : (leaf : Leaf) (d : Option (List ValueTree)) (es : List Entry) (parts : List (List Entry)) (size : ℕ) → ArePagesOf size es parts → (k : ℕ) → k < length (map entries parts)
    → length (all_entries (take k (map entries parts))) < length es
pages_held leaf d es parts size cut k lt =
    let whole : all_entries (map entries parts) ≡ es = all_of parts ∙ cut.joined in
    omega (arith, fewer parts (some_each size parts cut.each) k (omega (arith, lt, length-map parts entries)), ap length whole)

-- entries without a value that is too long have such pages
parts_short : (parts : List (List Entry)) → AreShort (flat_map (λ part. part) parts) → AllByRecursion HasShortValues (map entries parts)
parts_short [] short = tt
parts_short (part ∷ parts) short =
    let rest = flat_map (λ part. part) parts in
    let both = subst (λ (vs : List ValueTree). AllByRecursion (λ v. IsTooLong v → ⊥) vs) (values_append part rest) short in
    (all_front (λ v. IsTooLong v → ⊥) (values part) (values rest) both, parts_short parts (all_back (λ v. IsTooLong v → ⊥) (values part) (values rest) both))

short_of : (size : ℕ) (es : List Entry) (parts : List (List Entry)) → ArePagesOf size es parts → AreShort es → AllByRecursion HasShortValues (map entries parts)
short_of size es parts cut short = parts_short parts (subst (λ (fs : List Entry). AreShort fs) (sym cut.joined) short)

-- ---- without a dictionary

values_held : (leaf : Leaf) (size : ℕ) (es : List Entry) (parts : List (List Entry)) (bytes : List ℕ) (used : ℕ) → ArePagesOf size es parts → AreShort es
    → InTurn (λ t part u. IsPage leaf None t (entries part) u) bytes parts used → IsShortChunk leaf bytes es used
values_held leaf size es parts bytes used cut short p = record {
  chunk = record {
    pages = map entries parts;
    dictionary_values = None;
    parts = parts;
    spelled = turn_pages leaf None parts bytes used p;
    in_order = all_read parts;
    joined = sym (all_of parts ∙ cut.joined);
    count = refl;
    until = pages_held leaf None es parts size cut;
  };
  short = short_of size es parts cut short;
}

-- the pages of values are those of a chunk
pub value_pages : (leaf : Leaf) (o : ChunkOptions) (es : List Entry) (pages : ChunkPages) (old new : List ℕ) (parts : List (List Entry)) (Each : List ℕ → List Entry → ℕ → Type 0)
    → ((t : List ℕ) (part : List Entry) (u : ℕ) → Each t part u → IsValuePage leaf o.page_version (encoding_of o.style leaf.leaf_type.kind) t part u)
    → ((t : List ℕ) (part : List Entry) (u : ℕ) → Each t part u → IsPage leaf None t (entries part) u)
    → (HasDictionary o.style leaf.leaf_type.kind (length old) es → ⊥) → AreShort es → ArePagesOf o.page_rows es parts → Appends (λ bytes. InTurn Each bytes parts) (sum_by page_weight parts) old new
    → pages.encodings.items ≡ numbers_with_levels (encoding_of o.style leaf.leaf_type.kind) → pages.dictionary_page_offset ≡ None → pages.data_page_offset ≡ pos (length old)
    → AppendsPages leaf o old new pages es
value_pages leaf o es pages old new parts Each written read none small cut p encodings dictionary_offset data_offset = record {
  text = p.text;
  parts = parts;
  joined = p.joined;
  paged = cut;
  held = λ more. values_held leaf o.page_rows es parts (p.text ++ more) (length p.text) cut small (turn_as Each (λ t part u. IsPage leaf None t (entries part) u) read parts (p.text ++ more) (length p.text) (p.stands more));
  starts = λ m s. record { page = length old; data_page = s.data_offset ∙ data_offset; begins = rw (s.dictionary_offset ∙ dictionary_offset) refl };
  spelled = λ m s more. spelled.of_values none (record {
    pages = turn_as Each (IsValuePage leaf o.page_version (encoding_of o.style leaf.leaf_type.kind)) written parts (p.text ++ more) (length p.text) (p.stands more);
    dictionary_offset = s.dictionary_offset ∙ dictionary_offset;
    data_offset = s.data_offset ∙ data_offset;
    encodings = s.numbers ∙ ap (λ (ns : List ℤ). Some ns) encodings;
  });
  short = omega (arith, p.short, values_weigh parts es cut.joined);
}

-- ---- with one

indexes_held : (leaf : Leaf) (vs : List ValueTree) (o : ChunkOptions) (es : List Entry) (parts : List (List Entry)) (bytes : List ℕ) (first rest : ℕ) → 0 < length es → ArePagesOf o.page_rows es parts
    → (Any IsTooLong vs → ⊥) → AreShort es → IsPage leaf (Some vs) bytes (dictionary vs) first → InTurn (λ t part u. IsPage leaf (Some vs) t (entries part) u) (drop first bytes) parts rest → IsShortChunk leaf bytes es (first + rest)
indexes_held leaf vs o es parts bytes first rest some cut none short page p = record {
  chunk = record {
    pages = dictionary vs ∷ map entries parts;
    dictionary_values = Some vs;
    parts = parts;
    spelled = (first, rest, page, turn_pages leaf (Some vs) parts (drop first bytes) rest p, refl);
    in_order = ap (λ (t : List Page). dictionary vs ∷ t) (all_read parts);
    joined = sym (all_of parts ∙ cut.joined);
    count = refl;
    until = before;
  };
  short = (all_short vs none, short_of o.page_rows es parts cut short);
}
  where
    before : (k : ℕ) → k < length (dictionary vs ∷ map entries parts) → length (all_entries (take k (dictionary vs ∷ map entries parts))) < length es
    before zero lt = some
    before (suc k) lt = pages_held leaf (Some vs) es parts o.page_rows cut k (omega (arith, lt))

some_bytes : (leaf : Leaf) (vs : List ValueTree) (text : List ℕ) → ((more : List ℕ) → StandsAsDictionary leaf.leaf_type.kind vs (text ++ more) (length text)) → 0 < length text
some_bytes leaf vs [] stands = absurd (no_page_of_no_bytes leaf None (dictionary vs) 0 (stands [] leaf None refl))
some_bytes leaf vs (b ∷ text) stands = omega arith

begins_first : (start size : ℕ) → 0 < start → 0 < size → first_page (Some (pos start)) (start + size) start
begins_first start size some more =
    let a : nat_lt 0 start ≡ true = grind (arith, nat_tests) in
    let b : nat_lt start (start + size) ≡ true = grind (arith, nat_tests) in
    rw (a, b) refl

some_entries : (es : List Entry) → 0 < length (values es) → 0 < length es
some_entries es some = omega (arith, some, nulls_and_values es)

-- the page of the dictionary and the pages of indexes are those of a chunk
pub index_pages : (leaf : Leaf) (o : ChunkOptions) (es : List Entry) (vs : List ValueTree) (is : List ℕ) (pages : ChunkPages) (old mid new : List ℕ) (parts : List (List Entry)) (Each : List ℕ → List Entry → ℕ → Type 0)
    → ((t : List ℕ) (part : List Entry) (u : ℕ) → Each t part u → IsIndexPage leaf o.page_version vs t part u)
    → ((t : List ℕ) (part : List Entry) (u : ℕ) → Each t part u → IsPage leaf (Some vs) t (entries part) u)
    → 0 < length old → SuitsDictionary o.style leaf.leaf_type.kind es → IsIndexed (values es) vs is → (Any IsTooLong vs → ⊥) → AreShort es → ArePagesOf o.page_rows es parts
    → Appends (IsWrittenDictionary leaf.leaf_type.kind vs) (dictionary_weight vs) old mid → Appends (StandsAsDictionary leaf.leaf_type.kind vs) (dictionary_weight vs) old mid
    → Appends (λ bytes. InTurn Each bytes parts) (sum_by (λ part. index_weight (length part)) parts) mid new
    → pages.encodings.items ≡ pos 0 ∷ pos 3 ∷ pos 8 ∷ [] → pages.dictionary_page_offset ≡ Some (pos (length old)) → pages.data_page_offset ≡ pos (length mid)
    → AppendsPages leaf o old new pages es
index_pages leaf o es vs is pages old mid new parts Each written read begun suits indexed none small cut w s q encodings dictionary_offset data_offset =
    let kind = leaf.leaf_type.kind in
    let d = both_forms (IsWrittenDictionary kind vs) (StandsAsDictionary kind vs) (dictionary_weight vs) (dictionary_weight vs) old mid w s in
    let text = d.text ++ q.text in
    let long : length text ≡ length d.text + length q.text = length-append d.text q.text in
    let some : 0 < length d.text = some_bytes leaf vs d.text (λ more. (d.stands more).1) in
    let after : length mid ≡ length old + length d.text = ap length d.joined ∙ length-append old d.text in
    let whole = λ (more : List ℕ). append_assoc d.text q.text more in
    let first = λ (more : List ℕ). subst (λ (t : List ℕ). IsWrittenDictionary kind vs t (length d.text) × StandsAsDictionary kind vs t (length d.text)) (sym (whole more)) (d.stands (q.text ++ more)) in
    let behind = λ (more : List ℕ). ap (drop (length d.text)) (whole more) ∙ drop_at d.text (q.text ++ more) (length d.text) refl in
    let rest = λ (more : List ℕ). subst (λ (t : List ℕ). InTurn Each t parts (length q.text)) (sym (behind more)) (q.stands more) in
    record {
      text = text;
      parts = parts;
      joined = q.joined ∙ ap (λ (t : List ℕ). t ++ q.text) d.joined ∙ append_assoc old d.text q.text;
      paged = cut;
      held = λ more. subst (λ (k : ℕ). IsShortChunk leaf (text ++ more) es k) (sym long)
          (indexes_held leaf vs o es parts (text ++ more) (length d.text) (length q.text) (some_entries es suits.some) cut none small ((first more).1 leaf (Some vs) refl)
          (turn_as Each (λ t part u. IsPage leaf (Some vs) t (entries part) u) read parts (drop (length d.text) (text ++ more)) (length q.text) (rest more)));
      starts = λ m says. record {
        page = length old + length d.text;
        data_page = says.data_offset ∙ data_offset ∙ ap pos after;
        begins = rw (says.dictionary_offset ∙ dictionary_offset) (begins_first (length old) (length d.text) begun some);
      };
      spelled = λ m says more. spelled.of_indexes (record { suits = suits; begun = begun }) (record {
        dictionary = vs;
        indexes = is;
        indexed = indexed;
        size = length d.text;
        rest = length q.text;
        first = (first more).0;
        pages = turn_as Each (IsIndexPage leaf o.page_version vs) written parts (drop (length d.text) (text ++ more)) (length q.text) (rest more);
        filled = long;
        dictionary_offset = says.dictionary_offset ∙ dictionary_offset;
        data_offset = says.data_offset ∙ data_offset ∙ ap pos after;
        encodings = says.numbers ∙ ap (λ (ns : List ℤ). Some ns) encodings;
      });
      short = omega (arith, long, d.short, q.short, indexes_weigh parts es cut.joined, with_dictionary o.style leaf.leaf_type.kind es vs is (length parts) suits indexed);
    }

-- ---- the record

-- the record of a chunk, and its pages, are the chunk
pub chunk_put : PagesAreOne → ShortPagesAreWithinLimits → (m : ColumnMeta) (leaf : Leaf) (o : ChunkOptions) (old new : List ℕ) (es : List Entry) (pages : ChunkPages) (size : ℕ) → AppendsPages leaf o old new pages es → IsChunkOf m leaf
    → m.num_values ≡ pos (length es) → (most_entries <ℤ pos (length es) → ⊥) → SaysOfPages m pages
    → size ≡ length new - length old → m.total_compressed_size ≡ Some (pos size) → m.total_uncompressed_size ≡ Some (pos size) → AreStatisticsOf leaf es m.statistics → AppendsChunk leaf o old new m es
chunk_put one short m leaf o old new es pages size p is count few says filled packed plain statistics =
    let same : size ≡ length p.text = omega (arith, filled, ap length p.joined, length-append old p.text) in
    record {
      text = p.text;
      parts = p.parts;
      joined = p.joined;
      paged = p.paged;
      starts = p.starts m says;
      fills = λ more. record { is = is; count = count; held = (p.held more).chunk };
      within_limits = λ more.
          short_chunk one dictionary_is_not_read short m leaf (p.text ++ more) es (length p.text) (p.held more) (omega (arith, length-append p.text more))
          (record { is = is; count = count; few = λ many. few (subst (λ (z : ℤ). most_entries <ℤ z) count many) });
      pages = p.spelled m says;
      size = packed ∙ ap (λ (n : ℕ). Some (pos n)) same;
      plain_size = plain ∙ ap (λ (n : ℕ). Some (pos n)) same;
      statistics = statistics;
      short = p.short;
    }
