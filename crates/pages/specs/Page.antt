-- Which entries the bytes of a page stand for: parquet-format, README.md, "Data Pages"; parquet.thrift, PageHeader.
use Rattle.std.specs.Prelude.{◌≡◌, ◌≢◌, ◌⊎◌, ℕ, zero, suc, ◌+◌, ◌*◌, ◌^◌, ◌<◌, ◌≤◌, ℤ, pos, List, [], ◌++◌, map, length, drop, Option, Some, None}
use Rattle.std.specs.List.{AllByRecursion, filter_map}
use Rattle.schema.specs.declared.value.Kind.{Kind}
use Rattle.schema.specs.Values.{ValueTree}
use Rattle.schema.specs.Stripe.{Leaf, Entry}
use Rattle.schema.specs.Law.{IsEntryOf}
use Rattle.hybrid_rle.specs.Hybrid.{IsHybrid}
use Rattle.metadata.specs.Records.{PageHeader, DataPageHeader, DictionaryPageHeader, DataPageHeaderV2}
use Rattle.metadata.specs.FromTree.{page_header}
use Rattle.metadata.specs.Answers.{StandsFor}
use Rattle.pages.specs.Encodings.{encoding_of, IsPrefixed, ArePlain, AreValues}

-- a page, by what it stands for
pub data Page : Type 0 where
  skipped : Page
  dictionary : List ValueTree → Page
  entries : List Entry → Page

-- levels by the hybrid, in as many bits as the greatest has binary digits
pub record AreLevels (greatest : ℕ) (text levels : List ℕ) : Type 0 where
  pub width : ℕ
  pub used : ℕ
  pub holds : greatest < 2 ^ width
  pub least : 2 ^ width ≤ 2 * greatest
  pub packed : IsHybrid width text (length levels) levels used

-- where the greatest level is 0, all are
abbrev pub AreZero : List ℕ → Type 0
AreZero levels = AllByRecursion (λ l. l ≡ 0) levels

-- the encoding of levels is RLE, or is not said
abbrev pub IsRle : Option ℤ → Type 0
IsRle encoding = (encoding ≡ None) ⊎ (encoding ≡ Some (pos 3))

-- a section of levels in version 1, and what is behind it
abbrev pub IsSectionV1 : ℕ → Option ℤ → List ℕ → List ℕ → List ℕ → Type 0
IsSectionV1 zero encoding text levels behind = AreZero levels × (behind ≡ text)
IsSectionV1 (suc g) encoding text levels behind = IsRle encoding × ((inside : List ℕ) × IsPrefixed text inside behind × AreLevels (suc g) inside levels)

-- the levels in a section whose length the header has
abbrev pub AreLevelsOrZero : ℕ → List ℕ → List ℕ → Type 0
AreLevelsOrZero zero inside levels = AreZero levels
AreLevelsOrZero (suc g) inside levels = AreLevels (suc g) inside levels

-- a section of levels in version 2, and what is behind it
abbrev pub IsSectionV2 : ℕ → ℤ → List ℕ → List ℕ → List ℕ → Type 0
IsSectionV2 greatest size text levels behind = (inside : List ℕ) × (size ≡ pos (length inside)) × (text ≡ inside ++ behind) × AreLevelsOrZero greatest inside levels

-- the levels of a page of version 1, repetition levels first, and the text of its values behind them
pub record AreLevelsV1 (leaf : Leaf) (h : DataPageHeader) (body repetitions definitions text : List ℕ) : Type 0 where
  pub count : h.num_values ≡ pos (length definitions)
  pub paired : length repetitions ≡ length definitions
  pub between : List ℕ
  pub first : IsSectionV1 leaf.greatest_repetition h.repetition_level_encoding body repetitions between
  pub second : IsSectionV1 leaf.greatest_definition h.definition_level_encoding between definitions text

-- the levels of a page of version 2, repetition levels first, and the text of its values behind them
pub record AreLevelsV2 (leaf : Leaf) (h : DataPageHeaderV2) (body repetitions definitions text : List ℕ) : Type 0 where
  pub count : h.num_values ≡ pos (length definitions)
  pub paired : length repetitions ≡ length definitions
  pub between : List ℕ
  pub first : IsSectionV2 leaf.greatest_repetition h.repetition_levels_byte_length body repetitions between
  pub second : IsSectionV2 leaf.greatest_definition h.definition_levels_byte_length between definitions text

-- the repetition level of each entry
abbrev pub repetitions : List Entry → List ℕ
repetitions es = map (λ e. e.repetition) es

-- the definition level of each entry
abbrev pub definitions : List Entry → List ℕ
definitions es = map (λ e. e.definition) es

-- the values that are there
abbrev pub values : List Entry → List ValueTree
values es = filter_map (λ e. e.value) es

-- the values stand in the text by the relation of their encoding; where there is none, the text is not read
abbrev pub Spell : (List ℕ → List ValueTree → Type 0) → List ℕ → List ValueTree → Type 0
Spell Stands text vs = (vs ≡ []) ⊎ Stands text vs

-- The body of a data page of version 1: the levels, and the values of the entries at the greatest definition level.
-- Levels are at most the greatest, and values are the leaf's: of its type, and UTF-8 where they are text.
pub record IsBodyV1 (leaf : Leaf) (d : Option (List ValueTree)) (h : DataPageHeader) (body : List ℕ) (es : List Entry) : Type 0 where
  pub text : List ℕ
  pub levels : AreLevelsV1 leaf h body (repetitions es) (definitions es) text
  pub each : AllByRecursion (IsEntryOf leaf) es
  pub spelled : Spell (AreValues d leaf.leaf_type.kind (encoding_of h.encoding)) text (values es)

-- The body of a data page of version 2: the levels, and the values of the entries at the greatest definition level.
pub record IsBodyV2 (leaf : Leaf) (d : Option (List ValueTree)) (h : DataPageHeaderV2) (body : List ℕ) (es : List Entry) : Type 0 where
  pub text : List ℕ
  pub levels : AreLevelsV2 leaf h body (repetitions es) (definitions es) text
  pub each : AllByRecursion (IsEntryOf leaf) es
  pub spelled : Spell (AreValues d leaf.leaf_type.kind (encoding_of h.encoding)) text (values es)

-- PLAIN or PLAIN_DICTIONARY, which are the same in a dictionary page
abbrev pub IsEncodingOfDictionary : ℤ → Type 0
IsEncodingOfDictionary z = (z ≡ pos 0) ⊎ (z ≡ pos 2)

-- the body of a dictionary page: PLAIN values
pub record IsDictionaryBody (kind : Kind) (h : DictionaryPageHeader) (body : List ℕ) (vs : List ValueTree) : Type 0 where
  pub count : h.num_values ≡ pos (length vs)
  pub encoding : IsEncodingOfDictionary h.encoding
  pub spelled : ArePlain kind body vs

-- what the body of a page stands for, by its type: DATA_PAGE 0, DICTIONARY_PAGE 2, DATA_PAGE_V2 3; others are skipped
abbrev pub IsBody : Leaf → Option (List ValueTree) → PageHeader → List ℕ → Page → Type 0
IsBody leaf d h body skipped = (h.kind ≢ pos 0) × (h.kind ≢ pos 2) × (h.kind ≢ pos 3)
IsBody leaf d h body (dictionary vs) = (own : DictionaryPageHeader) × (h.kind ≡ pos 2) × (h.dictionary_page_header ≡ Some own) × IsDictionaryBody leaf.leaf_type.kind own body vs
IsBody leaf d h body (entries es) =
    ((own : DataPageHeader) × (h.kind ≡ pos 0) × (h.data_page_header ≡ Some own) × IsBodyV1 leaf d own body es)
    ⊎ ((own : DataPageHeaderV2) × (h.kind ≡ pos 3) × (h.data_page_header_v2 ≡ Some own) × IsBodyV2 leaf d own body es)

-- the first `used` bytes are a page header, and as many bytes of body as it says
pub record IsFramed (bytes : List ℕ) (h : PageHeader) (body : List ℕ) (used : ℕ) : Type 0 where
  pub header_end : ℕ
  pub rest : List ℕ
  pub begins : StandsFor page_header bytes h header_end
  pub follows : drop header_end bytes ≡ body ++ rest
  pub size : h.compressed_page_size ≡ pos (length body)
  pub ends : used ≡ header_end + length body

-- the first `used` bytes are this page, in a chunk that has this dictionary
pub record IsPage (leaf : Leaf) (d : Option (List ValueTree)) (bytes : List ℕ) (page : Page) (used : ℕ) : Type 0 where
  pub header : PageHeader
  pub body : List ℕ
  pub framed : IsFramed bytes header body used
  pub stands_for : IsBody leaf d header body page
