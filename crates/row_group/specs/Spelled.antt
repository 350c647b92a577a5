-- The pages of a chunk as the store writes them, and what the chunk's record says of them: parquet.thrift, ColumnMetaData.
use Rattle.std.specs.Prelude.{◌≡◌, ℕ, ◌+◌, ◌≤◌, pos, List, [], ◌∷◌, length, drop, Option, Some, None, IfSome}
use Rattle.bits.specs.Codec.{InTurn}
use Rattle.schema.specs.Annotations.{order_of}
use Rattle.schema.specs.Values.{ValueTree}
use Rattle.schema.specs.Stripe.{Leaf, Entry}
use Rattle.metadata.specs.Records.{ColumnMeta}
use Rattle.metadata.specs.Records as record_of
use Rattle.dictionary.specs.Entries.{AreEntriesAt, IsIndexed}
use Rattle.statistics.specs.Bounds.{Statistics, AreLeastAndGreatest, null_count}
use Rattle.statistics.specs.Bytes.{IsWrittenBound}
use Rattle.pages.specs.Page.{values}
use Rattle.pages.specs.declared.encoding.Encoding.{Encoding}
use Rattle.pages.specs.declared.encoding.Encoding.TheVariants.{RleDictionary}
use Rattle.pages.specs.declared.page_version.PageVersion.{PageVersion}
use Rattle.pages.specs.Headers.{IsWrittenPage, IsWrittenDictionary}
use Rattle.pages.specs.WrittenValues.{AreValuesIn, AreIndexesIn}
use Rattle.row_group.specs.declared.options.ChunkOptions.{ChunkOptions}
use Rattle.row_group.specs.Styles.{encoding_of, HasDictionary, numbers_with_levels}

-- a page of these entries, its values in this encoding
abbrev pub IsValuePage : Leaf → PageVersion → Encoding → List ℕ → List Entry → ℕ → Type 0
IsValuePage leaf version encoding bytes es used =
    IsWrittenPage leaf version encoding (AreValuesIn leaf.leaf_type.kind encoding (values es)) es bytes used

-- a page of these entries, each value as its index into the dictionary
pub record IsIndexPage (leaf : Leaf) (version : PageVersion) (dictionary : List ValueTree) (bytes : List ℕ) (es : List Entry) (used : ℕ) : Type 0 where
  pub indexes : List ℕ
  pub stand : AreEntriesAt dictionary indexes (values es)
  pub page : IsWrittenPage leaf version RleDictionary (AreIndexesIn (length dictionary) indexes) es bytes used

-- The chunk of these parts, which starts here in its file, has a page of values for each of them; so its record says.
pub record HasValuePages (leaf : Leaf) (o : ChunkOptions) (parts : List (List Entry)) (m : ColumnMeta) (start : ℕ) (bytes : List ℕ) (used : ℕ) : Type 0 where
  pub pages : InTurn (IsValuePage leaf o.page_version (encoding_of o.style leaf.leaf_type.kind)) bytes parts used
  pub dictionary_offset : m.dictionary_page_offset ≡ None
  pub data_offset : m.data_page_offset ≡ pos start
  pub encodings : m.encodings ≡ Some (numbers_with_levels (encoding_of o.style leaf.leaf_type.kind))

-- The chunk of these parts, which starts here in its file, has the page of a dictionary, which is the values in the order in which they
-- first come, and a page of indexes for each part; so its record says.
pub record HasIndexPages (leaf : Leaf) (o : ChunkOptions) (es : List Entry) (parts : List (List Entry)) (m : ColumnMeta) (start : ℕ) (bytes : List ℕ) (used : ℕ) : Type 0 where
  pub dictionary : List ValueTree
  pub indexes : List ℕ
  pub indexed : IsIndexed (values es) dictionary indexes
  pub size : ℕ
  pub rest : ℕ
  pub first : IsWrittenDictionary leaf.leaf_type.kind dictionary bytes size
  pub pages : InTurn (IsIndexPage leaf o.page_version dictionary) (drop size bytes) parts rest
  pub filled : used ≡ size + rest
  pub dictionary_offset : m.dictionary_page_offset ≡ Some (pos start)
  pub data_offset : m.data_page_offset ≡ pos (start + size)
  pub encodings : m.encodings ≡ Some (pos 0 ∷ pos 3 ∷ pos 8 ∷ [])

-- the pages of a chunk, as its style has them
pub data HasPages (leaf : Leaf) (o : ChunkOptions) (es : List Entry) (parts : List (List Entry)) (m : ColumnMeta) (start : ℕ) (bytes : List ℕ) (used : ℕ) : Type 0 where
  of_values : (HasDictionary o.style leaf.leaf_type.kind start es → ⊥) → HasValuePages leaf o parts m start bytes used → HasPages leaf o es parts m start bytes used
  of_indexes : HasDictionary o.style leaf.leaf_type.kind start es → HasIndexPages leaf o es parts m start bytes used → HasPages leaf o es parts m start bytes used

-- the statistics that are written: the number of nulls, and the bytes of the bounds that are there
abbrev pub written_statistics : ℕ → Option (List ℕ) → Option (List ℕ) → record_of.Statistics
written_statistics nulls min max = record {
  max = None;
  min = None;
  null_count = Some (pos nulls);
  distinct_count = None;
  max_value = max;
  min_value = min;
  is_max_value_exact = None;
  is_min_value_exact = None;
}

-- the statistics that are written are those of the entries: their least and greatest value, each by itself, in the leaf's order, with at most 64 bytes
pub record AreStatisticsOf (leaf : Leaf) (es : List Entry) (written : Option record_of.Statistics) : Type 0 where
  pub bounds : Statistics
  pub min : Option (List ℕ)
  pub max : Option (List ℕ)
  pub of_entries : AreLeastAndGreatest (order_of leaf.leaf_type) bounds es
  pub min_bytes : IsWrittenBound leaf.leaf_type.kind min bounds.min
  pub max_bytes : IsWrittenBound leaf.leaf_type.kind max bounds.max
  pub short_min : IfSome min (λ bound. length bound ≤ 64)
  pub short_max : IfSome max (λ bound. length bound ≤ 64)
  pub spelled : written ≡ Some (written_statistics (null_count es) min max)
