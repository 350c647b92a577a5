-- The pages that are written, what they stand for, and what they weigh.
use Rattle.std.specs.Prelude.{◌≡◌, ◌⊎◌, ℕ, ◌+◌, ◌*◌, ◌<◌, All, List, length, Option, Some}
use Rattle.std.specs.List.{Any, AllByRecursion}
use Rattle.bits.specs.declared.refusal.Refusal.{Refusal}
use Rattle.bits.specs.declared.refusal.Refusal.TheVariants.{Levels, Value, Encoding as EncodingFault, Limit}
use Rattle.schema.specs.declared.value.Kind.{Kind}
use Rattle.schema.specs.declared.value.Kind.TheVariants.{Boolean, Int32, Int64, ByteArray, FixedLenByteArray}
use Rattle.schema.specs.Values.{ValueTree}
use Rattle.schema.specs.Stripe.{Leaf, Entry}
use Rattle.plain.specs.Plain.{IsTooLong, text_size}
use Rattle.plain.specs.Split.{CanBeSplit}
use Rattle.dictionary.specs.Entries.{AreEntriesAt}
use Rattle.pages.specs.declared.encoding.Encoding.{Encoding}
use Rattle.pages.specs.declared.encoding.Encoding.TheVariants.{Plain, Rle, DeltaBinaryPacked, DeltaLengthByteArray, DeltaByteArray, ByteStreamSplit}
use Rattle.pages.specs.Greatest.{most_of_page}
use Rattle.pages.specs.Page.{IsPage, entries, dictionary, values}

-- the encodings in which values of a leaf of this type are written, indexes of a dictionary aside
abbrev pub IsEncodingFor : Kind → Encoding → Type 0
IsEncodingFor kind Plain = Unit {0}
IsEncodingFor Boolean Rle = Unit {0}
IsEncodingFor Int32 DeltaBinaryPacked = Unit {0}
IsEncodingFor Int64 DeltaBinaryPacked = Unit {0}
IsEncodingFor ByteArray DeltaLengthByteArray = Unit {0}
IsEncodingFor ByteArray DeltaByteArray = Unit {0}
IsEncodingFor (FixedLenByteArray n) DeltaByteArray = Unit {0}
IsEncodingFor kind ByteStreamSplit = CanBeSplit kind
IsEncodingFor kind encoding = ⊥

-- a page of n entries with these values weighs 1,024 bytes, 64 an entry, and the bytes of its byte values
abbrev pub weight_of : ℕ → List ValueTree → ℕ
weight_of n vs = 1024 + 64 * n + text_size vs

-- what a page of these entries weighs: 1,024 bytes, 64 an entry, and the bytes of its byte values
abbrev pub page_weight : List Entry → ℕ
page_weight es = weight_of (length es) (values es)

-- none of the values is longer than a value may be
abbrev pub AreShort : List Entry → Type 0
AreShort es = AllByRecursion (λ v. IsTooLong v → ⊥) (values es)

-- a value is too long, or the page weighs more than a page may have
pub data IsPageTooMuch (es : List Entry) : Type 0 where
  long_value : Any IsTooLong (values es) → IsPageTooMuch es
  heavy_page : most_of_page < page_weight es → IsPageTooMuch es

-- The page stands for these entries in a chunk that has any dictionary: its values are not indexes.
abbrev pub StandsAsPage : Leaf → List Entry → List ℕ → ℕ → Type 0
StandsAsPage leaf es bytes used = (d : Option (List ValueTree)) → IsPage leaf d bytes (entries es) used

-- The page stands for these entries in each chunk whose dictionary has so many entries, and the entries' values at these indexes.
abbrev pub StandsByIndexes : Leaf → ℕ → List ℕ → List Entry → List ℕ → ℕ → Type 0
StandsByIndexes leaf size indexes es bytes used =
    (d : List ValueTree) → length d ≡ size → AreEntriesAt d indexes (values es) → IsPage leaf (Some d) bytes (entries es) used

-- an index for each value of the entries, none of them past the end of a dictionary with so many entries
abbrev pub AreIndexesFor : ℕ → List ℕ → List Entry → Type 0
AreIndexesFor size indexes es = (length indexes ≡ length (values es)) × All (λ i. i < size) indexes

-- the page is that of a dictionary with these entries, in a chunk of any leaf of this type
abbrev pub StandsAsDictionary : Kind → List ValueTree → List ℕ → ℕ → Type 0
StandsAsDictionary kind vs bytes used =
    (leaf : Leaf) (d : Option (List ValueTree)) → leaf.leaf_type.kind ≡ kind → IsPage leaf d bytes (dictionary vs) used

-- an entry of a dictionary is too long, or its page weighs more than a page may have
abbrev pub IsDictionaryTooMuch : List ValueTree → Type 0
IsDictionaryTooMuch vs = Any IsTooLong vs ⊎ (most_of_page < weight_of (length vs) vs)

-- what entries are refused for that should make a page of this encoding
abbrev pub IsOfWriting : Kind → Encoding → Refusal → Type 0
IsOfWriting kind encoding Levels = Unit {0}
IsOfWriting kind encoding Value = Unit {0}
IsOfWriting kind encoding EncodingFault = IsEncodingFor kind encoding → ⊥
IsOfWriting kind encoding Limit = Unit {0}
IsOfWriting kind encoding _ = ⊥

-- what entries are refused for that should make a page, where no encoding is refused
abbrev pub IsOfEntries : Refusal → Type 0
IsOfEntries Levels = Unit {0}
IsOfEntries Value = Unit {0}
IsOfEntries Limit = Unit {0}
IsOfEntries _ = ⊥

-- a page of n entries as indexes weighs 1,024 bytes and 32 an entry
abbrev pub index_weight : ℕ → ℕ
index_weight n = 1024 + 32 * n

-- the page of a dictionary weighs 1,024 bytes, 32 an entry, and the bytes of its byte values
abbrev pub dictionary_weight : List ValueTree → ℕ
dictionary_weight vs = 1024 + 32 * length vs + text_size vs
