-- What is left of a chunk's pages once some of them were read: parquet-format, README.md, "Column chunks".
use Rattle.std.specs.Prelude.{◌≡◌, ℕ, ◌<◌, List, [], ◌++◌, map, filter, length, take, drop, Option, None}
use Rattle.bits.specs.Codec.{InTurn}
use Rattle.schema.specs.Values.{ValueTree}
use Rattle.schema.specs.Stripe.{Leaf, Entry}
use Rattle.pages.specs.Page.{Page, entries, IsPage}
use Rattle.pages.specs.Chunk.{is_read, dictionary_page, all_entries}
use Rattle.pages.specs.Limits.{IsPageOver}

-- what the pages that were read say of the chunk's dictionary: nothing where all were skipped, else that it is this, or that there is none
pub data Known : Type 0 where
  nothing : Known
  known : Option (List ValueTree) → Known

-- the dictionary, as far as it is known
abbrev pub dictionary_of : Known → Option (List ValueTree)
dictionary_of nothing = None
dictionary_of (known d) = d

-- a chunk of a leaf: what is known of its dictionary, the bytes after the pages that were read, and how many entries these lack
pub record ChunkLeft : Type 0 where
  pub leaf : Leaf
  pub known : Known
  pub bytes : List ℕ
  pub lacking : ℕ

-- a chunk of n entries with no page read
abbrev pub all_pages : Leaf → List ℕ → ℕ → ChunkLeft
all_pages leaf bytes n = record { leaf = leaf; known = nothing; bytes = bytes; lacking = n }

-- the dictionary that the pages have, and the page that it still has to have
abbrev pub IsKnown : Known → Option (List ValueTree) → List Page → Type 0
IsKnown nothing d first = first ≡ dictionary_page d
IsKnown (known c) d first = (d ≡ c) × (first ≡ [])

-- These pages stand as the next ones, one after the other, and fill the next `used` bytes: the skipped ones aside, a dictionary comes first
-- where one may come and does, and all others have entries.
pub record AreNext (s : ChunkLeft) (pages : List Page) (used : ℕ) : Type 0 where
  pub dictionary_values : Option (List ValueTree)
  pub first : List Page
  pub parts : List (List Entry)
  pub is_known : IsKnown s.known dictionary_values first
  pub spelled : InTurn (IsPage s.leaf dictionary_values) s.bytes pages used
  pub in_order : filter is_read pages ≡ first ++ map entries parts

-- The pages that are left hold the entries that are lacking, these, and fill the next `used` bytes. (With no page read: `IsChunk`.)
pub record HoldsRest (s : ChunkLeft) (es : List Entry) (used : ℕ) : Type 0 where
  pub pages : List Page
  pub are_next : AreNext s pages used
  pub joined : es ≡ all_entries pages
  pub count : length es ≡ s.lacking
  pub until : (k : ℕ) → k < length pages → length (all_entries (take k pages)) < s.lacking

-- After pages that stand as the next ones, and that hold fewer entries than are lacking, one page has a value that is too long.
-- (With no page read: `HasPageOver`.)
pub record HasRestOver (s : ChunkLeft) : Type 0 where
  pub before : List Page
  pub at : ℕ
  pub are_next : AreNext s before at
  pub fewer : length (all_entries before) < s.lacking
  pub over : IsPageOver s.leaf (drop at s.bytes)
