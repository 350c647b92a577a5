-- Which entries the pages of a chunk hold: parquet-format, README.md, "Column chunks".
use Rattle.std.specs.Prelude.{◌≡◌, ℕ, ◌<◌, Bool, true, false, List, [], ◌∷◌, ◌++◌, map, flat_map, filter, length, take, Option, Some, None}
use Rattle.bits.specs.Codec.{InTurn}
use Rattle.schema.specs.Values.{ValueTree}
use Rattle.schema.specs.Stripe.{Leaf, Entry}
use Rattle.pages.specs.Page.{Page, skipped, dictionary, entries, IsPage}

-- a page is not skipped: it is a dictionary, or has entries
abbrev pub is_read : Page → Bool
is_read skipped = false
is_read (dictionary vs) = true
is_read (entries es) = true

-- the page that a dictionary has
abbrev pub dictionary_page : Option (List ValueTree) → List Page
dictionary_page None = []
dictionary_page (Some vs) = dictionary vs ∷ []

-- the entries of a page; none if it is skipped, or a dictionary
abbrev pub entries_of : Page → List Entry
entries_of skipped = []
entries_of (dictionary vs) = []
entries_of (entries es) = es

-- the entries of pages, one page after another
abbrev pub all_entries : List Page → List Entry
all_entries pages = flat_map entries_of pages

-- The chunk that begins here has n entries, these, and its pages fill the first `used` bytes: they are read until they
-- hold so many. The skipped ones aside, a dictionary comes first where there is one, and all others have entries.
pub record IsChunk (leaf : Leaf) (bytes : List ℕ) (n : ℕ) (es : List Entry) (used : ℕ) : Type 0 where
  pub pages : List Page
  pub dictionary_values : Option (List ValueTree)
  pub parts : List (List Entry)
  pub spelled : InTurn (IsPage leaf dictionary_values) bytes pages used
  pub in_order : filter is_read pages ≡ dictionary_page dictionary_values ++ map entries parts
  pub joined : es ≡ all_entries pages
  pub count : length es ≡ n
  pub until : (k : ℕ) → k < length pages → length (all_entries (take k pages)) < n
