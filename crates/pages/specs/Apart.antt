-- What one page of some bytes says of every other page of them.
use Rattle.std.specs.Prelude.{◌≡◌, ◌≤◌, ℕ, Option, List, [], length}
use Rattle.schema.specs.Values.{ValueTree}
use Rattle.schema.specs.Stripe.{Leaf, Entry}
use Rattle.pages.specs.Page.{Page, skipped, dictionary, entries, IsPage}
use Rattle.pages.specs.Chunk.{entries_of}

-- a page without entries of its own: one that is passed over, or a dictionary
abbrev pub HasNoEntries : Page → Type 0
HasNoEntries skipped = Unit {0}
HasNoEntries (dictionary vs) = Unit {0}
HasNoEntries (entries es) = ⊥

-- a page without entries is the same page whatever dictionary the chunk has
abbrev pub DictionaryIsNotRead : Type 0
DictionaryIsNotRead = (leaf : Leaf) (c d : Option (List ValueTree)) (bytes : List ℕ) (page : Page) (used : ℕ)
    → HasNoEntries page → IsPage leaf c bytes page used → IsPage leaf d bytes page used

-- where a data page stands, no page without entries does, whatever dictionary the chunk has
abbrev pub EntriesStandAlone : Type 0
EntriesStandAlone = (leaf : Leaf) (c d : Option (List ValueTree)) (bytes : List ℕ) (es : List Entry) (page : Page) (used taken : ℕ)
    → IsPage leaf c bytes (entries es) used → HasNoEntries page → IsPage leaf d bytes page taken → ⊥

-- no page is made of no bytes
abbrev pub NoPageOfNoBytes : Type 0
NoPageOfNoBytes = (leaf : Leaf) (d : Option (List ValueTree)) (page : Page) (used : ℕ) → IsPage leaf d [] page used → ⊥

-- whatever page stands here is this one
abbrev pub IsOnlyPage : Leaf → Option (List ValueTree) → List ℕ → Page → ℕ → Type 0
IsOnlyPage leaf d bytes page used = (other : Page) (taken : ℕ) → IsPage leaf d bytes other taken → (other ≡ page) × (taken ≡ used)

-- a page with at most this many entries stands here
abbrev pub IsPageOfAtMost : ℕ → Leaf → Option (List ValueTree) → List ℕ → Page → ℕ → Type 0
IsPageOfAtMost left leaf d bytes page used = IsPage leaf d bytes page used × (length (entries_of page) ≤ left)
