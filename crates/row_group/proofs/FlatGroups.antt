-- The rows of a group of a flat schema, by the entries of its chunks.
use Rattle.std.proofs.Common.{◌≡◌, ℕ, true, List, [], ◌∷◌, length, drop, Option, sym, subst}
use Rattle.std.specs.Prelude.{pos}
use Rattle.std.specs.List.{AllByRecursion}
use Rattle.lists.proofs.Lists.{all_append as all_joined}
use Rattle.bits.specs.Codec.{InTurn}
use Rattle.schema.specs.Values.{ValueTree}
use Rattle.schema.specs.Shape.{Fields}
use Rattle.schema.specs.Stripe.{Leaf, Entry, leaves_of}
use Rattle.schema.specs.Law.{IsEntryOf}
use Rattle.metadata.specs.Records.{ColumnMeta, ChunkMeta, GroupMeta}
use Rattle.pages.specs.Page.{Page, IsPage}
use Rattle.pages.specs.Chunk.{all_entries, entries_of}
use Rattle.assemble.specs.Flat.{is_flat, HaveEntries, FlatColumnsHaveRows}
use Rattle.row_group.specs.Chunks.{ChunkMeans}
use Rattle.row_group.specs.inner.Readers.{AreSound, HasRows}
use Rattle.row_group.specs.inner.Counts.{HaveCounts}
use Rattle.row_group.proofs.PageSteps.{page_of_leaf}

-- the entries of pages are their leaf's
pages_of_leaf : (leaf : Leaf) (d : Option (List ValueTree)) (bytes : List ℕ) (pages : List Page) (used : ℕ) → InTurn (IsPage leaf d) bytes pages used → AllByRecursion (IsEntryOf leaf) (all_entries pages)
pages_of_leaf leaf d bytes [] used h = tt
pages_of_leaf leaf d bytes (p ∷ pages) used h = all_joined (IsEntryOf leaf) (entries_of p) (all_entries pages) (page_of_leaf leaf d bytes p h.0 h.2) (pages_of_leaf leaf d (drop h.0 bytes) pages h.1 h.3)

-- so are those of a chunk
chunk_of_leaf : (m : ColumnMeta) (leaf : Leaf) (bytes : List ℕ) (es : List Entry) (used : ℕ) → ChunkMeans m leaf bytes es used → AllByRecursion (IsEntryOf leaf) es
chunk_of_leaf m leaf bytes es used h = subst (AllByRecursion (IsEntryOf leaf)) (sym h.held.joined) (pages_of_leaf leaf h.held.dictionary_values bytes h.held.pages used h.held.spelled)

-- and it has as many as its record says
counted : (m : ColumnMeta) (leaf : Leaf) (bytes : List ℕ) (es : List Entry) (used n : ℕ) → m.num_values ≡ pos n → ChunkMeans m leaf bytes es used → length es ≡ n
counted m leaf bytes es used n says h = let is = h.count in cc

have_entries : (front : List ℕ) (n : ℕ) (cs : List ChunkMeta) (ls : List Leaf) (cols : List (List Entry)) → HaveCounts n cs → AreSound front cs ls cols → HaveEntries n ls cols
have_entries front n [] [] [] counts h = tt
have_entries front n [] [] (es ∷ cols) counts h = absurd h
have_entries front n [] (l ∷ ls) cols counts h = absurd h
have_entries front n (c ∷ cs) [] cols counts h = absurd h
have_entries front n (c ∷ cs) (l ∷ ls) [] counts h = absurd h
have_entries front n (c ∷ cs) (l ∷ ls) (es ∷ cols) counts h =
    let m = h.0.0 in (
      counted c.meta_data l (drop m.start front) es m.used n counts.0 m.means,
      chunk_of_leaf c.meta_data l (drop m.start front) es m.used m.means,
      have_entries front n cs ls cols counts.1 h.1,
    )

pub flat_rows : FlatColumnsHaveRows → (front : List ℕ) (fs : Fields) (g : GroupMeta) (n : ℕ) → is_flat fs ≡ true → HaveCounts n g.columns
    → (cols : List (List Entry)) × AreSound front g.columns (leaves_of fs) cols → HasRows front fs g n
flat_rows law front fs g n flat counts sound =
    let w = law fs n sound.0 flat (have_entries front n g.columns (leaves_of fs) sound.0 counts sound.1) in
    record { rows = w.0; count = w.1.0; fit = w.1.1.fit; sound = subst (AreSound front g.columns (leaves_of fs)) (sym w.1.1.have) sound.1 }
