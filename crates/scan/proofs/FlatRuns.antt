-- The pieces of a run of a flat schema, by the entries of its chunks.
use Rattle.std.proofs.Common.{◌≡◌, ℕ, zero, suc, pos, Bool, true, false, List, [], ◌∷◌, length, map, drop, Option, Some, refl, ap, sym, subst, ◌∙◌}
use Rattle.std.specs.Prelude.{cond}
use Rattle.std.specs.List.{AllByRecursion, slice_get}
use Rattle.lists.proofs.Lists.{all_append as all_joined}
use Rattle.bits.specs.Codec.{InTurn}
use Rattle.schema.specs.Cutting.{Shown, shown, cut_to, CutHasLeaves}
use Rattle.schema.specs.Law.{IsSchema, IsEntry, IsEntryOf}
use Rattle.schema.specs.Shape.{Fields}
use Rattle.schema.specs.Stripe.{Leaf, Entry, leaves_of}
use Rattle.schema.specs.Values.{ValueTree, ValueTrees}
use Rattle.metadata.specs.Records.{ColumnMeta, ChunkMeta}
use Rattle.metadata.specs.Views.{chunk_meta_view}
use Rattle.pages.specs.Page.{Page, IsPage}
use Rattle.pages.specs.Chunk.{all_entries, entries_of}
use Rattle.assemble.specs.Columns.{Columns}
use Rattle.assemble.specs.Flat.{is_flat, HaveEntries, FlatColumnsHaveRows}
use Rattle.row_group.specs.Chunks.{ChunkMeans}
use Rattle.row_group.proofs.PageSteps.{page_of_leaf}
use Rattle.scan.specs.declared.held.Held.{Held}
use Rattle.scan.specs.declared.leaf_uses.LeafUse.{LeafUse}
use Rattle.scan.specs.declared.parts.Part.{Part}
use Rattle.scan.specs.declared.parts.Part.TheVariants.{Given, Read}
use Rattle.scan.specs.declared.parts.Run.{Run}
use Rattle.scan.specs.Left.{RunHolds}
use Rattle.scan.specs.inner.Parts.{Making, IsPartOf, ArePartsOf, IsCutPart, AreCutParts}
use Rattle.scan.specs.inner.Texts.{IsHeld, AreHeld, HoldColumns, AreCounted, text_for, texts_view}
use Rattle.scan.specs.inner.Uses.{is_picked, numbers_of, picked}
use Rattle.scan.proofs.Ranges.{the_chunk}
use Rattle.scan.proofs.UseLaws.{picked_at}

-- ---- the entries of a chunk

pages_of_leaf : (leaf : Leaf) (d : Option (List ValueTree)) (bytes : List ℕ) (pages : List Page) (used : ℕ) → InTurn (IsPage leaf d) bytes pages used → AllByRecursion (IsEntryOf leaf) (all_entries pages)
pages_of_leaf leaf d bytes [] used h = tt
pages_of_leaf leaf d bytes (p ∷ pages) used h = all_joined (IsEntryOf leaf) (entries_of p) (all_entries pages) (page_of_leaf leaf d bytes p h.0 h.2) (pages_of_leaf leaf d (drop h.0 bytes) pages h.1 h.3)

chunk_of_leaf : (m : ColumnMeta) (leaf : Leaf) (bytes : List ℕ) (es : List Entry) (used : ℕ) → ChunkMeans m leaf bytes es used → AllByRecursion (IsEntryOf leaf) es
chunk_of_leaf m leaf bytes es used h = subst (AllByRecursion (IsEntryOf leaf)) (sym h.held.joined) (pages_of_leaf leaf h.held.dictionary_values bytes h.held.pages used h.held.spelled)

counted : (m : ColumnMeta) (leaf : Leaf) (bytes : List ℕ) (es : List Entry) (used n : ℕ) → m.num_values ≡ pos n → ChunkMeans m leaf bytes es used → length es ≡ n
counted m leaf bytes es used n says h = let is = h.count in cc

held_counted : (cs : List ChunkMeta) (n k : ℕ) (l : Leaf) (t : List ℕ) (es : List Entry) → IsHeld cs k l t es → (c : ChunkMeta) → slice_get cs k ≡ Some c → c.meta_data.num_values ≡ pos n → length es ≡ n
held_counted cs n k l t es h c there says =
    counted c.meta_data l t es h.used n says (subst (λ (d : ChunkMeta). ChunkMeans d.meta_data l t es h.used) (the_chunk cs k c h.chunk there h.there) h.means)

-- ---- the columns that are picked

pub picked_entries : (cs : List ChunkMeta) (n : ℕ) (ls : List Leaf) (us : List LeafUse) (ts ss : List (List ℕ)) (cols : Columns) → AreHeld false cs ls us ts ss cols → AreCounted cs n us → HaveEntries n (picked false us ls) (picked false us cols)
picked_entries cs n [] [] [] [] [] h k = tt
picked_entries cs n [] [] [] [] (c ∷ cols) h k = absurd h
picked_entries cs n [] [] [] (s ∷ ss) cols h k = absurd h
picked_entries cs n [] [] (t ∷ ts) ss cols h k = absurd h
picked_entries cs n [] (u ∷ us) ts ss cols h k = absurd h
picked_entries cs n (l ∷ ls) [] ts ss cols h k = absurd h
picked_entries cs n (l ∷ ls) (u ∷ us) [] ss cols h k = absurd h
picked_entries cs n (l ∷ ls) (u ∷ us) (t ∷ ts) [] cols h k = absurd h
picked_entries cs n (l ∷ ls) (u ∷ us) (t ∷ ts) (s ∷ ss) [] h k = absurd h
picked_entries cs n (l ∷ ls) (u ∷ us) (t ∷ ts) (s ∷ ss) (es ∷ cols) h k = by (is_picked false u) refl (picked_entries cs n ls us ts ss cols h.1 k.1)
  where
    by : (p : Bool) → is_picked false u ≡ p → HaveEntries n (picked false us ls) (picked false us cols) → HaveEntries n (cond p (l ∷ picked false us ls) (picked false us ls)) (cond p (es ∷ picked false us cols) (picked false us cols))
    by true is rest =
        let held = h.0 is in
        let record_is = k.0 is in
        (held_counted cs n u.chunk l (text_for u t s) es held record_is.0 record_is.1 record_is.2, chunk_of_leaf held.chunk.meta_data l (text_for u t s) es held.used held.means, rest)
    by false is rest = rest

-- ---- leaves that are alike, but for their steps

abbrev HaveShown : ℕ → List Shown → Columns → Type 0
HaveShown n [] [] = Unit {0}
HaveShown n (l ∷ ls) (es ∷ cs) = (length es ≡ n) × AllByRecursion (IsEntry l.greatest_repetition l.greatest_definition l.leaf_type) es × HaveShown n ls cs
HaveShown n _ _ = ⊥

to_shown : (n : ℕ) (ls : List Leaf) (cs : Columns) → HaveEntries n ls cs → HaveShown n (map shown ls) cs
to_shown n [] [] h = tt
to_shown n [] (es ∷ cs) h = absurd h
to_shown n (l ∷ ls) [] h = absurd h
to_shown n (l ∷ ls) (es ∷ cs) h = (h.0, h.1, to_shown n ls cs h.2)

from_shown : (n : ℕ) (ls : List Leaf) (cs : Columns) → HaveShown n (map shown ls) cs → HaveEntries n ls cs
from_shown n [] [] h = tt
from_shown n [] (es ∷ cs) h = absurd h
from_shown n (l ∷ ls) [] h = absurd h
from_shown n (l ∷ ls) (es ∷ cs) h = (h.0, h.1, from_shown n ls cs h.2)

pub same_entries : (n : ℕ) (ls ms : List Leaf) (cs : Columns) → map shown ms ≡ map shown ls → HaveEntries n ls cs → HaveEntries n ms cs
same_entries n ls ms cs same h = from_shown n ms cs (subst (λ (xs : List Shown). HaveShown n xs cs) (sym same) (to_shown n ls cs h))

-- ---- a run

held_size : (b : Bool) (cs : List ChunkMeta) (ls : List Leaf) (us : List LeafUse) (ts ss : List (List ℕ)) (cols : Columns) → AreHeld b cs ls us ts ss cols → length us ≡ length ls
held_size b cs [] [] ts ss cols h = refl
held_size b cs [] (u ∷ us) ts ss cols h = absurd h
held_size b cs (l ∷ ls) [] ts ss cols h = absurd h
held_size b cs (l ∷ ls) (u ∷ us) [] ss cols h = absurd h
held_size b cs (l ∷ ls) (u ∷ us) (t ∷ ts) [] cols h = absurd h
held_size b cs (l ∷ ls) (u ∷ us) (t ∷ ts) (s ∷ ss) [] h = absurd h
held_size b cs (l ∷ ls) (u ∷ us) (t ∷ ts) (s ∷ ss) (es ∷ cols) h = ap suc (held_size b cs ls us ts ss cols h.1)

pub run_flat : FlatColumnsHaveRows → CutHasLeaves → (h : Held) (run : Run) (n : ℕ) → IsSchema run.schema → run.schema ≡ cut_to (numbers_of false 0 run.uses.items) h.schema → is_flat run.schema ≡ true
    → AreCounted (map chunk_meta_view h.chunks.items) n run.uses.items
    → HoldColumns false (map chunk_meta_view h.chunks.items) (leaves_of h.schema) run.uses.items (texts_view h.first.items) (texts_view h.later.items)
    → (pieces : List ValueTrees) × RunHolds h run pieces × (length pieces ≡ n)
run_flat law leaves_law h run n valid cut flat counts accepted =
    let us = run.uses.items in
    let ls = leaves_of h.schema in
    let cols = accepted.0 in
    let size = held_size false (map chunk_meta_view h.chunks.items) ls us (texts_view h.first.items) (texts_view h.later.items) cols accepted.1 in
    let same : map shown (leaves_of run.schema) ≡ map shown (picked false us ls) =
    ap (λ (fs : Fields). map shown (leaves_of fs)) cut ∙ leaves_law (numbers_of false 0 us) h.schema ∙ ap (map shown) (picked_at false us ls size) in
    let have = same_entries n (picked false us ls) (leaves_of run.schema) (picked false us cols) same
    (picked_entries (map chunk_meta_view h.chunks.items) n ls us (texts_view h.first.items) (texts_view h.later.items) cols accepted.1 counts) in
    let rows = law run.schema n (picked false us cols) flat have in
    (rows.0, record { schema = valid; fit = rows.1.1.fit; cols = cols; held = accepted.1; same = sym rows.1.1.have }, rows.1.0)

-- ---- parts

pub parts_cut : (m : Making) (places : List ℕ) (parts : List Part) → ArePartsOf m places parts → AreCutParts m.fields parts
parts_cut m places [] made k p there = absurd (cc)
parts_cut m places (q ∷ parts) made zero p there = let same : q ≡ p = cc in subst (IsCutPart m.fields) same (by q made.4)
  where
    by : (x : Part) → IsPartOf m made.0 x → IsCutPart m.fields x
    by (Given row) is = tt
    by (Read run) is = is.1.is
parts_cut m places (q ∷ parts) made (suc k) p there = parts_cut m made.1 parts made.5 k p there
