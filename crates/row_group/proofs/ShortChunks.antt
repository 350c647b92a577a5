-- Chunks without a value that is too long go beyond no limit.
use Rattle.std.proofs.Common.{◌≡◌, ℕ, zero, suc, ◌+◌, ◌<◌, ◌≤◌, List, [], ◌∷◌, ◌++◌, length, drop, Some, refl, sym, ap, subst, ◌∙◌, arith, append_assoc}
use Rattle.std.specs.Prelude.{◌<ℤ◌, slice_get}
use Rattle.std.specs.List.{AllByRecursion}
use Rattle.std.proofs.lemmas.List.{length-append, length-drop, drop_at}
use Rattle.schema.specs.Values.{ValueTrees}
use Rattle.schema.specs.Shape.{Fields}
use Rattle.schema.specs.Stripe.{Leaf, Entry, leaves_of, columns}
use Rattle.metadata.specs.Records.{ColumnMeta, ChunkMeta, GroupMeta}
use Rattle.pages.specs.Page.{Page}
use Rattle.pages.specs.Chunk.{dictionary_page, entries_of, all_entries}
use Rattle.pages.specs.Apart.{DictionaryIsNotRead}
use Rattle.pages.specs.ShortPages.{HasShortValues, ShortPagesAreWithinLimits}
use Rattle.row_group.specs.declared.options.ChunkOptions.{ChunkOptions}
use Rattle.row_group.specs.Greatest.{most_rows}
use Rattle.row_group.specs.Limits.{IsChunkOver, BeginsWith, IsGroupOver, many_rows, large_chunk}
use Rattle.row_group.specs.Rest.{dictionary_of, ChunkLeft, all_pages, AreNext, HasRestOver}
use Rattle.row_group.specs.Writing.{AppendsChunk, AppendsEach, AppendsGroup}
use Rattle.row_group.specs.inner.Parts.{IsShortChunk}
use Rattle.row_group.proofs.NextPages.{first_page, may_come, after, IsHere, begins, passes_page}
use Rattle.row_group.proofs.OneMeaning.{one_start}
use Rattle.row_group.proofs.OneRest.{PagesAreOne}
use Rattle.row_group.proofs.WholeChunk.{IsRecord, rest_of_over}
use Rattle.row_group.proofs.Laid.{each_joined}

-- ---- one chunk

-- where pages without a value that is too long fill what is left, none of them is over a limit
no_rest_over : PagesAreOne → DictionaryIsNotRead → ShortPagesAreWithinLimits → (s : ChunkLeft) (pages : List Page) (u : ℕ) → AreNext s pages u → u ≤ length s.bytes → length (all_entries pages) ≡ s.lacking → AllByRecursion HasShortValues pages → HasRestOver s → ⊥
no_rest_over one unread short s [] u next inside count small h = let f = h.fewer in omega (arith, f, count)
no_rest_over one unread short s (p ∷ ps) u next inside count small h =
    let turn = next.spelled in
    let ends = turn.4 in
    let stands = first_page unread s.leaf s.known next.dictionary_values next.first s.bytes p ps next.parts turn.0 next.is_known next.in_order turn.2 in
    let lacking = length (all_entries ps) in
    let left : lacking + length (entries_of p) ≡ s.lacking = omega (arith, count, length-append (entries_of p) (all_entries ps)) in
    let some : 0 < s.lacking = let f = h.fewer in omega (arith, f) in
    let here : IsHere s p turn.0 = record {
      stands = stands;
      only = λ other taken q. one s.leaf (dictionary_of s.known) s.bytes other p taken turn.0 q stands;
      within = omega (arith, ends, inside);
      few = omega (arith, left);
      short = short s.leaf (dictionary_of s.known) s.bytes p turn.0 stands small.0;
    } in
    let rest = begins unread s p turn.0 lacking p ps u here next in
    let size = rest.size in
    let passes = passes_page unread s p turn.0 lacking some here (may_come s.known next.dictionary_values next.first p ps next.parts next.is_known next.in_order) left in
    no_rest_over one unread short (after s p turn.0 lacking) ps rest.rest rest.are_next (omega (arith, size, inside, length-drop turn.0 s.bytes)) refl small.1 (passes.over_onward h)

pub short_chunk : PagesAreOne → DictionaryIsNotRead → ShortPagesAreWithinLimits → (m : ColumnMeta) (leaf : Leaf) (bytes : List ℕ) (es : List Entry) (used : ℕ) → IsShortChunk leaf bytes es used → used ≤ length bytes → IsRecord m leaf (length es)
    → IsChunkOver m leaf bytes → ⊥
short_chunk one unread short m leaf bytes es used held inside is over =
    let c = held.chunk in
    let next : AreNext (all_pages leaf bytes (length es)) c.pages used = record {
      dictionary_values = c.dictionary_values;
      first = dictionary_page c.dictionary_values;
      parts = c.parts;
      is_known = refl;
      spelled = c.spelled;
      in_order = c.in_order;
    } in
    no_rest_over one unread short (all_pages leaf bytes (length es)) c.pages used next inside (sym (ap length c.joined)) held.short (rest_of_over m leaf bytes (length es) is over)

-- ---- one after the other

chunk_within : (m : ColumnMeta) (leaf : Leaf) (o : ChunkOptions) (old new : List ℕ) (es : List Entry) → AppendsChunk leaf o old new m es → (more : List ℕ) → BeginsWith (new ++ more) IsChunkOver m leaf → ⊥
chunk_within m leaf o old new es p more (start, starts, over) =
    let whole : new ++ more ≡ old ++ (p.text ++ more) = ap (λ (t : List ℕ). t ++ more) p.joined ∙ append_assoc old p.text more in
    let behind : drop (length old) (new ++ more) ≡ p.text ++ more = ap (λ (t : List ℕ). drop (length old) t) whole ∙ drop_at old (p.text ++ more) (length old) refl in
    let same = one_start m start (length old) starts p.starts in
    p.within_limits more (subst (IsChunkOver m leaf) behind (subst (λ (n : ℕ). IsChunkOver m leaf (drop n (new ++ more))) same over))

each_within : (o : ChunkOptions) (leaves : List Leaf) (cols : List (List Entry)) (old new : List ℕ) (cs : List ChunkMeta) → AppendsEach o leaves cols old new cs → (more : List ℕ) (k : ℕ) (c : ChunkMeta) (leaf : Leaf)
    → slice_get cs k ≡ Some c → slice_get leaves k ≡ Some leaf → BeginsWith (new ++ more) IsChunkOver c.meta_data leaf → ⊥
each_within o leaves cols old new [] p more k c leaf of_group of_schema over = cc
each_within o [] cols old new (x ∷ cs) p more k c leaf of_group of_schema over = cc
each_within o (l ∷ leaves) [] old new (x ∷ cs) p more k c leaf of_group of_schema over = absurd p
each_within o (l ∷ leaves) (es ∷ cols) old new (x ∷ cs) p more zero c leaf of_group of_schema over =
    let chunk : c ≡ x = cc in
    let here : leaf ≡ l = cc in
    let rest = each_joined o leaves cols p.0 new cs p.3 in
    let same : new ++ more ≡ p.0 ++ (rest.0 ++ more) = ap (λ (t : List ℕ). t ++ more) rest.1 ∙ append_assoc p.0 rest.0 more in
    chunk_within x.meta_data l o old p.0 es p.1 (rest.0 ++ more)
    (subst (λ (t : List ℕ). BeginsWith t IsChunkOver x.meta_data l) same
    (subst (λ (t : Leaf). BeginsWith (new ++ more) IsChunkOver x.meta_data t) here (subst (λ (t : ChunkMeta). BeginsWith (new ++ more) IsChunkOver t.meta_data leaf) chunk over)))
each_within o (l ∷ leaves) (es ∷ cols) old new (x ∷ cs) p more (suc k) c leaf of_group of_schema over = each_within o leaves cols p.0 new cs p.3 more k c leaf of_group of_schema over

-- ---- a group

pub group_within : (fs : Fields) (o : ChunkOptions) (old new : List ℕ) (g : GroupMeta) (rows : List ValueTrees) → AppendsGroup fs o old new g rows → (more : List ℕ) → IsGroupOver (new ++ more) fs g → ⊥
group_within fs o old new g rows p more (many_rows many) = p.few (subst (λ z. most_rows <ℤ z) p.count many)
group_within fs o old new g rows p more (large_chunk h) = each_within o (leaves_of fs) (columns fs rows) old new g.columns p.chunks more h.k h.chunk h.leaf h.of_group h.of_schema h.is
