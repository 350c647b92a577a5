-- Chunks that lie one after the other: what they leave, and what they mean.
use Rattle.std.proofs.Common.{◌≡◌, ℕ, ◌+◌, ◌≤◌, List, [], ◌∷◌, ◌++◌, length, take, drop, refl, sym, ap, subst, ◌∙◌, arith, append_assoc}
use Rattle.std.specs.List.{AllByRecursion}
use Rattle.std.proofs.lemmas.List.{append-nil, length-append, take_at, drop_at}
use Rattle.schema.specs.Values.{ValueTrees}
use Rattle.schema.specs.Shape.{Fields}
use Rattle.schema.specs.Stripe.{Leaf, Entry, leaves_of, columns}
use Rattle.metadata.specs.Records.{ColumnMeta, ChunkMeta, GroupMeta}
use Rattle.row_group.specs.Chunks.{ChunkMeans, ColumnMeans, AreChunks, GroupMeans}
use Rattle.row_group.specs.declared.options.ChunkOptions.{ChunkOptions}
use Rattle.row_group.specs.Paged.{columns_weight}
use Rattle.row_group.specs.inner.Columns.{HasRows}
use Rattle.row_group.proofs.PageCounts.{few_pages}
use Rattle.row_group.specs.Writing.{IsOwnChunk, AppendsChunk, AppendsEach, AppendsGroup}

-- ---- one chunk

-- the bytes hold it where its record says, whatever follows
column_means : (m : ColumnMeta) (leaf : Leaf) (o : ChunkOptions) (old new : List ℕ) (es : List Entry) → AppendsChunk leaf o old new m es → (more : List ℕ) → ColumnMeans (new ++ more) m leaf es
column_means m leaf o old new es p more =
    let whole : new ++ more ≡ old ++ (p.text ++ more) = ap (λ (t : List ℕ). t ++ more) p.joined ∙ append_assoc old p.text more in
    let behind : drop (length old) (new ++ more) ≡ p.text ++ more = ap (λ (t : List ℕ). drop (length old) t) whole ∙ drop_at old (p.text ++ more) (length old) refl in
    record {
      start = length old;
      used = length p.text;
      starts = p.starts;
      means = subst (λ (t : List ℕ). ChunkMeans m leaf t es (length p.text)) (sym behind) (p.fills more);
    }

-- ---- one after the other

pub each_joined : (o : ChunkOptions) (leaves : List Leaf) (cols : List (List Entry)) (old new : List ℕ) (cs : List ChunkMeta) → AppendsEach o leaves cols old new cs → (text : List ℕ) × (new ≡ old ++ text)
each_joined o [] [] old new [] p = ([], p ∙ sym (append-nil old))
each_joined o [] [] old new (c ∷ cs) p = absurd p
each_joined o [] (es ∷ cols) old new cs p = absurd p
each_joined o (leaf ∷ leaves) [] old new cs p = absurd p
each_joined o (leaf ∷ leaves) (es ∷ cols) old new [] p = absurd p
each_joined o (leaf ∷ leaves) (es ∷ cols) old new (c ∷ cs) p =
    let rest = each_joined o leaves cols p.0 new cs p.3 in
    (p.1.text ++ rest.0, rest.1 ∙ ap (λ (t : List ℕ). t ++ rest.0) p.1.joined ∙ append_assoc old p.1.text rest.0)

-- what was there stays
pub each_kept : (o : ChunkOptions) (leaves : List Leaf) (cols : List (List Entry)) (old new : List ℕ) (cs : List ChunkMeta) → AppendsEach o leaves cols old new cs → (take (length old) new ≡ old) × (length old ≤ length new)
each_kept o leaves cols old new cs p =
    let whole = each_joined o leaves cols old new cs p in
    (ap (take (length old)) whole.1 ∙ take_at old whole.0 (length old) refl, omega (arith, ap length whole.1, length-append old whole.0))

-- they weigh at most what the pages of so many rows do
pub each_short : (o : ChunkOptions) (n : ℕ) (leaves : List Leaf) (cols : List (List Entry)) (old new : List ℕ) (cs : List ChunkMeta) → AllByRecursion (HasRows n) cols → AppendsEach o leaves cols old new cs
    → length new ≤ length old + columns_weight o n leaves cols
each_short o n [] [] old new [] h p = omega (arith, ap length p)
each_short o n [] [] old new (c ∷ cs) h p = absurd p
each_short o n [] (es ∷ cols) old new cs h p = absurd p
each_short o n (leaf ∷ leaves) [] old new cs h p = absurd p
each_short o n (leaf ∷ leaves) (es ∷ cols) old new [] h p = absurd p
each_short o n (leaf ∷ leaves) (es ∷ cols) old new (c ∷ cs) h p =
    let one = p.1.short in
    let pages = few_pages o.page_rows n es p.1.parts h.0 p.1.paged in
    let rest = each_short o n leaves cols p.0 new cs h.1 p.3 in
    omega (arith, one, pages, rest, ap length p.1.joined, length-append old p.1.text)

are_chunks : (o : ChunkOptions) (leaves : List Leaf) (cols : List (List Entry)) (old new : List ℕ) (cs : List ChunkMeta) → AppendsEach o leaves cols old new cs → (more : List ℕ) → AreChunks (new ++ more) cs leaves cols
are_chunks o [] [] old new [] p more = tt
are_chunks o [] [] old new (c ∷ cs) p more = absurd p
are_chunks o [] (es ∷ cols) old new cs p more = absurd p
are_chunks o (leaf ∷ leaves) [] old new cs p more = absurd p
are_chunks o (leaf ∷ leaves) (es ∷ cols) old new [] p more = absurd p
are_chunks o (leaf ∷ leaves) (es ∷ cols) old new (c ∷ cs) p more =
    let rest = each_joined o leaves cols p.0 new cs p.3 in
    let same : p.0 ++ (rest.0 ++ more) ≡ new ++ more = sym (append_assoc p.0 rest.0 more) ∙ ap (λ (t : List ℕ). t ++ more) (sym rest.1) in
    (subst (λ (t : List ℕ). ColumnMeans t c.meta_data leaf es) same (column_means c.meta_data leaf o old p.0 es p.1 (rest.0 ++ more)), are_chunks o leaves cols p.0 new cs p.3 more)

-- and one chunk more
pub each_more : (o : ChunkOptions) (leaves : List Leaf) (cols : List (List Entry)) (old mid new : List ℕ) (cs : List ChunkMeta) (leaf : Leaf) (es : List Entry) (c : ChunkMeta) → AppendsEach o leaves cols old mid cs
    → AppendsChunk leaf o mid new c.meta_data es → IsOwnChunk c → AppendsEach o (leaves ++ leaf ∷ []) (cols ++ es ∷ []) old new (cs ++ c ∷ [])
each_more o [] [] old mid new [] leaf es c p q own = (new, subst (λ (t : List ℕ). AppendsChunk leaf o t new c.meta_data es) p q, own, refl)
each_more o [] [] old mid new (x ∷ cs) leaf es c p q own = absurd p
each_more o [] (d ∷ cols) old mid new cs leaf es c p q own = absurd p
each_more o (l ∷ leaves) [] old mid new cs leaf es c p q own = absurd p
each_more o (l ∷ leaves) (d ∷ cols) old mid new [] leaf es c p q own = absurd p
each_more o (l ∷ leaves) (d ∷ cols) old mid new (x ∷ cs) leaf es c p q own = (p.0, p.1, p.2, each_more o leaves cols p.0 mid new cs leaf es c p.3 q own)

-- ---- a group

pub group_means : (fs : Fields) (o : ChunkOptions) (old new : List ℕ) (g : GroupMeta) (rows : List ValueTrees) → AppendsGroup fs o old new g rows → (more : List ℕ) → GroupMeans (new ++ more) fs g rows
group_means fs o old new g rows p more = record { count = p.count; fit = p.fit; chunks = are_chunks o (leaves_of fs) (columns fs rows) old new g.columns p.chunks more }
