-- A chunk holds one column, and a group has one list of rows.
use Rattle.std.proofs.Common.{◌≡◌, ℕ, List, [], ◌∷◌, length, drop, Option, Some, None, refl, sym, ap, subst, ◌∙◌}
use Rattle.std.specs.Prelude.{ℤ, pos, negsuc}
use Rattle.bits.specs.Codec.{IsFunctional}
use Rattle.schema.specs.Stripe.{Leaf, Entry, leaves_of, columns}
use Rattle.schema.specs.Law.{ColumnsDetermineRows}
use Rattle.metadata.specs.Records.{ColumnMeta, ChunkMeta}
use Rattle.pages.specs.Chunk.{IsChunk}
use Rattle.row_group.specs.Chunks.{ChunkMeans, first_page, StartsAt, AreChunks}
use Rattle.row_group.specs.Laws.{ChunksHoldOneColumn, FilesHoldOneColumn, GroupsHaveOneList}

abbrev pub PagesHoldOneColumn : Type 0
PagesHoldOneColumn = (leaf : Leaf) (n : ℕ) → IsFunctional (λ bytes. IsChunk leaf bytes n)

pub one_column : PagesHoldOneColumn → ChunksHoldOneColumn
one_column law m leaf bytes es fs used taken p q =
    let a = p.count in
    let b = q.count in
    let size : length es ≡ length fs = cc in
    law leaf (length fs) bytes es fs used taken (subst (λ (n : ℕ). IsChunk leaf bytes n es used) size p.held) q.held

one_first : (o : Option ℤ) (page a b : ℕ) → first_page o page a → first_page o page b → a ≡ b
one_first None page a b p q = p ∙ sym q
one_first (Some (pos d)) page a b p q = p ∙ sym q
one_first (Some (negsuc d)) page a b p q = absurd p

pub one_start : (m : ColumnMeta) (a b : ℕ) → StartsAt m a → StartsAt m b → a ≡ b
one_start m a b p q =
    let x = p.data_page in
    let y = q.data_page in
    let same : p.page ≡ q.page = cc in
    one_first m.dictionary_page_offset q.page a b (subst (λ (n : ℕ). first_page m.dictionary_page_offset n a) same p.begins) q.begins

pub one_column_of_file : ChunksHoldOneColumn → FilesHoldOneColumn
one_column_of_file law front m leaf es fs p q =
    let same = one_start m p.start q.start p.starts q.starts in
    (law m leaf (drop q.start front) es fs p.used q.used (subst (λ (n : ℕ). ChunkMeans m leaf (drop n front) es p.used) same p.means) q.means).0

pub one_columns : FilesHoldOneColumn → (front : List ℕ) (cs : List ChunkMeta) (leaves : List Leaf) (xs ys : List (List Entry)) → AreChunks front cs leaves xs → AreChunks front cs leaves ys → xs ≡ ys
one_columns law front [] [] [] [] p q = refl
one_columns law front [] [] [] (b ∷ ys) p q = absurd q
one_columns law front [] [] (a ∷ xs) ys p q = absurd p
one_columns law front [] (l ∷ ls) xs ys p q = absurd p
one_columns law front (c ∷ cs) [] xs ys p q = absurd p
one_columns law front (c ∷ cs) (l ∷ ls) [] ys p q = absurd p
one_columns law front (c ∷ cs) (l ∷ ls) (a ∷ xs) [] p q = absurd q
one_columns law front (c ∷ cs) (l ∷ ls) (a ∷ xs) (b ∷ ys) p q =
    ap (λ (x : List Entry). x ∷ xs) (law front c.meta_data l a b p.0 q.0) ∙ ap (λ (t : List (List Entry)). b ∷ t) (one_columns law front cs ls xs ys p.1 q.1)

pub one_list : FilesHoldOneColumn → ColumnsDetermineRows → GroupsHaveOneList
one_list law determine front fs g rows others schema p q =
    determine fs rows others schema p.fit q.fit (one_columns law front g.columns (leaves_of fs) (columns fs rows) (columns fs others) p.chunks q.chunks)
