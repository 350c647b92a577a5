-- A group's record describes one group.
use Rattle.std.proofs.Common.{◌≡◌, ◌≢◌, ℕ, zero, suc, ◌≤◌, pos, List, [], ◌∷◌, length, map, Option, Some, None, refl, ap, sym, ◌∙◌, subst, arith, length-append}
use Rattle.std.specs.List.{AllByRecursion}
use Rattle.lists.proofs.Lists.{length_map as length_mapped}
use Rattle.schema.specs.declared.value.Kind.{Kind}
use Rattle.schema.specs.Values.{ValueTree}
use Rattle.schema.specs.Shape.{Fields, no_fields, field}
use Rattle.schema.specs.Law.{IsSchema}
use Rattle.schema.specs.Stripe.{Leaf, leaves, leaves_from, leaves_of, below}
use Rattle.metadata.specs.Records.{ChunkMeta, ColumnMeta, Statistics as StatisticsRecord}
use Rattle.statistics.specs.Bounds.{Statistics}
use Rattle.statistics.specs.Bytes.{IsBoundAt, BoundsAreOne}
use Rattle.partition.specs.Folders.{part_path_of, PartPathsNameParts}
use Rattle.manifest.specs.Records.{placed, HasStatistics, AreChunkRecords}
use Rattle.schema.specs.Fronts.{first_fields}
use Rattle.manifest.specs.Laws.{GroupsAreOne}
use Rattle.schema.proofs.FrontLeaves.{leaf_some, leaves_tell_fronts}

abbrev AreHere : List ChunkMeta → Type 0
AreHere cs = AllByRecursion (λ (c : ChunkMeta). c.file_path ≡ None) cs

all_here : (leaves : List Leaf) (cs : List ChunkMeta) (ss : List Statistics) → AreChunkRecords leaves cs ss → AreHere cs
all_here [] [] [] h = tt
all_here (l ∷ ls) (c ∷ cs) (s ∷ ss) h = (h.0.here, all_here ls cs ss h.1)
all_here [] (c ∷ cs) ss h = absurd h
all_here [] [] (s ∷ ss) h = absurd h
all_here (l ∷ ls) [] ss h = absurd h
all_here (l ∷ ls) (c ∷ cs) [] h = absurd h

-- records apart from the paths of their files
one_chunk : (a b : List ℕ) (c d : ChunkMeta) → c.file_path ≡ None → d.file_path ≡ None → placed a c ≡ placed b d → c ≡ d
one_chunk a b c d p q e = λ i. record { file_path = (p ∙ sym q) i; file_offset = ap (λ (x : ChunkMeta). x.file_offset) e i; meta_data = ap (λ (x : ChunkMeta). x.meta_data) e i }

same_chunks : (a b : List ℕ) (cs ds : List ChunkMeta) → AreHere cs → AreHere ds → map (placed a) cs ≡ map (placed b) ds → cs ≡ ds
same_chunks a b [] [] p q e = refl
same_chunks a b [] (d ∷ ds) p q e = cc
same_chunks a b (c ∷ cs) [] p q e = cc
same_chunks a b (c ∷ cs) (d ∷ ds) p q e =
    let first : placed a c ≡ placed b d = cc in
    let rest : map (placed a) cs ≡ map (placed b) ds = cc in
    λ i. one_chunk a b c d p.0 q.0 first i ∷ same_chunks a b cs ds p.1 q.1 rest i

same_path : (a b : List ℕ) (cs ds : List ChunkMeta) → map (placed a) cs ≢ [] → map (placed a) cs ≡ map (placed b) ds → a ≡ b
same_path a b [] ds some e = absurd (some refl)
same_path a b (c ∷ cs) [] some e = cc
same_path a b (c ∷ cs) (d ∷ ds) some e =
    let first : placed a c ≡ placed b d = cc in
    let path : Some a ≡ Some b = ap (λ (x : ChunkMeta). x.file_path) first in
    cc

pub same_bound : BoundsAreOne → (kind : Kind) (text : Option (List ℕ)) (v w : Option ValueTree) → IsBoundAt kind text v → IsBoundAt kind text w → v ≡ w
same_bound one kind None None None h k = refl
same_bound one kind None None (Some w) h k = absurd k
same_bound one kind None (Some v) w h k = absurd h
same_bound one kind (Some text) None w h k = absurd h
same_bound one kind (Some text) (Some v) None h k = absurd k
same_bound one kind (Some text) (Some v) (Some w) h k = ap Some (one kind text v w h k)

same_statistics : BoundsAreOne → (leaf : Leaf) (m : ColumnMeta) (s t : Statistics) → HasStatistics leaf m s → HasStatistics leaf m t → s ≡ t
same_statistics one leaf m s t h k =
    let records : Some h.given ≡ Some k.given = sym h.there ∙ k.there in
    let same : h.given ≡ k.given = cc in
    let counts : Some (pos s.nulls) ≡ Some (pos t.nulls) = sym h.nulls ∙ ap (λ (x : StatisticsRecord). x.null_count) same ∙ k.nulls in
    let nulls : s.nulls ≡ t.nulls = cc in
    let low = same_bound one leaf.leaf_type.kind h.given.min_value s.min t.min h.min (subst (λ (x : StatisticsRecord). IsBoundAt leaf.leaf_type.kind x.min_value t.min) (sym same) k.min) in
    let high = same_bound one leaf.leaf_type.kind h.given.max_value s.max t.max h.max (subst (λ (x : StatisticsRecord). IsBoundAt leaf.leaf_type.kind x.max_value t.max) (sym same) k.max) in
    λ i. record { min = low i; max = high i; nulls = nulls i }

pub same_known : BoundsAreOne → (leaves : List Leaf) (cs : List ChunkMeta) (ss ts : List Statistics) → AreChunkRecords leaves cs ss → AreChunkRecords leaves cs ts → ss ≡ ts
same_known one [] [] [] [] h k = refl
same_known one (l ∷ ls) (c ∷ cs) (s ∷ ss) (t ∷ ts) h k = λ i. same_statistics one l c.meta_data s t h.0.statistics k.0.statistics i ∷ same_known one ls cs ss ts h.1 k.1 i
same_known one [] [] [] (t ∷ ts) h k = absurd k
same_known one [] [] (s ∷ ss) ts h k = absurd h
same_known one [] (c ∷ cs) ss ts h k = absurd h
same_known one (l ∷ ls) [] ss ts h k = absurd h
same_known one (l ∷ ls) (c ∷ cs) [] ts h k = absurd h
same_known one (l ∷ ls) (c ∷ cs) (s ∷ ss) [] h k = absurd k

-- a chunk for each leaf
pub as_many : (leaves : List Leaf) (cs : List ChunkMeta) (ss : List Statistics) → AreChunkRecords leaves cs ss → (length cs ≡ length leaves) × (length ss ≡ length leaves)
as_many [] [] [] h = (refl, refl)
as_many (l ∷ ls) (c ∷ cs) (s ∷ ss) h = let rest = as_many ls cs ss h.1 in (ap suc rest.0, ap suc rest.1)
as_many [] (c ∷ cs) ss h = absurd h
as_many [] [] (s ∷ ss) h = absurd h
as_many (l ∷ ls) [] ss h = absurd h
as_many (l ∷ ls) (c ∷ cs) [] h = absurd h

-- the first fields of a schema have leaves
some_leaves : (n : ℕ) (fs : Fields) → IsSchema fs → 1 ≤ n → 1 ≤ length (leaves_of (first_fields n fs))
some_leaves zero fs v h = absurd (omega (arith, h))
some_leaves (suc n) no_fields v h = absurd v.0.some
some_leaves (suc n) (field f fs) v h = omega (arith, leaf_some f v.1.0, length_mapped (below 0 f) (leaves f), length-append (map (below 0 f) (leaves f)) (leaves_from 1 (first_fields n fs)))

mapped_some : {A B : Type 0} (f : A → B) (xs : List A) → 1 ≤ length xs → map f xs ≢ []
mapped_some f [] h = absurd (omega (arith, h))
mapped_some f (x ∷ xs) h = λ e. cc

pub groups_are_one : PartPathsNameParts → BoundsAreOne → GroupsAreOne
groups_are_one names one keys stored m g h valid small also p q =
    let leaves = leaves_of (first_fields g.width stored) in
    let others = leaves_of (first_fields h.width stored) in
    let counts = as_many leaves g.chunks g.known.leaves p.is.chunks in
    let counted = as_many others h.chunks h.known.leaves q.is.chunks in
    let both : map (placed (part_path_of keys g.key g.number)) g.chunks ≡ map (placed (part_path_of keys h.key h.number)) h.chunks = sym p.placed_chunks ∙ q.placed_chunks in
    let chunks : g.chunks ≡ h.chunks = same_chunks _ _ g.chunks h.chunks (all_here leaves g.chunks g.known.leaves p.is.chunks) (all_here others h.chunks h.known.leaves q.is.chunks) both in
    let widths : g.width ≡ h.width = leaves_tell_fronts g.width h.width stored valid p.is.file.there q.is.file.there (sym counts.0 ∙ ap length chunks ∙ counted.0) in
    let some : 1 ≤ length g.chunks = omega (arith, counts.0, some_leaves g.width stored valid p.is.file.some) in
    let path = same_path _ _ g.chunks h.chunks (mapped_some (placed (part_path_of keys g.key g.number)) g.chunks some) both in
    let name = names keys g.key h.key g.number h.number p.is.keyed.values q.is.keyed.values small also path in
    let sizes : pos g.known.rows ≡ pos h.known.rows = sym p.counted ∙ q.counted in
    let rows : g.known.rows ≡ h.known.rows = cc in
    let records : AreChunkRecords leaves g.chunks h.known.leaves
    = subst (λ (n : ℕ). AreChunkRecords (leaves_of (first_fields n stored)) g.chunks h.known.leaves) (sym widths)
    (subst (λ (cs : List ChunkMeta). AreChunkRecords others cs h.known.leaves) (sym chunks) q.is.chunks) in
    let known = same_known one leaves g.chunks g.known.leaves h.known.leaves p.is.chunks records in
    λ i. record { number = name.1 i; key = name.0 i; width = widths i; chunks = chunks i; known = record { rows = rows i; leaves = known i } }
