-- Sizes and rows of a described table have 63 bits.
use Rattle.std.proofs.Common.{◌≡◌, ℕ, ◌+◌, ◌*◌, ◌<◌, ◌≤◌, pos, List, [], ◌∷◌, length, ap, arith, length-append}
use Rattle.std.specs.Prelude.{◌<ℤ◌, sum_by}
use Rattle.std.specs.List.{AllByRecursion}
use Rattle.std.proofs.lemmas.Int.{ints}
use Rattle.std.proofs.lemmas.List.Sums.{sum_by-cons}
use Rattle.schema.specs.Shape.{Fields}
use Rattle.schema.specs.Stripe.{Leaf, leaves_of, leaves_from}
use Rattle.schema.specs.Keys.{KeyColumn}
use Rattle.metadata.specs.Records.{ChunkMeta}
use Rattle.statistics.specs.Bounds.{Statistics}
use Rattle.partition.specs.Folders.{CanPartition}
use Rattle.schema.specs.Fronts.{first_fields, fields_after}
use Rattle.manifest.specs.Groups.{Group, Root}
use Rattle.manifest.specs.Records.{IsGroup, AreChunkRecords}
use Rattle.manifest.specs.Root.{IsDescription, stored_of}
use Rattle.manifest.specs.Laid.{size_by}
use Rattle.manifest.specs.inner.Writing.{IsSized}
use Rattle.schema.proofs.FrontLeaves.{leaves_split}
use Rattle.schema.proofs.TableLeaves.{table_leaves}

-- ---- bytes

-- a chunk has at most the bytes of the greatest file
bytes_within : (ls : List Leaf) (cs : List ChunkMeta) (ss : List Statistics) → AreChunkRecords ls cs ss → sum_by (λ (c : ChunkMeta). size_by c.meta_data.total_compressed_size) cs ≤ length ls * 2147483647
bytes_within [] [] [] h = omega arith
bytes_within [] [] (s ∷ ss) h = absurd h
bytes_within [] (c ∷ cs) ss h = absurd h
bytes_within (l ∷ ls) [] ss h = absurd h
bytes_within (l ∷ ls) (c ∷ cs) [] h = absurd h
bytes_within (l ∷ ls) (c ∷ cs) (s ∷ ss) h =
    let one : size_by c.meta_data.total_compressed_size ≡ h.0.size = ap size_by h.0.sized in
    let least = h.0.within_file in
    let rest = bytes_within ls cs ss h.1 in
    omega (arith, one, least, rest, sum_by-cons (λ (x : ChunkMeta). size_by x.meta_data.total_compressed_size) c cs)

-- ---- rows

more_rows : (n : ℕ) → 16777216 < n → pos 16777216 <ℤ pos n
more_rows n h = omega (arith, ints)

few_rows : (n : ℕ) → (pos 16777216 <ℤ pos n → ⊥) → n ≤ 16777216
few_rows n h = grind (arith, ints, more_rows)

pub rows_within : (keys : List KeyColumn) (stored : Fields) (gs : List Group) → AllByRecursion (IsGroup keys stored) gs → sum_by (λ (g : Group). g.known.rows) gs ≤ length gs * 16777216
rows_within keys stored [] h = omega arith
rows_within keys stored (g ∷ gs) h =
    let one = few_rows g.known.rows h.0.within_limits in
    let rest = rows_within keys stored gs h.1 in
    omega (arith, one, rest, sum_by-cons (λ (x : Group). x.known.rows) g gs)

-- ---- groups

one_sized : (keys : List KeyColumn) (stored : Fields) (g : Group) → length (leaves_of stored) ≤ 1024 → IsGroup keys stored g → IsSized g
one_sized keys stored g few is =
    let first = leaves_of (first_fields g.width stored) in
    let split = ap length (leaves_split g.width 0 stored) in
    let bytes = bytes_within first g.chunks g.known.leaves is.chunks in
    let rows = few_rows g.known.rows is.within_limits in
    record {
      bytes = omega (arith, few, split, length-append first (leaves_from (0 + g.width) (fields_after g.width stored)), bytes);
      rows = omega (arith, rows);
    }

each_sized : (keys : List KeyColumn) (stored : Fields) (gs : List Group) → length (leaves_of stored) ≤ 1024 → AllByRecursion (IsGroup keys stored) gs → AllByRecursion IsSized gs
each_sized keys stored [] few h = tt
each_sized keys stored (g ∷ gs) few h = (one_sized keys stored g few h.0, each_sized keys stored gs few h.1)

pub described_sized : (root : Root) → IsDescription root → AllByRecursion IsSized root.groups
described_sized root d =
    let leaves = table_leaves root.keys root.schema d.keys in
    let few = d.within.leaves in
    each_sized root.keys (stored_of root) root.groups (omega (arith, leaves, few)) d.each

-- a described group has a key that can partition
pub each_keyed : (keys : List KeyColumn) (stored : Fields) (gs : List Group) → AllByRecursion (IsGroup keys stored) gs → AllByRecursion (λ (g : Group). CanPartition keys g.key) gs
each_keyed keys stored [] h = tt
each_keyed keys stored (g ∷ gs) h = (h.0.keyed, each_keyed keys stored gs h.1)
