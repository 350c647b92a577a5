-- The record of a root is one of the store's writer, and weighs so much.
use Rattle.std.proofs.Common.{◌≡◌, ℕ, zero, suc, ◌*◌, ◌<◌, ◌≤◌, ◌^◌, List, [], ◌∷◌, length, map, Some, refl, arith}
use Rattle.std.specs.Prelude.{All, sum_by, decimal}
use Rattle.std.specs.List.{AllByRecursion}
use Rattle.std.proofs.lemmas.List.{length-map, length-replicate}
use Rattle.std.proofs.lemmas.List.Elements.{All-from_recursion}
use Rattle.std.proofs.lemmas.List.Sums.{sum_by-cons}
use Rattle.std.proofs.lemmas.Fmt.{length-decimal-le}
use Rattle.serde_json.specs.Written.{compact_text}
use Rattle.schema.specs.Shape.{Field, Fields, no_fields, field, count}
use Rattle.schema.specs.Stripe.{Leaf, leaves_of}
use Rattle.schema.specs.Keys.{KeyColumn, field_at, key_field}
use Rattle.schema.proofs.Few.{count_leaves}
use Rattle.metadata.specs.Records.{ChunkMeta, GroupMeta, type_order}
use Rattle.metadata.specs.Weight.{IsOwnColumn, IsOfTheWriter, group_weight}
use Rattle.statistics.specs.Bounds.{Statistics}
use Rattle.schema.specs.Fronts.{first_fields}
use Rattle.manifest.specs.Groups.{Group, Root}
use Rattle.manifest.specs.Records.{placed, IsGroup, AreChunkRecords}
use Rattle.manifest.specs.Root.{IsDescription, stored_of, keys_data}
use Rattle.manifest.specs.Laid.{group_record, root_record, IsRootTooHeavy}
use Rattle.partition.specs.Folders.{part_path_of}
use Rattle.footer.proofs.Weighed.{few_from}
use Rattle.manifest.proofs.ShortTexts.{short_keys}

-- ---- columns

own_chunks : (path : List ℕ) (ls : List Leaf) (cs : List ChunkMeta) (ss : List Statistics) → AreChunkRecords ls cs ss → AllByRecursion (λ (c : ChunkMeta). IsOwnColumn c.meta_data) (map (placed path) cs)
own_chunks path [] [] [] h = tt
own_chunks path [] [] (s ∷ ss) h = absurd h
own_chunks path [] (c ∷ cs) ss h = absurd h
own_chunks path (l ∷ ls) [] ss h = absurd h
own_chunks path (l ∷ ls) (c ∷ cs) [] h = absurd h
own_chunks path (l ∷ ls) (c ∷ cs) (s ∷ ss) h = (h.0.own, own_chunks path ls cs ss h.1)

own_groups : (keys : List KeyColumn) (stored : Fields) (gs : List Group) → AllByRecursion (IsGroup keys stored) gs
    → AllByRecursion (λ (m : GroupMeta). All (λ (c : ChunkMeta). IsOwnColumn c.meta_data) m.columns) (map (group_record keys) gs)
own_groups keys stored [] h = tt
own_groups keys stored (g ∷ gs) h =
    let path = part_path_of keys g.key g.number in
    (All-from_recursion (λ (c : ChunkMeta). IsOwnColumn c.meta_data) (map (placed path) g.chunks) (own_chunks path (leaves_of (first_fields g.width stored)) g.chunks g.known.leaves h.0.chunks), own_groups keys stored gs h.1)

-- ---- key-values

place_within : (i : ℕ) (fs : Fields) (f : Field) → field_at i fs ≡ Some f → i < count fs
place_within i no_fields f e = cc
place_within zero (field g fs) f e = omega arith
place_within (suc i) (field g fs) f e = let h = place_within i fs f e in omega (arith, h)

small_places : (keys : List KeyColumn) (fs : Fields) → count fs ≤ 1024 → AllByRecursion (λ (k : KeyColumn). field_at k.at fs ≡ Some (key_field k)) keys → AllByRecursion (λ (k : KeyColumn). k.at < 2 ^ 64) keys
small_places [] fs few h = tt
small_places (k ∷ keys) fs few h = let lt = place_within k.at fs (key_field k) h.0 in (omega (arith, few, lt), small_places keys fs few h.1)

-- ---- the record

pub root_is_own : (root : Root) → IsDescription root → IsOfTheWriter (map (λ (k : KeyColumn). k.name) root.keys) (root_record root)
root_is_own root d =
    let fields = count_leaves 0 root.schema d.schema.1 in
    let leaves = d.within.leaves in
    let stored = stored_of root in
    let orders = few_from 0 stored in
    record {
      columns = All-from_recursion (λ (m : GroupMeta). All (λ (c : ChunkMeta). IsOwnColumn c.meta_data) m.columns) (map (group_record root.keys) root.groups) (own_groups root.keys stored root.groups d.each);
      pairs = record {
        text = compact_text (keys_data root.keys);
        number = decimal root.next;
        both = refl;
        few = short_keys root.keys (small_places root.keys root.schema (omega (arith, fields, leaves)) d.keys.there);
        digits = (let fits = d.fits in length-decimal-le 20 root.next (omega arith) (omega (arith, fits)) fits);
      };
      created_by = refl;
      column_orders = omega (arith, orders, length-replicate (length (leaves_of stored)) type_order);
    }

groups_weigh : (ms : List GroupMeta) → length ms * 64 ≤ sum_by group_weight ms
groups_weigh [] = omega arith
groups_weigh (m ∷ ms) = omega (arith, groups_weigh ms, sum_by-cons group_weight m ms)

-- with so many groups it is too heavy
pub many_too_heavy : (root : Root) → 262144 ≤ length root.groups → IsRootTooHeavy root
many_too_heavy root many = omega (arith, groups_weigh (map (group_record root.keys) root.groups), length-map root.groups (group_record root.keys), many)
