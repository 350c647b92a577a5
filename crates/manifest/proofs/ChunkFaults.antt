-- The record of a chunk in a root.
use Rattle.std.proofs.Common.{◌≡◌, ℕ, ◌≤◌, List, length, pos, Option, Some, None, refl, sym, ◌∙◌, subst, arith}
use Rattle.std.specs.Prelude.{IfSome, ◌<ℤ◌}
use Rattle.bits.specs.declared.refusal.Refusal.{Refusal}
use Rattle.bits.specs.declared.refusal.Refusal.TheVariants.{Schema, Codec, Page, Limit, Memory}
use Rattle.bits.specs.Refusals.{IsFault}
use Rattle.schema.specs.declared.value.Kind.{Kind}
use Rattle.schema.specs.declared.value.Kind.TheVariants.{Boolean, Int32, Int64, ByteArray, FixedLenByteArray}
use Rattle.schema.specs.Values.{ValueTree, null, boolean, integer, bytes, group, list}
use Rattle.schema.specs.Stripe.{Leaf}
use Rattle.metadata.specs.Records.{ChunkMeta, ColumnMeta, Statistics as StatisticsRecord}
use Rattle.metadata.specs.Weight.{IsOwnColumn}
use Rattle.row_group.specs.Greatest.{most_entries}
use Rattle.row_group.specs.Chunks.{IsChunkOf, StartsAt}
use Rattle.row_group.specs.RecordFaults.{IsRecordFault}
use Rattle.footer.specs.Greatest.{most_of_file}
use Rattle.statistics.specs.Bounds.{Statistics}
use Rattle.statistics.specs.Bytes.{IsBound, IsBoundAt, IsLengthOverLimit}
use Rattle.manifest.specs.Records.{HasStatistics, IsChunkRecord}
use Rattle.manifest.specs.KeptChunks.{unplaced}
use Rattle.manifest.specs.inner.Reading.{IsChunkFault, AreGiven, HasLongValues}

-- ---- what the record is refused for

-- its own faults are faults of the record in a root
pub record_fault : (m : ColumnMeta) (leaf : Leaf) (e : Refusal) → IsRecordFault m leaf e → IsChunkFault m e
record_fault m leaf Schema h = tt
record_fault m leaf Codec h = h
record_fault m leaf Page h = tt
record_fault m leaf Limit h = h
record_fault m leaf e h = absurd h

-- a chunk of the leaf with a count of entries that is read has none of them
pub no_record_fault : (m : ColumnMeta) (leaf : Leaf) (e : Refusal) → IsRecordFault m leaf e → IsChunkOf m leaf → (n : ℕ) → m.num_values ≡ pos n → (most_entries <ℤ m.num_values → ⊥) → ⊥
no_record_fault m leaf Schema h is n counted within = h is
no_record_fault m leaf Codec h is n counted within = h is.codec
no_record_fault m leaf Page h is n counted within = h n counted
no_record_fault m leaf Limit h is n counted within = within h
no_record_fault m leaf e h is n counted within = h

-- ---- bounds

long_bound : (kind : Kind) (text : List ℕ) (v : ValueTree) → HasLongValues kind → length text ≤ 64 → IsBound kind text v → ⊥
long_bound Boolean text v long short h = long
long_bound Int32 text v long short h = long
long_bound Int64 text v long short h = long
long_bound ByteArray text v long short h = long
long_bound (FixedLenByteArray k) text (bytes t) long short h = let s = h.1.2 in omega (arith, long, short, s.has.1, s.ends, h.1.4)
long_bound (FixedLenByteArray k) text null long short h = h.1.2.has
long_bound (FixedLenByteArray k) text (boolean b) long short h = h.1.2.has
long_bound (FixedLenByteArray k) text (integer z) long short h = h.1.2.has
long_bound (FixedLenByteArray k) text (group vs) long short h = h.1.2.has
long_bound (FixedLenByteArray k) text (list vs) long short h = h.1.2.has

pub no_long_bound : (kind : Kind) (text : Option (List ℕ)) (v : Option ValueTree) → HasLongValues kind → IfSome text (λ s. length s ≤ 64) → IsBoundAt kind text v → text ≡ None
no_long_bound kind None v long short h = refl
no_long_bound kind (Some text) None long short h = absurd h
no_long_bound kind (Some text) (Some v) long short h = absurd (long_bound kind text v long short h)

pub not_over : (kind : Kind) → (HasLongValues kind → ⊥) → IsLengthOverLimit kind → ⊥
not_over (FixedLenByteArray k) short over = short (omega (arith, over))
not_over Boolean short over = over
not_over Int32 short over = over
not_over Int64 short over = over
not_over ByteArray short over = over

pub is_fault : (e : Refusal) → (e ≡ Limit → ⊥) → (e ≡ Memory → ⊥) → IsFault e
is_fault Limit a b = absurd (a refl)
is_fault Memory a b = absurd (b refl)
is_fault e a b = tt

-- ---- the whole record

pub record_is : (leaf : Leaf) (c : ChunkMeta) (given : StatisticsRecord) (s : Statistics) → IsChunkOf c.meta_data leaf → ((n : ℕ) × (c.meta_data.num_values ≡ pos n)) → (most_entries <ℤ c.meta_data.num_values → ⊥)
    → ((start : ℕ) × StartsAt c.meta_data start) → ((size : ℕ) × (c.meta_data.total_compressed_size ≡ Some (pos size)) × (size ≤ most_of_file)) → IsOwnColumn c.meta_data
    → c.meta_data.statistics ≡ Some given → AreGiven leaf.leaf_type.kind given s → IsChunkRecord leaf (unplaced c) s
record_is leaf c given s of_leaf counted few starts sized own there are = record {
  here = refl;
  of_leaf = of_leaf;
  entries = counted.0;
  counted = counted.1;
  within_limits = few;
  start = starts.0;
  starts = starts.1;
  size = sized.0;
  sized = sized.1;
  within_file = sized.2;
  statistics = record { given = given; there = there; nulls = are.nulls; min = are.min; max = are.max };
  own = own;
}

pub given_of : (leaf : Leaf) (m : ColumnMeta) (given : StatisticsRecord) (s : Statistics) → m.statistics ≡ Some given → HasStatistics leaf m s → AreGiven leaf.leaf_type.kind given s
given_of leaf m given s there h =
    let same : h.given ≡ given = same_some (sym h.there ∙ there) in
    subst (λ (g : StatisticsRecord). AreGiven leaf.leaf_type.kind g s) same (record { nulls = h.nulls; min = h.min; max = h.max })
  where
    same_some : {a b : StatisticsRecord} → Some a ≡ Some b → a ≡ b
    same_some e = cc
