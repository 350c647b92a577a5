use Rattle.std.proofs.Common.{◌≡◌, ◌++◌, length, drop}
use Rattle.shred.specs.Slots.{total_size, entries_in}
use Rattle.shred.specs.Kept.{kept_view, marked_view}
use Rattle.shred.specs.inner.Packed.{unpacked_each}
use Rattle.shred.proofs.kept_column.KeptColumn.take_entries.Given as goal

-- with the entries that are left they are as wanted; the bytes that are left are those of their values
abbrev pub invariant-loop-packed : goal.invariant-loop-packed
invariant-loop-packed l = record {
  taken : kept_view l.self ++ entries_in l.rest (unpacked_each (drop l.packed-index l.entries)) ≡ kept_view l.fn.self ++ entries_in l.bytes (unpacked_each l.entries);
  filled : total_size (unpacked_each (drop l.packed-index l.entries)) ≡ length l.rest;
  marked : marked_view l.self ≡ marked_view l.fn.self;
}
