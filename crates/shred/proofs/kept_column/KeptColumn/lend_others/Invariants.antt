use Rattle.std.proofs.Common.{◌≡◌, ◌++◌, length, map, drop}
use Rattle.schema.specs.Borrowed.{entry_ref_view}
use Rattle.shred.specs.Slots.{total_size, entries_in}
use Rattle.shred.specs.inner.Roomy.{list_of}
use Rattle.shred.specs.inner.Packed.{unpacked_each}
use Rattle.shred.proofs.kept_column.KeptColumn.lend_others.Given as goal

-- with the entries that are left they are as wanted; the bytes that are left are those of their values
abbrev pub invariant-loop-packed : goal.invariant-loop-packed
invariant-loop-packed l = record {
  lent : map entry_ref_view l.entries.items ++ entries_in l.rest (unpacked_each (drop l.packed-index (list_of l.self.entries))) ≡ map entry_ref_view l.fn.entries.items ++ entries_in (list_of l.self.bytes) (unpacked_each (list_of l.self.entries));
  filled : total_size (unpacked_each (drop l.packed-index (list_of l.self.entries))) ≡ length l.rest;
}
