use Rattle.std.proofs.Common.{◌≡◌, ◌+◌, ◌++◌, length, map}
use Rattle.schema.specs.Borrowed.{entry_ref_view}
use Rattle.plain.specs.Flat.{flat_entries}
use Rattle.plain.specs.ValuesLeft.{values_left}
use Rattle.shred.specs.Waiting.{plain_view}
use Rattle.shred.proofs.plain_values.PlainValues.lend.Given as goal

-- with the values that are left they are as wanted
abbrev pub invariant-loop : goal.invariant-loop
invariant-loop l = record {
  lent : map entry_ref_view l.entries.items ++ flat_entries (values_left l.values) ≡ map entry_ref_view l.fn.entries.items ++ flat_entries (plain_view l.self);
  left : l.counter + length (values_left l.values) ≡ l.self.count;
}
