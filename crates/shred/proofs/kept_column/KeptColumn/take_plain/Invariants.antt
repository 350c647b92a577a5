use Rattle.std.proofs.Common.{◌≡◌, ◌+◌, ◌++◌, length}
use Rattle.plain.specs.Flat.{flat_entries}
use Rattle.plain.specs.ValuesLeft.{values_left}
use Rattle.shred.specs.Kept.{kept_view, marked_view}
use Rattle.shred.specs.Waiting.{plain_view}
use Rattle.shred.proofs.kept_column.KeptColumn.take_plain.Given as goal

-- with the values that are left they are as wanted
abbrev pub invariant-loop : goal.invariant-loop
invariant-loop l = record {
  taken : kept_view l.self ++ flat_entries (values_left l.values) ≡ kept_view l.fn.self ++ flat_entries (plain_view l.plain);
  left : l.counter + length (values_left l.values) ≡ length (plain_view l.plain);
  marked : marked_view l.self ≡ marked_view l.fn.self;
}
