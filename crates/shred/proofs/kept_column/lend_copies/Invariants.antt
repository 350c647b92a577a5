use Rattle.std.specs.Prelude.{replicate}
use Rattle.std.proofs.Common.{◌≡◌, ◌++◌, map, option_map}
use Rattle.schema.specs.Borrowed.{value_ref_view, entry_ref_view}
use Rattle.shred.proofs.kept_column.lend_copies.Given as goal

abbrev pub invariant-loop : goal.invariant-loop
invariant-loop l = map entry_ref_view l.entries.items ≡ map entry_ref_view l.fn.entries.items
    ++ replicate l.counter (record { repetition = l.repetition; definition = l.definition; value = option_map value_ref_view l.value })
