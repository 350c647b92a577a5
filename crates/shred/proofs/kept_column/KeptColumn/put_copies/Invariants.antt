use Rattle.std.specs.Prelude.{replicate}
use Rattle.std.proofs.Common.{◌≡◌, ◌++◌, option_map}
use Rattle.schema.specs.Borrowed.{value_ref_view}
use Rattle.shred.specs.Kept.{kept_view, marked_view}
use Rattle.shred.proofs.kept_column.KeptColumn.put_copies.Given as goal

abbrev pub invariant-loop : goal.invariant-loop
invariant-loop l = record {
  put : kept_view l.self ≡ kept_view l.fn.self ++ replicate l.counter (record { repetition = l.repetition; definition = l.definition; value = option_map value_ref_view l.value });
  marked : marked_view l.self ≡ marked_view l.fn.self;
}
