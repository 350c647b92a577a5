use Rattle.std.proofs.Common.{◌≤◌, length}
use Rattle.schema.specs.Views.{leaf_type_view}
use Rattle.pages.proofs.TextValues.{IsCheckedTo}
use Rattle.pages.proofs.plain_values.check_texts.Given as goal

abbrev pub invariant-loop : goal.invariant-loop
invariant-loop l = record { within : l.at ≤ length l.bytes; checked : IsCheckedTo (leaf_type_view l._leaf_type) l.count l.bytes l.counter l.at }
