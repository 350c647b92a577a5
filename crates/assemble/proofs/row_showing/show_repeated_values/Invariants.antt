use Rattle.std.proofs.Common.{◌≡◌, take}
use Rattle.schema.specs.Values.{views}
use Rattle.assemble.specs.Sinks.{Adds, tokens_each}
use Rattle.assemble.proofs.row_showing.show_repeated_values.Given as goal

abbrev pub invariant-loop-value : goal.invariant-loop-value
invariant-loop-value g l = record { shown : Adds (g.K.RowSink.shows l.fn.sink) (g.K.RowSink.shows l.sink) (tokens_each (views (take l.value-index l.values))); base : g.K.RowSink.base l.sink ≡ g.K.RowSink.base l.fn.sink }
