use Rattle.std.proofs.Common.{◌≡◌, take}
use Rattle.schema.specs.Values.{views}
use Rattle.assemble.specs.Sinks.{Adds, tokens_each}
use Rattle.assemble.proofs.row_showing.+show.Given as goal

abbrev pub invariant-show_values-loop-value : goal.invariant-show_values-loop-value
invariant-show_values-loop-value g l = record { shown : Adds (g.K.RowSink.shows l.fn.sink) (g.K.RowSink.shows l.sink) (tokens_each (views (take l.value-index l.values))); base : g.K.RowSink.base l.sink ≡ g.K.RowSink.base l.fn.sink }
