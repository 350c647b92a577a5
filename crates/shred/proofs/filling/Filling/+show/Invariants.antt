use Rattle.std.proofs.Common.{◌≡◌, drop}
use Rattle.schema.specs.Values.{views}
use Rattle.assemble.specs.Sinks.{tokens_each}
use Rattle.shred.specs.inner.Filling.{state_of, marked_of, run}
use Rattle.shred.proofs.filling.Filling.+show.Given as goal

-- with the values that are left the state is as wanted
abbrev pub invariant-show_each-loop-value : goal.invariant-show_each-loop-value
invariant-show_each-loop-value l = record {
  shown : run (state_of l.self) (tokens_each (views (drop l.value-index l.values))) ≡ run (state_of l.fn.self) (tokens_each (views l.values));
  marked : marked_of l.self ≡ marked_of l.fn.self;
}
