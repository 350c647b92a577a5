use Rattle.std.proofs.Common.{◌≤◌, length}
use Rattle.schema.proofs.Names.{AreMet}
use Rattle.schema.proofs.reading.names_differ.Given as goal

abbrev pub invariant-loop-at : goal.invariant-loop-at
invariant-loop-at l = record {
  in_range : l.at ≤ length l.fields;
  met : AreMet l.behind l.fields l.at;
}

abbrev pub decreases-loop-at : goal.decreases-loop-at
decreases-loop-at l = l.at
