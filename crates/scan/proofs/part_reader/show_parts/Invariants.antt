use Rattle.std.proofs.Common.{◌≡◌, List, ◌∷◌}
use Rattle.schema.specs.Values.{ValueTrees}
use Rattle.scan.specs.Left.{PartsStand}
use Rattle.scan.proofs.Pieces.{ShowLoop}
use Rattle.scan.proofs.part_reader.show_parts.Given as goal

abbrev pub invariant-loop-k : goal.invariant-loop-k
invariant-loop-k g l = record {
  base : g.K.RowSink.base l.sink ≡ g.K.RowSink.base l.fn.sink;
  shown : (x : List ValueTrees) (rest : List (List ValueTrees)) → PartsStand l.fn.parts (x ∷ rest) → ShowLoop l.parts l.k x rest (g.K.RowSink.shows l.fn.sink) (g.K.RowSink.shows l.sink);
}
