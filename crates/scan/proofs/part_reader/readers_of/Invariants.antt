use Rattle.std.proofs.Common.{◌≡◌, List, length}
use Rattle.schema.specs.Values.{ValueTrees}
use Rattle.scan.specs.Left.{PartsHold, PartsStand}
use Rattle.scan.proofs.part_reader.readers_of.Given as goal

abbrev pub invariant-loop-part : goal.invariant-loop-part
invariant-loop-part l = record {
  many : length l.readers.items ≡ l.part-index;
  stand : (rows : List (List ValueTrees)) → PartsHold l.held l.parts rows → PartsStand l.readers.items rows;
}
