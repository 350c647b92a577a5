use Rattle.std.proofs.Common.{◌≡◌, ◌++◌, List, map, length}
use Rattle.std.specs.Vec.Iter.{into_iter_items, into_iter_len}
use Rattle.schema.specs.Shape.{Fields}
use Rattle.partition.specs.Splitting.{KeyRows, key_rows_view}
use Rattle.gather.specs.KeyBuffers.{Hold}
use Rattle.table_jobs.proofs.rests.rests_as_rows.Given as goal

-- the first are made rows, and the others are held
abbrev pub invariant-loop-rest : goal.invariant-loop-rest
invariant-loop-rest l = record {
  many : into_iter_len l.rest-iterator ≡ length (into_iter_items l.rest-iterator);
  made : (fs : Fields) (left : List KeyRows) → Hold fs l.fn.rests.items left
      → (later : List KeyRows) × (left ≡ map key_rows_view l.waiting.items ++ later) × Hold fs (into_iter_items l.rest-iterator) later;
}
