use Rattle.std.proofs.Common.{◌≡◌, map, take}
use Rattle.schema.specs.Views.{leaf_view}
use Rattle.metadata.specs.Views.{chunk_meta_view}
use Rattle.statistics.specs.Bounds.{statistics_of}
use Rattle.manifest.specs.Records.{AreChunkRecords, placed}
use Rattle.manifest.specs.KeptChunks.{unplaced}
use Rattle.manifest.proofs.group_reading.known_at.Given as goal

abbrev pub invariant-loop-i : goal.invariant-loop-i
invariant-loop-i l = record {
  placed : map chunk_meta_view (take l.i l.chunks) ≡ map (placed l.path) (map unplaced (map chunk_meta_view (take l.i l.chunks)));
  stands : AreChunkRecords (take l.i (map leaf_view l.leaves)) (map unplaced (map chunk_meta_view (take l.i l.chunks))) (map statistics_of l.known.items);
}
