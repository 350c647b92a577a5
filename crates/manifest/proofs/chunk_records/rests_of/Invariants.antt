use Rattle.std.proofs.Common.{map, take}
use Rattle.metadata.specs.Views.{chunk_meta_view}
use Rattle.manifest.specs.KeptChunks.{unplaced}
use Rattle.manifest.proofs.KeptRecords.{AreWritten}
use Rattle.manifest.proofs.chunk_records.rests_of.Given as goal

-- the rests of the records so far
abbrev pub invariant-loop-chunk : goal.invariant-loop-chunk
invariant-loop-chunk l = AreWritten l.bytes.items l.ends.items (map unplaced (map chunk_meta_view (take l.chunk-index l.chunks)))
