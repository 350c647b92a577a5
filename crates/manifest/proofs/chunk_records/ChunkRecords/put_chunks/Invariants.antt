use Rattle.std.proofs.Common.{◌≡◌, ◌++◌, ◌≤◌, ℕ, List, [], map, drop, length}
use Rattle.metadata.specs.Begun.{BeginsChunk, BeginsGroup}
use Rattle.metadata.specs.Records.{ChunkMeta}
use Rattle.manifest.specs.Handles.{records_of}
use Rattle.manifest.specs.KeptChunks.{AreRestsOf}
use Rattle.manifest.specs.KeptChunks.{placed}
use Rattle.manifest.proofs.chunk_records.ChunkRecords.put_chunks.Given as goal

-- those so far are written, and they and those that are left are all
abbrev pub invariant-loop-end : goal.invariant-loop-end
invariant-loop-end l = (done left : List ChunkMeta) × (done ++ left ≡ records_of l.self) × AreRestsOf l.self.bytes.items l.at (drop l.end-index l.end-items) left
    × ((path : List ℕ) (n : ℕ) (old : List ℕ) → BeginsChunk path [] l.start → BeginsGroup n [] old l.fn.out.items → BeginsGroup n (map (placed path) done) old l.out.items)
