use Rattle.std.proofs.Common.{map, sym, ◌∙◌}
use Rattle.metadata.specs.Views.{chunk_meta_view}
use Rattle.manifest.specs.KeptChunks.{unplaced}
use Rattle.manifest.proofs.KeptRecords.{same_sizes}
use Rattle.manifest.proofs.chunk_records.ChunkRecords.of.Goals as goal

pub invariant_of-records : goal.invariant_of-records
invariant_of-records c = record { held = (map unplaced (map chunk_meta_view c.args.chunks.now), (c.in_ok-bytes.ensures.stands, c.in-Some.ensures ∙ sym (same_sizes (map chunk_meta_view c.args.chunks.now)))) }

pub returns-clause-are : goal.returns-clause-are
returns-clause-are c = c.are_no_others.ensures (map unplaced (map chunk_meta_view c.args.chunks.now)) c.in_ok-bytes.ensures.stands
