use Rattle.std.proofs.Common.{◌≡◌, [], ℕ, ℤ, List, length, map, sym, subst, arith}
use Rattle.std.specs.Int.{w64}
use Rattle.std.proofs.lemmas.Int.{to_z-of_z}
use Rattle.std.proofs.lemmas.List.{length-map}
use Rattle.thrift_compact.specs.Length.{AppendsStruct}
use Rattle.metadata.specs.ToTree.{group_meta_fields}
use Rattle.metadata.specs.Begun.{BeginsChunk, BeginsGroup}
use Rattle.metadata.specs.Records.{ChunkMeta, GroupMeta}
use Rattle.manifest.specs.Handles.{records_of}
use Rattle.manifest.specs.KeptChunks.{placed}
use Rattle.manifest.proofs.KeptRecords.{as_many}
use Rattle.manifest.proofs.chunk_records.ChunkRecords.put_group.Goals as goal

pub returns-clause-stands : goal.returns-clause-stands
returns-clause-stands c = λ m gs old begun.
    let self = c.args.self.now in
    let path = c.args.path.now in
    let before = c.args.out.now.items in
    let cs = map (placed path) (records_of self) in
    let start = subst (λ (t : List ℕ). BeginsChunk path [] t) (sym c.as_slice.ensures.value) c.in_ok-start.ensures.stands in
    let many : c.len.result ≡ length cs = omega (arith, c.len.ensures, self.ends.ok, as_many self.bytes.items 0 self.ends.items self.held.0 self.held.1.0, length-map (records_of self) (placed path)) in
    let chunks = c.in_ok-put_chunks.ensures.stands path c.len.result before start c.in_ok-begin_group.ensures.stands in
    let group = c.in_ok-end_group.ensures.stands cs before (subst (λ (n : ℕ). BeginsGroup n cs before c.put_chunks.new.out.items) many chunks) in
    let new = c.end_group.new.out.items in
    let written = subst (λ (rows : ℤ). AppendsStruct (group_meta_fields (record { columns = cs; total_byte_size = c.args.total_byte_size; num_rows = rows })) before new) (to_z-of_z w64 c.args.num_rows c.ranges.num_rows) group in
    c.footers_are_written_in_pieces.ensures.footers m gs (record { columns = cs; total_byte_size = c.args.total_byte_size; num_rows = c.args.num_rows }) old before new begun written
