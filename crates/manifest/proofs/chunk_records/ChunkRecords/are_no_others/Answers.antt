use Rattle.manifest.specs.KeptChunks.{one_list}
use Rattle.manifest.proofs.chunk_records.ChunkRecords.are_no_others.Goals as goal

pub returns : goal.returns
returns c = λ cs are.
    let self = c.args.self.now in
    one_list self.bytes.items 0 self.ends.items self.held.0 cs self.held.1.0 are
