use Rattle.gather.specs.GatheredRows.{columns_of}
use Rattle.gather.proofs.BufferRows.{have_keys}
use Rattle.gather.proofs.FirstFaults.{fault_read}
use Rattle.gather.proofs.gathered.Gathered.fault.Goals as goal

pub returns : goal.returns
returns c = record {
  first = λ rows held.
      let g = c.args.self.now in
      let k = g.buffers in
      fault_read (columns_of g) k rows k.fault c.as_ref.result c.as_ref.ensures.value (λ split. have_keys (columns_of g) k.size k.stored.now rows k.waiting.items split.waiting) held.gathered.buffers.split;
}
