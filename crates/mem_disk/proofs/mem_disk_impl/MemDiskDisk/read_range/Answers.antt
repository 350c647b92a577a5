use Rattle.std.proofs.Common.{ℕ, Vec}
use Rattle.std.specs.declared.alloc.Global.{Global}
use Rattle.disk.specs.Calls.{RangeRead}
use Rattle.mem_disk.specs.States.{state_with}
use Rattle.mem_disk.proofs.Effects.{either_way}
use Rattle.mem_disk.proofs.mem_disk_impl.MemDiskDisk.read_range.Goals as goal

pub returns-clause-effect : goal.returns-clause-effect
returns-clause-effect c _ =
    let self = c.args.self.now in
    either_way (λ answer. RangeRead (λ (bytes : Vec ℕ Global). bytes.items) c.args.path.now c.args.from c.args.len (state_with self.held.calls.items self.failures self.reads) (state_with c.args.self.now.held.calls.items c.answer.new.failures c.saturating_add-self.result) answer) c.read_file-done.result c.answer.result
    (c.read_file-done.ensures.effect self.failures c.answer.new.failures self.reads c.saturating_add-self.result) c.answer.ensures.answer
