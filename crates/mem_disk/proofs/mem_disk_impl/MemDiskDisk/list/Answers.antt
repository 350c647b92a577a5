use Rattle.std.proofs.Common.{Vec}
use Rattle.std.specs.declared.alloc.Global.{Global}
use Rattle.disk.specs.declared.binding.Entry.{Entry}
use Rattle.disk.specs.Calls.{Listed}
use Rattle.mem_disk.specs.States.{state_with}
use Rattle.mem_disk.proofs.Effects.{either_way}
use Rattle.mem_disk.proofs.mem_disk_impl.MemDiskDisk.list.Goals as goal

pub returns-clause-effect : goal.returns-clause-effect
returns-clause-effect c _ =
    let self = c.args.self.now in
    either_way (λ answer. Listed (λ (entries : Vec Entry Global). entries.items) c.args.folder.now (state_with self.held.calls.items self.failures self.reads) (state_with c.args.self.now.held.calls.items c.answer.new.failures c.args.self.now.reads) answer) c.list_names-done.result c.answer.result
    (c.list_names-done.ensures.effect self.failures c.answer.new.failures self.reads c.args.self.now.reads) c.answer.ensures.answer
