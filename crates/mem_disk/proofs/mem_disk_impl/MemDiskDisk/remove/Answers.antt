use Rattle.disk.specs.Calls.{Removed}
use Rattle.mem_disk.specs.States.{state_with}
use Rattle.disk.specs.declared.binding.Binding.TheVariants.{Nothing}
use Rattle.mem_disk.specs.Fuses.{trip_of}
use Rattle.mem_disk.specs.Failing.{taken}
use Rattle.mem_disk.specs.Loose.{Loose, bound}
use Rattle.mem_disk.proofs.Effects.{either_way}
use Rattle.mem_disk.proofs.Shortages.{done_or_short}
use Rattle.mem_disk.proofs.mem_disk_impl.MemDiskDisk.remove.Goals as goal

pub returns-clause-effect : goal.returns-clause-effect
returns-clause-effect c _ =
    let self = c.args.self.now in
    either_way (λ answer. Removed c.args.path.now (state_with self.held.calls.items self.failures self.reads) (state_with c.remove_file-done.new.self.calls.items c.answer.new.failures c.args.self.now.reads) answer) c.remove_file-done.result c.answer.result
    (c.remove_file-done.ensures.effect self.failures c.answer.new.failures self.reads c.args.self.now.reads) c.answer.ensures.answer

pub returns-clause-extent : goal.returns-clause-extent
returns-clause-extent c can =
    let self = c.args.self.now in
    done_or_short (taken (λ (l : Loose). bound l c.args.path.now Nothing)) c.burn-trip.result (trip_of self.fuse) self.held.calls.items c.remove_file-done.new.self.calls.items c.burn-trip.ensures.trip (c.remove_file-done.ensures.extent can)
    (c.count_shortage.ensures.out_of_memory)
