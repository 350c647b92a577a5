use Rattle.disk.specs.Calls.{FolderMade}
use Rattle.mem_disk.specs.States.{state_with}
use Rattle.disk.specs.declared.binding.Binding.TheVariants.{Folder}
use Rattle.mem_disk.specs.Fuses.{trip_of}
use Rattle.mem_disk.specs.Failing.{taken}
use Rattle.mem_disk.specs.Loose.{Loose, bound}
use Rattle.mem_disk.proofs.Effects.{either_way}
use Rattle.mem_disk.proofs.Shortages.{done_or_short}
use Rattle.mem_disk.proofs.mem_disk_impl.MemDiskDisk.make_folder.Goals as goal

pub returns-clause-effect : goal.returns-clause-effect
returns-clause-effect c _ =
    let self = c.args.self.now in
    either_way (λ answer. FolderMade c.args.path.now (state_with self.held.calls.items self.failures self.reads) (state_with c.create_folder-done.new.self.calls.items c.answer.new.failures c.args.self.now.reads) answer) c.create_folder-done.result c.answer.result
    (c.create_folder-done.ensures.effect self.failures c.answer.new.failures self.reads c.args.self.now.reads) c.answer.ensures.answer

pub returns-clause-extent : goal.returns-clause-extent
returns-clause-extent c can =
    let self = c.args.self.now in
    done_or_short (taken (λ (l : Loose). bound l c.args.path.now Folder)) c.burn-trip.result (trip_of self.fuse) self.held.calls.items c.create_folder-done.new.self.calls.items c.burn-trip.ensures.trip (c.create_folder-done.ensures.extent can)
    (c.count_shortage.ensures.out_of_memory)
