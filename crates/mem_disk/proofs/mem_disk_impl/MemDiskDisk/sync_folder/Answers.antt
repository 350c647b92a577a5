use Rattle.disk.specs.Calls.{FolderSynced}
use Rattle.mem_disk.specs.States.{state_with}
use Rattle.mem_disk.specs.Fuses.{trip_of}
use Rattle.mem_disk.specs.Failing.{taken}
use Rattle.mem_disk.specs.Loose.{Loose, folder_synced}
use Rattle.mem_disk.proofs.Shortages.{told_way, done_or_short}
use Rattle.mem_disk.proofs.mem_disk_impl.MemDiskDisk.sync_folder.Goals as goal

pub returns-clause-effect : goal.returns-clause-effect
returns-clause-effect c _ =
    let self = c.args.self.now in
    told_way (λ answer. FolderSynced c.args.folder.now (state_with self.held.calls.items self.failures self.reads) (state_with c.sync_names-done.new.self.calls.items c.answer.new.failures c.args.self.now.reads) answer) c.sync_names-done.result c.tell_shortage-told.result c.answer.result
    c.tell_shortage-told.ensures.told (c.sync_names-done.ensures.effect self.failures c.answer.new.failures self.reads c.args.self.now.reads) c.answer.ensures.answer

pub returns-clause-extent : goal.returns-clause-extent
returns-clause-extent c can =
    let self = c.args.self.now in
    done_or_short (taken (λ (l : Loose). folder_synced l c.args.folder.now)) c.burn-trip.result (trip_of self.fuse) self.held.calls.items c.sync_names-done.new.self.calls.items c.burn-trip.ensures.trip (c.sync_names-done.ensures.extent can)
    (λ _ was. c.tell_shortage-told.ensures.out_of_memory was)
