use Rattle.std.proofs.Common.{◌∙◌}
use Rattle.disk.specs.Calls.{Renamed}
use Rattle.mem_disk.specs.States.{state_with}
use Rattle.mem_disk.proofs.Shortages.{told_way, failed_is_short}
use Rattle.mem_disk.proofs.mem_disk_impl.MemDiskDisk.rename.Goals as goal

pub returns-clause-effect : goal.returns-clause-effect
returns-clause-effect c _ =
    let self = c.args.self.now in
    told_way (λ answer. Renamed c.args.source.now c.args.target.now (state_with self.held.calls.items self.failures self.reads) (state_with c.rename_file-done.new.self.calls.items c.answer.new.failures c.args.self.now.reads) answer) c.rename_file-done.result c.tell_shortage-told.result c.answer.result
    c.tell_shortage-told.ensures.told (c.rename_file-done.ensures.effect self.failures c.answer.new.failures self.reads c.args.self.now.reads) c.answer.ensures.answer

pub returns-clause-passes : goal.returns-clause-passes
returns-clause-passes c passes =
    let trip = c.burn-trip.ensures.trip ∙ passes in
    failed_is_short c.rename_file-done.result c.tell_shortage-told.result c.answer.result c.tell_shortage-told.ensures.told (c.answer.ensures.passes trip) (c.rename_file-done.ensures.passes trip) c.tell_shortage-told.ensures.out_of_memory
