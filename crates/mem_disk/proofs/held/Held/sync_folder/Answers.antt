use Rattle.std.proofs.Common.{ap}
use Rattle.mem_disk.specs.declared.call.Call.TheVariants.{SyncFolder}
use Rattle.mem_disk.specs.Loose.{empty, replayed, folder_synced}
use Rattle.mem_disk.proofs.Keeping.{keeps_settled}
use Rattle.mem_disk.proofs.held.Held.sync_folder.Goals as goal

pub invariant_of-self-2 : goal.invariant_of-self-2
invariant_of-self-2 c =
    let self = c.args.self.now in
    record {
      kept = keeps_settled self.names.list.items self.nodes.items self.calls.items self.kept c.settle.new.self.list.items c.push.new.self.items (SyncFolder c.in_ok-from_str.field-0) c.args.folder.now
          c.in_ok-push.ensures.items
          (ap (folder_synced (replayed empty self.calls.items)) c.in_ok-from_str.ensures.ok)
          c.settle.ensures.settles;
      apart = c.settle.ensures.apart self.apart;
    }
