use Rattle.std.proofs.Common.{◌≡◌, arith, ap, ◌∙◌, ◌++◌}
use Rattle.mem_disk.specs.declared.node.Node.{Node}
use Rattle.mem_disk.specs.declared.call.Call.TheVariants.{Append}
use Rattle.mem_disk.specs.Loose.{empty, replayed, appended}
use Rattle.mem_disk.proofs.Keeping.{keeps_appended, keeps_unwritten, popped}
use Rattle.mem_disk.proofs.held.Held.append.Goals as goal

pub invariant_of-self-in-Ok : goal.invariant_of-self-in-Ok
invariant_of-self-in-Ok c =
    let self = c.args.self.now in
    let was = c.index_mut-to.result.now in
    let v : Node = record { bytes = c.extend_from_slice.new.self; synced = was.synced; doubted = was.doubted } in
    let same = c.index_mut-to.ensures.value in
    let copy = c.in_ok-from_slice.field-0 in
    record {
      kept = keeps_appended self.names.list.items self.nodes.items self.calls.items self.kept c.args.node v was c.requires c.push.new.self.items (Append c.args.node copy) c.args.bytes.now
          c.in_ok-push.ensures.items
          (ap (appended (replayed empty self.calls.items) c.args.node) c.in_ok-from_slice.ensures.items)
          (c.in-Ok.ensures.items ∙ ap (λ (x : Node). x.bytes.items ++ c.args.bytes.now) same)
          (ap (λ (x : Node). x.synced) same)
          (ap (λ (x : Node). x.doubted) same);
      apart = self.apart;
    }

pub invariant_of-self-in-Err : goal.invariant_of-self-in-Err
invariant_of-self-in-Err c =
    let self = c.args.self.now in
    let was = c.index_mut-to.result.now in
    let v : Node = record { bytes = c.extend_from_slice.new.self; synced = was.synced; doubted = was.doubted } in
    let same = c.index_mut-to.ensures.value in
    let calls : c.pop.new.self.items ≡ self.calls.items = popped self.calls.items c.push.new.self.items c.pop.new.self.items _ _ c.in_ok-push.ensures.items c.pop.ensures.rest (let more = c.in_ok-push.ensures.len in let ok = self.calls.ok.0 in omega (arith, more, ok)) in
    record {
      kept = keeps_unwritten self.names.list.items self.nodes.items self.calls.items self.kept c.args.node v was c.requires
          (c.in-Err.ensures.items ∙ ap (λ (x : Node). x.bytes.items) same)
          (ap (λ (x : Node). x.synced) same)
          (ap (λ (x : Node). x.doubted) same)
          c.pop.new.self.items calls;
      apart = self.apart;
    }
