use Rattle.std.proofs.Common.{◌≡◌, arith, ap, List, ℕ}
use Rattle.mem_disk.specs.declared.call.Call.TheVariants.{Bind}
use Rattle.mem_disk.specs.Loose.{empty, replayed, bound}
use Rattle.mem_disk.proofs.Keeping.{keeps_bound, keeps_same, popped}
use Rattle.mem_disk.proofs.held.Held.bind.Goals as goal

pub invariant_of-self-in-Ok : goal.invariant_of-self-in-Ok
invariant_of-self-in-Ok c =
    let self = c.args.self.now in
    record {
      kept = keeps_bound self.names.list.items self.nodes.items self.calls.items self.kept c.rebind.new.self.list.items c.push.new.self.items (Bind c.in_ok-from_str.field-0 c.args.to) c.args.path.now c.args.to
          c.in_ok-push.ensures.items
          (ap (λ (p : List ℕ). bound (replayed empty self.calls.items) p c.args.to) c.in_ok-from_str.ensures.ok)
          c.in-Ok.ensures.ok c.requires.no_folder c.requires.home c.requires.node;
      apart = c.rebind.ensures.apart self.apart;
    }

pub invariant_of-self-in-Err : goal.invariant_of-self-in-Err
invariant_of-self-in-Err c =
    let self = c.args.self.now in
    let calls : c.pop.new.self.items ≡ self.calls.items = popped self.calls.items c.push.new.self.items c.pop.new.self.items _ _ c.in_ok-push.ensures.items c.pop.ensures.rest (let more = c.in_ok-push.ensures.len in let ok = self.calls.ok.0 in omega (arith, more, ok)) in
    record { kept = keeps_same self.names.list.items c.rebind.new.self.list.items self.nodes.items self.calls.items c.pop.new.self.items calls c.in-Err.ensures.err self.kept; apart = c.rebind.ensures.apart self.apart }
