use Rattle.std.proofs.Common.{◌≡◌, length, arith, ◌∙◌, Some, string_bytes}
use Rattle.std.specs.HashMap.{get_by_text}
use Rattle.std.proofs.lemmas.Map.Text.{hash_map_updates_text}
use Rattle.mem_disk.proofs.Places.{added}
use Rattle.mem_disk.proofs.names.Names.add.Goals as goal

pub invariant_of-self-in-Ok : goal.invariant_of-self-in-Ok
invariant_of-self-in-Ok c =
    let self = c.args.self.now in
    let here : c.len-at.result ≡ length self.list.items = let len = c.len-at.ensures in let ok = self.list.ok.0 in omega (arith, len, ok) in
    record {
      placed = added self.list.items c.push.new.self.items c.args.name (get_by_text self.places) (get_by_text c.insert.new.self) (string_bytes c.in_ok-key.key) c.len-at.result
          self.placed (hash_map_updates_text (string_bytes c.in_ok-key.key) self.places c.insert.new.self (Some c.len-at.result) c.in-Ok.ensures.updates)
          (c.in_ok-key.ensures.ok ∙ c.deref.ensures) here c.requires c.in_ok-push.ensures.items;
    }
