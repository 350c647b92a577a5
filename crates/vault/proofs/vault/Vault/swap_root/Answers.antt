use Rattle.vault.proofs.Names.{next_open}
use Rattle.vault.proofs.Calls.{swap_refused, swap_done, swap_doubted}
use Rattle.vault.proofs.vault.Vault.swap_root.Goals as goal

pub returns-in-Err-clause-effect : goal.returns-in-Err-clause-effect
returns-in-Err-clause-effect g c honest =
    let s0 = g.D.Disk.state c.args.self.now.disk in
    swap_refused c.args.bytes.now s0 _ c.in-Err.e _ c.refusal_of.ensures (c.in-Err.ensures.effect honest (next_open s0))
    (g.met.D.Disk.lawful c.args.self.now.disk) honest c.in-Err.ensures.counts

pub returns-in-Ok-clause-effect : goal.returns-in-Ok-clause-effect
returns-in-Ok-clause-effect g c honest =
    let s0 = g.D.Disk.state c.args.self.now.disk in
    let placed = c.in_default.ensures.effect honest (next_open s0) in
    let h1 = c.place.ensures.honest.0 honest in
    swap_done c.args.bytes.now s0 _ _ placed (g.met.D.Disk.lawful c.place.new.disk) h1 (c.in-Ok.ensures.effect h1 c.args.bytes.now placed.written)

pub returns-in-Err-turn-clause-effect : goal.returns-in-Err-turn-clause-effect
returns-in-Err-turn-clause-effect g c honest =
    let s0 = g.D.Disk.state c.args.self.now.disk in
    let placed = c.in_default.ensures.effect honest (next_open s0) in
    let h1 = c.place.ensures.honest.0 honest in
    swap_doubted c.args.bytes.now s0 _ _ placed (g.met.D.Disk.lawful c.place.new.disk) h1 c.in-Err-turn.field-0 (c.in-Err-turn.ensures.effect h1 c.args.bytes.now placed.written)
    c.in_default.ensures.counts c.in-Err-turn.ensures.counts
