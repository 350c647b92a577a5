use Rattle.commands.proofs.CreatedSo.{looks_on}
use Rattle.commands.proofs.creating.loose_part.Goals as goal

pub returns : goal.returns
returns g c =
    let state = g.D.Disk.state in
    let first = c.root.ensures in
    let then = c.leftovers.ensures.effect in
    looks_on (state c.args.vault.now.disk) (state c.root.new.self.disk) (state c.leftovers.new.vault.disk)
    (record { unchanged = first.unchanged; counts = first.counts.later; honest = first.honest })
    (record { unchanged = then.unchanged; counts = then.counts; honest = then.honest })

pub returns-in_err-paths : goal.returns-in_err-paths
returns-in_err-paths g c =
    let state = g.D.Disk.state in
    let first = c.root.ensures in
    let then = c.leftovers.ensures.effect in
    looks_on (state c.args.vault.now.disk) (state c.root.new.self.disk) (state c.leftovers.new.vault.disk)
    (record { unchanged = first.unchanged; counts = first.counts.later; honest = first.honest })
    (record { unchanged = then.unchanged; counts = then.counts; honest = then.honest })
