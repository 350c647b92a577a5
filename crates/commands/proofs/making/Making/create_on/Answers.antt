use Rattle.std.proofs.Common.{map}
use Rattle.std.specs.Prelude.{string_bytes}
use Rattle.commands.proofs.CreatedSo.{store_made, store_refused}
use Rattle.commands.proofs.making.Making.create_on.Goals as goal

pub returns-in-Ok : goal.returns-in-Ok
returns-in-Ok g c =
    let e = c.in-Ok.ensures in
    store_made g.D.Disk.state c.args.self.now.call.now.options c.args.own (map string_bytes c.args.keys.now) c.args.disk c.in-Ok.store c.into_disk.result c.into_disk.ensures
    (record { created = e.created; moments = e.moments; refused = e.refused; room = e.room; asked = e.asked; which = e.which; unchanged = e.unchanged; cause = e.cause; counts = e.counts; honest = e.honest })

pub returns-in-Err : goal.returns-in-Err
returns-in-Err g c =
    let e = c.in-Err.ensures in
    store_refused g.D.Disk.state c.args.self.now.call.now.options c.args.own (map string_bytes c.args.keys.now) c.args.disk c.in-Err.disk c.in-Err.refusal
    (record { created = e.created; moments = e.moments; refused = e.refused; room = e.room; asked = e.asked; which = e.which; unchanged = e.unchanged; cause = e.cause; counts = e.counts; honest = e.honest })
