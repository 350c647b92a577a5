use Rattle.std.proofs.Common.{map}
use Rattle.std.specs.Prelude.{string_bytes}
use Rattle.commands.proofs.CreatedSo.{made_after, not_made_after}
use Rattle.commands.proofs.making.Making.make_table_on.Goals as goal

pub returns-in-Ok : goal.returns-in-Ok
returns-in-Ok g c =
    made_after g.D.Disk.state c.args.self.now.call.now.options c.args.schema.now (map string_bytes c.args.keys.now) c.args.disk c.start-vault.result.disk c.free_schema.new.vault.disk c.into_disk.result c.start-vault.ensures c.into_disk.ensures c.free_schema.ensures.looks
    c.in-Ok.own c.create_on.result.0 c.create_on.result.1 c.in-Ok.ensures.same c.create_on.ensures

pub returns-in-Err : goal.returns-in-Err
returns-in-Err g c =
    not_made_after g.D.Disk.state c.args.self.now.call.now.options c.args.schema.now (map string_bytes c.args.keys.now) c.args.disk c.start-vault.result.disk c.free_schema.new.vault.disk c.into_disk-in-Err.result c.start-vault.ensures c.into_disk-in-Err.ensures c.free_schema.ensures.looks
    c.in-Err.refusal
