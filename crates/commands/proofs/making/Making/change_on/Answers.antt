use Rattle.std.proofs.Common.{refl}
use Rattle.commands.specs.Calls.{not_opened}
use Rattle.commands.proofs.TasksAt.{changed_from}
use Rattle.commands.proofs.making.Making.change_on.Goals as goal

pub returns-in-Ok-clause-comes : goal.returns-in-Ok-clause-comes
returns-in-Ok-clause-comes g c =
    let opens = c.in-Ok.ensures.opens in
    changed_from opens.0 c.in-Ok.store c.change_store-made.new.store c.clean_up.new.store opens.1 opens.2
    c.change_store-made.ensures.comes c.clean_up.ensures.cleans c.into_disk.ensures

pub returns-in-Err-clause-comes : goal.returns-in-Err-clause-comes
returns-in-Err-clause-comes g c = not_opened c.in-Err.refusal c.in-Err.ensures.opens refl refl

pub invariant_of-brought : goal.invariant_of-brought
invariant_of-brought g c = record { alike = c.brought-1.given.0.0.gathered.buffers.alike }
