use Rattle.commands.proofs.OpenedSo.{changed_so}
use Rattle.commands.proofs.making.Making.open.Goals as goal

pub returns-clause-opens : goal.returns-clause-opens
returns-clause-opens g c =
    (c.in_ok-store.store, changed_so c.in_ok-store.was c.open_beside-opened.ensures.opens, c.keep_replaced.ensures.keeps)
