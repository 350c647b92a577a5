use Rattle.store.proofs.ReopeningLaws.{crashes_are_reopened, stores_are_reopened}
use Rattle.store.proofs.restart.an_opening_finds_what_a_crash_left.Goals as goal

pub returns-clause-crash : goal.returns-clause-crash
returns-clause-crash g c = crashes_are_reopened g.D.Disk.state (g.D.Disk.state c.args.disk.now) c.tables_are_one.ensures

pub returns-clause-ended : goal.returns-clause-ended
returns-clause-ended g c = stores_are_reopened g.D.Disk.state c.tables_are_one.ensures
