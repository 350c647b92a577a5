use Rattle.std.proofs.Common.{◌++◌, [], arith}
use Rattle.manifest.specs.Groups.{handles_view}
use Rattle.table_jobs.proofs.RowsUnderWay.{many_wait, held_in, none_more, last_goes}
use Rattle.table_jobs.proofs.run_writing.write_last.Goals as goal

pub returns-then-len-eq0-clause-writes : goal.returns-then-len-eq0-clause-writes
returns-then-len-eq0-clause-writes g c honest start s task is_open u =
    let old = c.args.store.now in
    let files = handles_view c.args.written.now.items in
    let waiting = c.args.waiting in
    let many = many_wait g.D.Disk.state start s c.args.job task old files waiting [] 1 u c.len.result c.len.ensures.counted in
    none_more g.D.Disk.state start s c.args.job task old files waiting u (let none = c.if-len-eq0.true in omega (arith, many, none))

pub returns-clause-writes : goal.returns-clause-writes
returns-clause-writes g c honest start s task is_open u =
    let state = g.D.Disk.state in
    let n = c.args.job in
    let old = c.args.store.now in
    let files = handles_view c.args.written.now.items in
    let waiting = c.args.waiting in
    let many = many_wait state start s n task old files waiting [] 1 u c.len.result c.len.ensures.counted in
    last_goes state start s n task old files waiting u (let some = c.if-len-eq0.false in omega (arith, many, some)) c.write_part_of_run.new.store (handles_view c.write_part_of_run.new.written.items) c.write_part_of_run.result
    (c.write_part_of_run.ensures.writes honest start s (task.groups ++ u.parts.added) task.key u.held is_open u.parts.written u.can (held_in state start s n task old files waiting [] 1 u) u.key_is u.buffer)
