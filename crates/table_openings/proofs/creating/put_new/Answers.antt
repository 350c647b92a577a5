use Rattle.schema.specs.Keys.{key_columns_view}
use Rattle.table.specs.Table.{empty_table}
use Rattle.table_openings.proofs.AfterCreations.{none_on, read_leaves, read_room, leaves_on, cause_on, doubt_on}
use Rattle.table_openings.proofs.creating.put_new.Goals as goal

pub returns-in-Ok-clause-moments : goal.returns-in-Ok-clause-moments
returns-in-Ok-clause-moments g c honest room none =
    let old = g.D.Disk.state c.args.vault.now.disk in
    let mid = g.D.Disk.state c.check_new.new.vault.disk in
    let left = c.in-Ok.ensures.unchanged honest in
    leaves_on old mid left (g.D.Disk.state c.put_first.new.vault.disk) (empty_table c.args.schema (key_columns_view c.args.keys.items)) room none
    (c.put_first.ensures.moments (c.in-Ok.ensures.honest.0 honest) (read_room old mid left (key_columns_view c.args.keys.items) room) (none_on old mid left none))

pub returns-in-Ok-clause-room : goal.returns-in-Ok-clause-room
returns-in-Ok-clause-room g c honest room =
    let old = g.D.Disk.state c.args.vault.now.disk in
    let mid = g.D.Disk.state c.check_new.new.vault.disk in
    c.put_first.ensures.room (c.in-Ok.ensures.honest.0 honest) (read_room old mid (c.in-Ok.ensures.unchanged honest) (key_columns_view c.args.keys.items) room)

pub returns-in-Ok-clause-cause : goal.returns-in-Ok-clause-cause
returns-in-Ok-clause-cause g c honest room =
    let old = g.D.Disk.state c.args.vault.now.disk in
    let mid = g.D.Disk.state c.check_new.new.vault.disk in
    let left = c.in-Ok.ensures.unchanged honest in
    cause_on old mid left (g.D.Disk.state c.put_first.new.vault.disk) c.put_first.result c.in-Ok.ensures.told
    (c.put_first.ensures.cause (c.in-Ok.ensures.honest.0 honest) (read_room old mid left (key_columns_view c.args.keys.items) room))

pub returns-in-Ok-clause-in_doubt : goal.returns-in-Ok-clause-in_doubt
returns-in-Ok-clause-in_doubt g c honest =
    let old = g.D.Disk.state c.args.vault.now.disk in
    let mid = g.D.Disk.state c.check_new.new.vault.disk in
    doubt_on old mid (c.in-Ok.ensures.unchanged honest) (g.D.Disk.state c.put_first.new.vault.disk) c.put_first.result (c.put_first.ensures.in_doubt (c.in-Ok.ensures.honest.0 honest))

pub returns-in-Err-clause-room : goal.returns-in-Err-clause-room
returns-in-Err-clause-room g c honest room =
    read_room (g.D.Disk.state c.args.vault.now.disk) (g.D.Disk.state c.check_new.new.vault.disk) (c.in-Err.ensures.unchanged honest) (key_columns_view c.args.keys.items) room

pub returns-in-Ok-clause-refused : goal.returns-in-Ok-clause-refused
returns-in-Ok-clause-refused g c honest none =
    c.put_first.ensures.refused (c.in-Ok.ensures.honest.0 honest) (none_on (g.D.Disk.state c.args.vault.now.disk) (g.D.Disk.state c.check_new.new.vault.disk) (c.in-Ok.ensures.unchanged honest) none)

pub returns-in-Err-clause-refused : goal.returns-in-Err-clause-refused
returns-in-Err-clause-refused g c honest none other = none_on (g.D.Disk.state c.args.vault.now.disk) (g.D.Disk.state c.check_new.new.vault.disk) (c.in-Err.ensures.unchanged honest) none

pub returns-in-Err-clause-moments : goal.returns-in-Err-clause-moments
returns-in-Err-clause-moments g c honest room none =
    read_leaves (g.D.Disk.state c.args.vault.now.disk) (g.D.Disk.state c.check_new.new.vault.disk) (c.in-Err.ensures.unchanged honest) (empty_table c.args.schema (key_columns_view c.args.keys.items)) room none
