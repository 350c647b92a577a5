use Rattle.std.proofs.Common.{List, sym, ap, subst}
use Rattle.schema.specs.Keys.{KeyColumn, key_columns_view}
use Rattle.table.specs.Table.{empty_table}
use Rattle.table_state.specs.Spares.{HasRoom}
use Rattle.table_openings.specs.Opening.{HasNoRoot}
use Rattle.table_openings.proofs.NewTables.{same_keys, not_created_at, leaves_moved, failed_moved, doubt_moved, stands_so}
use Rattle.table_openings.proofs.AfterCreations.{unmoved, versions_are}
use Rattle.table_openings.proofs.opening.create.Goals as goal

pub returns-in-Ok-put_new-clause-created : goal.returns-in-Ok-put_new-clause-created
returns-in-Ok-put_new-clause-created g c honest keys named room =
    let found = key_columns_view c.in-Ok.keys.items in
    let same = same_keys c.args.schema _ c.leaves.ensures.valid keys found named (record { keys_are = c.in-Ok.ensures.stands; named = c.in-Ok.ensures.named }) in
    let before = subst (λ d. (g.D.Disk.state d).honest) (sym c.start-vault.ensures) honest in
    let room_before = subst (λ (ks : List KeyColumn). HasRoom ks (g.D.Disk.state c.start-vault.result.disk)) same (subst (λ d. HasRoom keys (g.D.Disk.state d)) (sym c.start-vault.ensures) room) in
    let now = subst (λ v. (g.D.Disk.state v.disk).honest) (sym c.started.ensures.vault) (c.put_new.ensures.honest.0 before) in
    let first = c.in-Ok-put_new.field-0 in
    stands_so g.D.Disk.state c.started.result c.args.options c.put_new.new.vault first c.started.ensures.vault c.started.ensures.manifest
    (c.started.ensures.started (versions_are c.args.schema found first (c.in-Ok-put_new.ensures.made before).is)) c.args.schema found keys (sym same) (c.in-Ok-put_new.ensures.made before)
    c.paths_are_apart.ensures.apart c.a_root_means_one_table.ensures c.rows_of_parts_fit.ensures c.in-Ok-put_new.ensures.in_range (c.put_new.ensures.room before room_before)
    ((g.met.D.Disk.lawful c.started.result.vault.disk).seen_may_stay now) c.started.ensures.clean

pub returns-in-Ok-put_new-clause-moments : goal.returns-in-Ok-put_new-clause-moments
returns-in-Ok-put_new-clause-moments g c honest keys named room none =
    let found = key_columns_view c.in-Ok.keys.items in
    let same = same_keys c.args.schema _ c.leaves.ensures.valid found keys (record { keys_are = c.in-Ok.ensures.stands; named = c.in-Ok.ensures.named }) named in
    let before = subst (λ d. (g.D.Disk.state d).honest) (sym c.start-vault.ensures) honest in
    let none_before = subst (λ d. HasNoRoot (g.D.Disk.state d)) (sym c.start-vault.ensures) none in
    let room_before = subst (λ (ks : List KeyColumn). HasRoom ks (g.D.Disk.state c.start-vault.result.disk)) (sym same) (subst (λ d. HasRoom keys (g.D.Disk.state d)) (sym c.start-vault.ensures) room) in
    leaves_moved g.D.Disk.state c.start-vault.result.disk c.args.disk c.put_new.new.vault.disk c.started.result.vault.disk c.start-vault.ensures (sym (ap (λ v. v.disk) c.started.ensures.vault))
    (empty_table c.args.schema found) (empty_table c.args.schema keys) (ap (λ (ks : List KeyColumn). empty_table c.args.schema ks) same) (c.put_new.ensures.moments before room_before none_before)

pub returns-clause-moments : goal.returns-clause-moments
returns-clause-moments g c honest keys named room none =
    let found = key_columns_view c.in-Ok.keys.items in
    let same = same_keys c.args.schema _ c.leaves.ensures.valid found keys (record { keys_are = c.in-Ok.ensures.stands; named = c.in-Ok.ensures.named }) named in
    let before = subst (λ d. (g.D.Disk.state d).honest) (sym c.start-vault.ensures) honest in
    let none_before = subst (λ d. HasNoRoot (g.D.Disk.state d)) (sym c.start-vault.ensures) none in
    let room_before = subst (λ (ks : List KeyColumn). HasRoom ks (g.D.Disk.state c.start-vault.result.disk)) (sym same) (subst (λ d. HasRoom keys (g.D.Disk.state d)) (sym c.start-vault.ensures) room) in
    leaves_moved g.D.Disk.state c.start-vault.result.disk c.args.disk c.put_new.new.vault.disk c.into_disk.result c.start-vault.ensures (sym c.into_disk.ensures)
    (empty_table c.args.schema found) (empty_table c.args.schema keys) (ap (λ (ks : List KeyColumn). empty_table c.args.schema ks) same) (c.put_new.ensures.moments before room_before none_before)

pub returns-clause-which : goal.returns-clause-which
returns-clause-which g c honest =
    let found = key_columns_view c.in-Ok.keys.items in
    let before = subst (λ d. (g.D.Disk.state d).honest) (sym c.start-vault.ensures) honest in
    not_created_at g.D.Disk.state c.start-vault.result.disk c.args.disk c.put_new.new.vault.disk c.into_disk.result c.start-vault.ensures (sym c.into_disk.ensures)
    c.args.schema _ c.args.options found (record { keys_are = c.in-Ok.ensures.stands; named = c.in-Ok.ensures.named }) c.in-Err-put_new.e (c.in-Err-put_new.ensures.which before)

pub returns-clause-cause : goal.returns-clause-cause
returns-clause-cause g c honest keys named room why =
    let found = key_columns_view c.in-Ok.keys.items in
    let same = same_keys c.args.schema _ c.leaves.ensures.valid keys found named (record { keys_are = c.in-Ok.ensures.stands; named = c.in-Ok.ensures.named }) in
    let before = subst (λ d. (g.D.Disk.state d).honest) (sym c.start-vault.ensures) honest in
    let room_before = subst (λ (ks : List KeyColumn). HasRoom ks (g.D.Disk.state c.start-vault.result.disk)) same (subst (λ d. HasRoom keys (g.D.Disk.state d)) (sym c.start-vault.ensures) room) in
    failed_moved g.D.Disk.state c.start-vault.result.disk c.args.disk c.put_new.new.vault.disk c.into_disk.result c.start-vault.ensures (sym c.into_disk.ensures) (c.in-Err-put_new.ensures.cause before room_before why)

pub returns-clause-in_doubt : goal.returns-clause-in_doubt
returns-clause-in_doubt g c honest is =
    let before = subst (λ d. (g.D.Disk.state d).honest) (sym c.start-vault.ensures) honest in
    doubt_moved g.D.Disk.state c.start-vault.result.disk c.args.disk c.put_new.new.vault.disk c.into_disk.result c.start-vault.ensures (sym c.into_disk.ensures) (c.in-Err-put_new.ensures.in_doubt before is)

pub returns-clause-refused : goal.returns-clause-refused
returns-clause-refused g c honest none other =
    let before = subst (λ d. (g.D.Disk.state d).honest) (sym c.start-vault.ensures) honest in
    let none_before = subst (λ d. HasNoRoot (g.D.Disk.state d)) (sym c.start-vault.ensures) none in
    subst (λ d. HasNoRoot (g.D.Disk.state d)) (sym c.into_disk.ensures) (c.in-Err-put_new.ensures.refused before none_before other)

pub returns-in-Ok-put_new-clause-room : goal.returns-in-Ok-put_new-clause-room
returns-in-Ok-put_new-clause-room g c honest keys named room =
    let found = key_columns_view c.in-Ok.keys.items in
    let same = same_keys c.args.schema _ c.leaves.ensures.valid keys found named (record { keys_are = c.in-Ok.ensures.stands; named = c.in-Ok.ensures.named }) in
    let before = subst (λ d. (g.D.Disk.state d).honest) (sym c.start-vault.ensures) honest in
    let room_before = subst (λ (ks : List KeyColumn). HasRoom ks (g.D.Disk.state c.start-vault.result.disk)) same (subst (λ d. HasRoom keys (g.D.Disk.state d)) (sym c.start-vault.ensures) room) in
    let after = subst (λ (ks : List KeyColumn). HasRoom ks (g.D.Disk.state c.put_new.new.vault.disk)) (sym same) (c.put_new.ensures.room before room_before) in
    subst (λ v. HasRoom keys (g.D.Disk.state v.disk)) (sym c.started.ensures.vault) after

pub returns-clause-room : goal.returns-clause-room
returns-clause-room g c honest keys named room =
    let found = key_columns_view c.in-Ok.keys.items in
    let same = same_keys c.args.schema _ c.leaves.ensures.valid keys found named (record { keys_are = c.in-Ok.ensures.stands; named = c.in-Ok.ensures.named }) in
    let before = subst (λ d. (g.D.Disk.state d).honest) (sym c.start-vault.ensures) honest in
    let room_before = subst (λ (ks : List KeyColumn). HasRoom ks (g.D.Disk.state c.start-vault.result.disk)) same (subst (λ d. HasRoom keys (g.D.Disk.state d)) (sym c.start-vault.ensures) room) in
    let after = subst (λ (ks : List KeyColumn). HasRoom ks (g.D.Disk.state c.put_new.new.vault.disk)) (sym same) (c.put_new.ensures.room before room_before) in
    subst (λ d. HasRoom keys (g.D.Disk.state d)) (sym c.into_disk.ensures) after

pub returns-in-Err-clause-moments : goal.returns-in-Err-clause-moments
returns-in-Err-clause-moments g c honest keys named room none = unmoved (empty_table c.args.schema keys) (g.D.Disk.state c.args.disk) room none
