use Rattle.std.proofs.Common.{List, ℕ, Ok, Err, refl, subst}
use Rattle.schema.specs.Keys.{key_columns_view}
use Rattle.vault.specs.Calls.{SwapsRoot}
use Rattle.table.specs.Table.{empty_table}
use Rattle.table_openings.proofs.AfterCreations.{unmoved, swap_leaves, swap_refused, swap_room, swap_cause, swap_doubted}
use Rattle.table_openings.proofs.creating.put_first.Goals as goal

pub returns-in-Ok-swap_root-clause-made : goal.returns-in-Ok-swap_root-clause-made
returns-in-Ok-swap_root-clause-made g c honest =
    let old = g.D.Disk.state c.args.vault.now.disk in
    let new = g.D.Disk.state c.swap_root.new.self.disk in
    let swaps = subst (λ (b : List ℕ). SwapsRoot {T = Unit {0}} b old new (Ok tt)) c.as_slice.ensures.value (c.in-Ok-swap_root.ensures.effect honest) in
    record { is = c.in-Ok.ensures.made; kept = swaps.done; rooted = swaps.fresh }

pub returns-in-Ok-swap_root-clause-moments : goal.returns-in-Ok-swap_root-clause-moments
returns-in-Ok-swap_root-clause-moments g c honest =
    let old = g.D.Disk.state c.args.vault.now.disk in
    let new = g.D.Disk.state c.swap_root.new.self.disk in
    let swaps = subst (λ (b : List ℕ). SwapsRoot {T = Unit {0}} b old new (Ok tt)) c.as_slice.ensures.value (c.in-Ok-swap_root.ensures.effect honest) in
    swap_leaves c.args.schema (key_columns_view c.args.keys.items) c.in-Ok.first c.in-Ok.ensures.made old new (Ok tt) swaps c.paths_are_apart.ensures.apart

pub returns-in-Ok-swap_root-clause-room : goal.returns-in-Ok-swap_root-clause-room
returns-in-Ok-swap_root-clause-room g c honest =
    let old = g.D.Disk.state c.args.vault.now.disk in
    let new = g.D.Disk.state c.swap_root.new.self.disk in
    let swaps = subst (λ (b : List ℕ). SwapsRoot {T = Unit {0}} b old new (Ok tt)) c.as_slice.ensures.value (c.in-Ok-swap_root.ensures.effect honest) in
    swap_room c.args.schema (key_columns_view c.args.keys.items) c.in-Ok.first c.in-Ok.ensures.made old new (Ok tt) swaps c.paths_are_apart.ensures.apart

pub returns-in-Err-swap_root-clause-moments : goal.returns-in-Err-swap_root-clause-moments
returns-in-Err-swap_root-clause-moments g c honest =
    let old = g.D.Disk.state c.args.vault.now.disk in
    let new = g.D.Disk.state c.swap_root.new.self.disk in
    let failed = Err c.in-Err-swap_root.e in
    let swaps = subst (λ (b : List ℕ). SwapsRoot {T = Unit {0}} b old new failed) c.as_slice.ensures.value (c.in-Err-swap_root.ensures.effect honest) in
    swap_leaves c.args.schema (key_columns_view c.args.keys.items) c.in-Ok.first c.in-Ok.ensures.made old new failed swaps c.paths_are_apart.ensures.apart

pub returns-in-Err-swap_root-clause-room : goal.returns-in-Err-swap_root-clause-room
returns-in-Err-swap_root-clause-room g c honest =
    let old = g.D.Disk.state c.args.vault.now.disk in
    let new = g.D.Disk.state c.swap_root.new.self.disk in
    let failed = Err c.in-Err-swap_root.e in
    let swaps = subst (λ (b : List ℕ). SwapsRoot {T = Unit {0}} b old new failed) c.as_slice.ensures.value (c.in-Err-swap_root.ensures.effect honest) in
    swap_room c.args.schema (key_columns_view c.args.keys.items) c.in-Ok.first c.in-Ok.ensures.made old new failed swaps c.paths_are_apart.ensures.apart

pub returns-in-Err-swap_root-clause-cause : goal.returns-in-Err-swap_root-clause-cause
returns-in-Err-swap_root-clause-cause g c honest =
    let old = g.D.Disk.state c.args.vault.now.disk in
    let new = g.D.Disk.state c.swap_root.new.self.disk in
    let failed = Err c.in-Err-swap_root.e in
    let swaps = subst (λ (b : List ℕ). SwapsRoot {T = Unit {0}} b old new failed) c.as_slice.ensures.value (c.in-Err-swap_root.ensures.effect honest) in
    swap_cause c.args.schema (key_columns_view c.args.keys.items) c.in-Ok.first c.in-Ok.ensures.made old new failed swaps c.in-Err-swap_root.e refl

pub returns-in-Err-swap_root-clause-in_doubt : goal.returns-in-Err-swap_root-clause-in_doubt
returns-in-Err-swap_root-clause-in_doubt g c honest =
    let old = g.D.Disk.state c.args.vault.now.disk in
    let new = g.D.Disk.state c.swap_root.new.self.disk in
    let failed = Err c.in-Err-swap_root.e in
    let swaps = subst (λ (b : List ℕ). SwapsRoot {T = Unit {0}} b old new failed) c.as_slice.ensures.value (c.in-Err-swap_root.ensures.effect honest) in
    swap_doubted c.args.schema (key_columns_view c.args.keys.items) c.in-Ok.first c.in-Ok.ensures.made old new failed swaps c.in-Err-swap_root.e refl

pub returns-in-Err-swap_root-clause-refused : goal.returns-in-Err-swap_root-clause-refused
returns-in-Err-swap_root-clause-refused g c honest =
    let old = g.D.Disk.state c.args.vault.now.disk in
    let new = g.D.Disk.state c.swap_root.new.self.disk in
    let failed = Err c.in-Err-swap_root.e in
    let swaps = subst (λ (b : List ℕ). SwapsRoot {T = Unit {0}} b old new failed) c.as_slice.ensures.value (c.in-Err-swap_root.ensures.effect honest) in
    swap_refused c.args.schema (key_columns_view c.args.keys.items) c.in-Ok.first c.in-Ok.ensures.made old new failed swaps c.in-Err-swap_root.e refl

pub returns-in-Err-clause-moments : goal.returns-in-Err-clause-moments
returns-in-Err-clause-moments g c honest room none = unmoved (empty_table c.args.schema (key_columns_view c.args.keys.items)) (g.D.Disk.state c.args.vault.now.disk) room none
