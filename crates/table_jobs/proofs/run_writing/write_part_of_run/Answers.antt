use Rattle.std.proofs.Common.{map, refl, sym, subst}
use Rattle.schema.specs.Keys.{row_without_keys}
use Rattle.schema.specs.Shape.{Fields}
use Rattle.schema.specs.Views.{key_view}
use Rattle.gather.specs.KeyBuffers.{HoldsRows}
use Rattle.manifest.specs.Groups.{handles_view}
use Rattle.table_jobs.proofs.GroupsOfRuns.{same_fields, are_rows, added_so}
use Rattle.table_jobs.proofs.run_writing.write_part_of_run.Goals as goal

pub returns-clause-writes : goal.returns-clause-writes
returns-clause-writes g c honest start s groups key given is_open has can are_in ek holds =
    let state = g.D.Disk.state in
    let old = c.args.store.now in
    let new = c.write_gathered.new.store in
    let files = handles_view c.args.written.now.items in
    let more = handles_view c.write_gathered.new.written.items in
    let k = key_view c.args.part.key in
    let stored = map (row_without_keys s.table.keys) given in
    let are = are_rows state start old s c.args.job files groups has key given can are_in k stored ek refl in
    let there = subst (λ (fs : Fields). HoldsRows fs stored c.args.part) (sym (same_fields state start old s c.args.job files groups has)) holds in
    added_so state start old s c.args.job files groups has key given can are_in new more k stored ek refl c.write_gathered.result
    (c.write_gathered.ensures.adds honest start s groups stored given is_open has there are) (c.write_gathered.ensures.which stored there) c.write_gathered.ensures.goes
