use Rattle.std.proofs.Common.{◌++◌, ◌≡◌, [], Result, length, map, ap, sym, ◌∙◌, subst, arith}
use Rattle.std.specs.Prelude.{Some}
use Rattle.bits.specs.declared.refusal.Refusal.{Refusal}
use Rattle.schema.specs.Keys.{row_without_keys, without_keys}
use Rattle.vault.proofs.Chained.{refused}
use Rattle.footer.specs.declared.options.WriteOptions.{WriteOptions}
use Rattle.shred.specs.declared.row_buffer.RowBuffer.{RowBuffer}
use Rattle.shred.specs.Buffer.{schema_of, holds}
use Rattle.gather.specs.declared.key_buffer.KeyBuffer.{KeyBuffer}
use Rattle.gather.specs.KeyBuffers.{HoldsRows}
use Rattle.manifest.specs.Groups.{Root, handles_view}
use Rattle.manifest.specs.Root.{stored_of}
use Rattle.table.specs.Limits.{IsPart}
use Rattle.table_jobs.specs.Rewritten.{StaysUnderWay, IsHalted}
use Rattle.table_commits.proofs.GroupRemovals.{memory_so}
use Rattle.table_commits.proofs.RowsFillGroups.{size_some}
use Rattle.table_jobs.proofs.GroupsOfRuns.{same_fields}
use Rattle.table_jobs.proofs.RowsUnderWay.{poor_way, many_wait, room_left, held_in, full_goes}
use Rattle.table_jobs.proofs.run_writing.write_full.Goals as goal

pub returns-then-len-store-clause-writes : goal.returns-then-len-store-clause-writes
returns-then-len-store-clause-writes g c honest start s task left is_open described u =
    let old = c.args.store.now in
    let files = handles_view c.args.written.now.items in
    let waiting = c.args.waiting.now in
    let many = many_wait g.D.Disk.state start s c.args.job task old files waiting left 0 u c.len.result c.len.ensures.counted in
    let options = ap (λ (o : WriteOptions). o.group_rows) u.parts.written.wrote.shows.options in
    room_left g.D.Disk.state start s c.args.job task old files waiting left 0 u 1 (let few = c.if-len-store.true in omega (arith, many, options, few))

pub returns-in_err-key-clause-writes : goal.returns-in_err-key-clause-writes
returns-in_err-key-clause-writes g c honest start s task left is_open described u =
    let old = c.args.store.now in
    let files = handles_view c.args.written.now.items in
    let waiting = c.args.waiting.now in
    refused (λ (r : Result (Unit {0}) Refusal). StaysUnderWay g.D.Disk.state start old s c.args.job task files waiting left 1 r) c.from_residual.result _ c.from_residual.ensures.1
    (memory_so c.in_err-key.field-0.0 c.in_err-key.ensures.which (λ e. IsHalted g.D.Disk.state start old s (IsPart s.options.group_rows task.given) task.most e) (poor_way g.D.Disk.state start s c.args.job task old files waiting left 0 u))

pub returns-in_err-empty-clause-writes : goal.returns-in_err-empty-clause-writes
returns-in_err-empty-clause-writes g c honest start s task left is_open described u =
    let old = c.args.store.now in
    let files = handles_view c.args.written.now.items in
    let waiting = c.args.waiting.now in
    refused (λ (r : Result (Unit {0}) Refusal). StaysUnderWay g.D.Disk.state start old s c.args.job task files waiting left 1 r) c.from_residual-in_err-empty.result _ c.from_residual-in_err-empty.ensures.1
    (memory_so c.in_err-empty.field-0.0 c.in_err-empty.ensures.which (λ e. IsHalted g.D.Disk.state start old s (IsPart s.options.group_rows task.given) task.most e) (poor_way g.D.Disk.state start s c.args.job task old files waiting left 0 u))

pub returns-clause-writes : goal.returns-clause-writes
returns-clause-writes g c honest start s task left is_open described u =
    let state = g.D.Disk.state in
    let n = c.args.job in
    let old = c.args.store.now in
    let files = handles_view c.args.written.now.items in
    let waiting = c.args.waiting.now in
    let has = u.parts.written in
    let stored = map (row_without_keys s.table.keys) u.held in
    let many = many_wait state start s n task old files waiting left 0 u c.len.result c.len.ensures.counted in
    let options = ap (λ (o : WriteOptions). o.group_rows) has.wrote.shows.options in
    let few = u.few in
    let full : s.options.group_rows ≡ length u.held = (let big = c.if-len-store.false in omega (arith, many, options, few, big)) in
    let least = size_some state start old s (Some n) files (task.groups ++ u.parts.added) has in
    let part : KeyBuffer = record { key = c.in_ok-key.key; rows = c.replace-rows.result } in
    let fresh : KeyBuffer = record { key = waiting.key; rows = c.replace-rows.new.dest } in
    let there : HoldsRows (without_keys s.table.keys s.table.schema) stored part = record {
      schema = ap schema_of c.replace-rows.ensures.value ∙ u.buffer.schema;
      held = subst (λ (b : RowBuffer). holds b stored) (sym c.replace-rows.ensures.value) u.buffer.held;
    } in
    let columns = c.in_ok-empty.ensures.of ∙ c.stored.ensures ∙ ap (λ (r : Root). stored_of r) described ∙ same_fields state start old s n files (task.groups ++ u.parts.added) has in
    let none : HoldsRows (without_keys s.table.keys s.table.schema) [] fresh = record {
      schema = ap schema_of c.replace-rows.ensures.after ∙ columns;
      held = subst (λ (b : RowBuffer). holds b []) (sym c.replace-rows.ensures.after) c.in_ok-empty.ensures.begins;
    } in
    full_goes state start s n task old files waiting left 0 u full (omega (arith, full, least)) c.write_part_of_run.new.store (handles_view c.write_part_of_run.new.written.items) fresh u.key_is none c.write_part_of_run.result
    (c.write_part_of_run.ensures.writes honest start s (task.groups ++ u.parts.added) task.key u.held is_open has u.can (held_in state start s n task old files waiting left 0 u) (c.in_ok-key.ensures.copies ∙ u.key_is) there)
