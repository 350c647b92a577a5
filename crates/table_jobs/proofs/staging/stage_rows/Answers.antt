use Rattle.std.proofs.Common.{◌≡◌, ◌≤◌, ◌+◌, ◌++◌, ℕ, true, List, Err, map, length, refl, ap, sym, ◌∙◌, subst}
use Rattle.bits.specs.declared.refusal.Refusal.{Refusal}
use Rattle.schema.specs.Views.{rows_view}
use Rattle.vault.specs.Calls.{HasFailed}
use Rattle.vault.proofs.Chained.{refused}
use Rattle.partition.specs.Splitting.{key_rows_view}
use Rattle.partition.specs.declared.splitting.KeyRows.{KeyRows as CodeKeyRows}
use Rattle.manifest.specs.Groups.{root_of, handles_view}
use Rattle.manifest.specs.Root.{stored_of}
use Rattle.table.specs.Calls.{stage, accepted}
use Rattle.table.specs.Refusing.{is_failure}
use Rattle.table.specs.Views.{answered}
use Rattle.table_state.specs.declared.standing.Core.{Core}
use Rattle.table_state.specs.declared.jobs.Work.TheVariants.{Append}
use Rattle.table_state.specs.declared.jobs.Appending.{Appending}
use Rattle.table_commits.specs.Filling.{AreBuffers}
use Rattle.table_jobs.specs.Completing.{completed_buffers, waiting_at, groups_at}
use Rattle.table_state.specs.Lookups.{job_at}
use Rattle.table_state.specs.Promises.{ActsFrom}
use Rattle.table_jobs.proofs.JobChecks.{stage_poor}
use Rattle.table_commits.proofs.GroupRemovals.{memory_only}
use Rattle.table_jobs.proofs.WorkReplaced.{put_back}
use Rattle.table_jobs.proofs.StageGoesOn.{append_in}
use Rattle.table_jobs.proofs.StageEnds.{starts, stopped, stopped_cause, poor_after, done_so}
use Rattle.table_jobs.proofs.StagePasses.{there_so, fine_so, whole_at, wait_at, buffers_at, fit_here, keyed_here, parts_here, fine_at, high_at}
use Rattle.table_jobs.proofs.staging.stage_rows.Goals as goal

pub returns-in_err-table-clause-acts : goal.returns-in_err-table-clause-acts
returns-in_err-table-clause-acts g c honest s stands is_open fine =
    let old = c.args.store.now in
    let given = rows_view c.args.rows.now in
    refused (λ r. ActsFrom g.D.Disk.state old old (stage c.args.job given) (answered {T = Unit {0}} (λ x. accepted) r) s) c.from_residual.result _ c.from_residual.ensures.1
    (subst (λ (e : Refusal). ActsFrom g.D.Disk.state old old (stage c.args.job given) (answered {T = Unit {0}} (λ x. accepted) (Err e)) s) (sym (memory_only c.in_err-table.field-0.0 c.in_err-table.ensures.which))
    (stage_poor g.D.Disk.state old s stands is_open c.args.job given))

pub returns-in_err-table-clause-cause : goal.returns-in_err-table-clause-cause
returns-in_err-table-clause-cause g c honest s stands is_open fine =
    let old = c.args.store.now in
    refused (λ r. is_failure (answered {T = Unit {0}} (λ x. accepted) r) ≡ true → HasFailed (g.D.Disk.state old.vault.disk) (g.D.Disk.state old.vault.disk)) c.from_residual.result _ c.from_residual.ensures.1
    (subst (λ (e : Refusal). is_failure (answered {T = Unit {0}} (λ x. accepted) (Err e)) ≡ true → HasFailed (g.D.Disk.state old.vault.disk) (g.D.Disk.state old.vault.disk)) (sym (memory_only c.in_err-table.field-0.0 c.in_err-table.ensures.which))
    (λ h. absurd (cc)))

pub returns-in_err-waiting-clause-acts : goal.returns-in_err-waiting-clause-acts
returns-in_err-waiting-clause-acts g c honest s stands is_open fine =
    let old = c.args.store.now in
    let given = rows_view c.args.rows.now in
    refused (λ r. ActsFrom g.D.Disk.state old old (stage c.args.job given) (answered {T = Unit {0}} (λ x. accepted) r) s) c.from_residual-in_err-waiting.result _ c.from_residual-in_err-waiting.ensures.1
    (subst (λ (e : Refusal). ActsFrom g.D.Disk.state old old (stage c.args.job given) (answered {T = Unit {0}} (λ x. accepted) (Err e)) s) (sym (memory_only c.in_err-waiting.field-0.0 c.in_err-waiting.ensures.which))
    (stage_poor g.D.Disk.state old s stands is_open c.args.job given))

pub returns-in_err-waiting-clause-cause : goal.returns-in_err-waiting-clause-cause
returns-in_err-waiting-clause-cause g c honest s stands is_open fine =
    let old = c.args.store.now in
    refused (λ r. is_failure (answered {T = Unit {0}} (λ x. accepted) r) ≡ true → HasFailed (g.D.Disk.state old.vault.disk) (g.D.Disk.state old.vault.disk)) c.from_residual-in_err-waiting.result _ c.from_residual-in_err-waiting.ensures.1
    (subst (λ (e : Refusal). is_failure (answered {T = Unit {0}} (λ x. accepted) (Err e)) ≡ true → HasFailed (g.D.Disk.state old.vault.disk) (g.D.Disk.state old.vault.disk)) (sym (memory_only c.in_err-waiting.field-0.0 c.in_err-waiting.ensures.which))
    (λ h. absurd (cc)))

pub returns-in_err-groups-clause-acts : goal.returns-in_err-groups-clause-acts
returns-in_err-groups-clause-acts g c honest s stands is_open fine =
    let old = c.args.store.now in
    let given = rows_view c.args.rows.now in
    let n = c.args.job in
    let t = there_so g.D.Disk.state old s stands is_open n given fine in
    let same = c.in_ok-table.ensures.same in
    let root = root_of c.in_ok-table.table in
    let told = c.in_ok-waiting.ensures.told ∙ ap (λ js. completed_buffers c.stored.result.now (waiting_at (job_at n js))) c.as_slice.ensures.value in
    let here = buffers_at g.D.Disk.state old s stands is_open n t root same c.stored.result.now (map key_rows_view c.in_ok-waiting.waiting.items) c.stored.ensures told in
    let seen = subst (λ (xs : List CodeKeyRows). AreBuffers root.schema root.keys (map key_rows_view xs) (whole_at g.D.Disk.state old s stands is_open n t root same)) (sym c.as_slice-2.ensures.value) here in
    let rows = fine_so g.D.Disk.state old s stands is_open n given fine in
    let only = c.in_err-groups.ensures.only (whole_at g.D.Disk.state old s stands is_open n t root same) seen
    (fit_here g.D.Disk.state old s stands is_open n t root same given rows) (keyed_here g.D.Disk.state old s stands is_open n t root same given rows) in
    refused (λ r. ActsFrom g.D.Disk.state old old (stage c.args.job given) (answered {T = Unit {0}} (λ x. accepted) r) s) c.from_residual-in_err-groups.result _ c.from_residual-in_err-groups.ensures.1
    (subst (λ (e : Refusal). ActsFrom g.D.Disk.state old old (stage c.args.job given) (answered {T = Unit {0}} (λ x. accepted) (Err e)) s) (sym (memory_only c.in_err-groups.field-0.0 only))
    (stage_poor g.D.Disk.state old s stands is_open c.args.job given))

pub returns-in_err-groups-clause-cause : goal.returns-in_err-groups-clause-cause
returns-in_err-groups-clause-cause g c honest s stands is_open fine =
    let old = c.args.store.now in
    let given = rows_view c.args.rows.now in
    let n = c.args.job in
    let t = there_so g.D.Disk.state old s stands is_open n given fine in
    let same = c.in_ok-table.ensures.same in
    let root = root_of c.in_ok-table.table in
    let told = c.in_ok-waiting.ensures.told ∙ ap (λ js. completed_buffers c.stored.result.now (waiting_at (job_at n js))) c.as_slice.ensures.value in
    let here = buffers_at g.D.Disk.state old s stands is_open n t root same c.stored.result.now (map key_rows_view c.in_ok-waiting.waiting.items) c.stored.ensures told in
    let seen = subst (λ (xs : List CodeKeyRows). AreBuffers root.schema root.keys (map key_rows_view xs) (whole_at g.D.Disk.state old s stands is_open n t root same)) (sym c.as_slice-2.ensures.value) here in
    let rows = fine_so g.D.Disk.state old s stands is_open n given fine in
    let only = c.in_err-groups.ensures.only (whole_at g.D.Disk.state old s stands is_open n t root same) seen
    (fit_here g.D.Disk.state old s stands is_open n t root same given rows) (keyed_here g.D.Disk.state old s stands is_open n t root same given rows) in
    refused (λ r. is_failure (answered {T = Unit {0}} (λ x. accepted) r) ≡ true → HasFailed (g.D.Disk.state old.vault.disk) (g.D.Disk.state old.vault.disk)) c.from_residual-in_err-groups.result _ c.from_residual-in_err-groups.ensures.1
    (subst (λ (e : Refusal). is_failure (answered {T = Unit {0}} (λ x. accepted) (Err e)) ≡ true → HasFailed (g.D.Disk.state old.vault.disk) (g.D.Disk.state old.vault.disk)) (sym (memory_only c.in_err-groups.field-0.0 only))
    (λ h. absurd (cc)))

pub returns-in_err-rests-clause-acts : goal.returns-in_err-rests-clause-acts
returns-in_err-rests-clause-acts g c honest s stands is_open fine =
    let old = c.args.store.now in
    let given = rows_view c.args.rows.now in
    refused (λ r. ActsFrom g.D.Disk.state old old (stage c.args.job given) (answered {T = Unit {0}} (λ x. accepted) r) s) c.from_residual-in_err-rests.result _ c.from_residual-in_err-rests.ensures.1
    (subst (λ (e : Refusal). ActsFrom g.D.Disk.state old old (stage c.args.job given) (answered {T = Unit {0}} (λ x. accepted) (Err e)) s) (sym (memory_only c.in_err-rests.field-0.0 c.in_err-rests.ensures.which))
    (stage_poor g.D.Disk.state old s stands is_open c.args.job given))

pub returns-in_err-rests-clause-cause : goal.returns-in_err-rests-clause-cause
returns-in_err-rests-clause-cause g c honest s stands is_open fine =
    let old = c.args.store.now in
    refused (λ r. is_failure (answered {T = Unit {0}} (λ x. accepted) r) ≡ true → HasFailed (g.D.Disk.state old.vault.disk) (g.D.Disk.state old.vault.disk)) c.from_residual-in_err-rests.result _ c.from_residual-in_err-rests.ensures.1
    (subst (λ (e : Refusal). is_failure (answered {T = Unit {0}} (λ x. accepted) (Err e)) ≡ true → HasFailed (g.D.Disk.state old.vault.disk) (g.D.Disk.state old.vault.disk)) (sym (memory_only c.in_err-rests.field-0.0 c.in_err-rests.ensures.which))
    (λ h. absurd (cc)))

pub returns-in_err-full-clause-acts : goal.returns-in_err-full-clause-acts
returns-in_err-full-clause-acts g c honest s stands is_open fine =
    let old = c.args.store.now in
    let n = c.args.job in
    let given = rows_view c.args.rows.now in
    let t = there_so g.D.Disk.state old s stands is_open n given fine in
    let same = c.in_ok-table.ensures.same in
    let root = root_of c.in_ok-table.table in
    let told = c.in_ok-waiting.ensures.told ∙ ap (λ js. completed_buffers c.stored.result.now (waiting_at (job_at n js))) c.as_slice.ensures.value in
    let here = buffers_at g.D.Disk.state old s stands is_open n t root same c.stored.result.now (map key_rows_view c.in_ok-waiting.waiting.items) c.stored.ensures told in
    let seen = subst (λ (xs : List CodeKeyRows). AreBuffers root.schema root.keys (map key_rows_view xs) (whole_at g.D.Disk.state old s stands is_open n t root same)) (sym c.as_slice-2.ensures.value) here in
    let parts = parts_here g.D.Disk.state old s stands is_open n t root same old.options.group_rows given c.in_ok-groups.groups.items c.take_rests.new.groups.items c.in_ok-rests.rests.items refl
    (c.in_ok-groups.ensures.groups (whole_at g.D.Disk.state old s stands is_open n t root same) seen) c.in_ok-rests.ensures.parts in
    let all_fine = fine_at g.D.Disk.state old s stands is_open n t root same given (fine_so g.D.Disk.state old s stands is_open n given fine) in
    let begun = starts g.D.Disk.state old s stands is_open n t.x t.a t.there t.is in
    let mid = c.write_groups.new.store in
    let took = c.in_err-full.ensures.takes honest old s (wait_at g.D.Disk.state old s stands is_open n t root same ++ given) is_open all_fine parts.full_held begun stands.shows.next_group in
    let high = high_at g.D.Disk.state old s stands is_open n t root same given (stored_of (root_of old.manifest)) c.take_rests.new.groups.items mid.next_group parts.full_held c.in_err-full.ensures.rises in
    refused (λ r. ActsFrom g.D.Disk.state old mid (stage n given) (answered {T = Unit {0}} (λ x. accepted) r) s) c.from_residual-in_err-full.result _ c.from_residual-in_err-full.ensures.1
    (stopped g.D.Disk.state old s stands is_open n t.x t.a t.there t.is given fine mid c.in_err-full.field-0.0 took high)

pub returns-in_err-full-clause-cause : goal.returns-in_err-full-clause-cause
returns-in_err-full-clause-cause g c honest s stands is_open fine =
    let old = c.args.store.now in
    let n = c.args.job in
    let given = rows_view c.args.rows.now in
    let t = there_so g.D.Disk.state old s stands is_open n given fine in
    let same = c.in_ok-table.ensures.same in
    let root = root_of c.in_ok-table.table in
    let told = c.in_ok-waiting.ensures.told ∙ ap (λ js. completed_buffers c.stored.result.now (waiting_at (job_at n js))) c.as_slice.ensures.value in
    let here = buffers_at g.D.Disk.state old s stands is_open n t root same c.stored.result.now (map key_rows_view c.in_ok-waiting.waiting.items) c.stored.ensures told in
    let seen = subst (λ (xs : List CodeKeyRows). AreBuffers root.schema root.keys (map key_rows_view xs) (whole_at g.D.Disk.state old s stands is_open n t root same)) (sym c.as_slice-2.ensures.value) here in
    let parts = parts_here g.D.Disk.state old s stands is_open n t root same old.options.group_rows given c.in_ok-groups.groups.items c.take_rests.new.groups.items c.in_ok-rests.rests.items refl
    (c.in_ok-groups.ensures.groups (whole_at g.D.Disk.state old s stands is_open n t root same) seen) c.in_ok-rests.ensures.parts in
    let all_fine = fine_at g.D.Disk.state old s stands is_open n t root same given (fine_so g.D.Disk.state old s stands is_open n given fine) in
    let begun = starts g.D.Disk.state old s stands is_open n t.x t.a t.there t.is in
    let mid = c.write_groups.new.store in
    let took = c.in_err-full.ensures.takes honest old s (wait_at g.D.Disk.state old s stands is_open n t root same ++ given) is_open all_fine parts.full_held begun stands.shows.next_group in
    let high = high_at g.D.Disk.state old s stands is_open n t root same given (stored_of (root_of old.manifest)) c.take_rests.new.groups.items mid.next_group parts.full_held c.in_err-full.ensures.rises in
    refused (λ r. is_failure (answered {T = Unit {0}} (λ x. accepted) r) ≡ true → HasFailed (g.D.Disk.state old.vault.disk) (g.D.Disk.state mid.vault.disk)) c.from_residual-in_err-full.result _ c.from_residual-in_err-full.ensures.1
    (stopped_cause g.D.Disk.state old s stands is_open n t.x t.a t.there t.is given fine mid c.in_err-full.field-0.0 took)

pub returns-in_err-written-clause-acts : goal.returns-in_err-written-clause-acts
returns-in_err-written-clause-acts g c honest s stands is_open fine =
    let old = c.args.store.now in
    let n = c.args.job in
    let given = rows_view c.args.rows.now in
    let t = there_so g.D.Disk.state old s stands is_open n given fine in
    let same = c.in_ok-table.ensures.same in
    let root = root_of c.in_ok-table.table in
    let told = c.in_ok-waiting.ensures.told ∙ ap (λ js. completed_buffers c.stored.result.now (waiting_at (job_at n js))) c.as_slice.ensures.value in
    let here = buffers_at g.D.Disk.state old s stands is_open n t root same c.stored.result.now (map key_rows_view c.in_ok-waiting.waiting.items) c.stored.ensures told in
    let seen = subst (λ (xs : List CodeKeyRows). AreBuffers root.schema root.keys (map key_rows_view xs) (whole_at g.D.Disk.state old s stands is_open n t root same)) (sym c.as_slice-2.ensures.value) here in
    let parts = parts_here g.D.Disk.state old s stands is_open n t root same old.options.group_rows given c.in_ok-groups.groups.items c.take_rests.new.groups.items c.in_ok-rests.rests.items refl
    (c.in_ok-groups.ensures.groups (whole_at g.D.Disk.state old s stands is_open n t root same) seen) c.in_ok-rests.ensures.parts in
    let all_fine = fine_at g.D.Disk.state old s stands is_open n t root same given (fine_so g.D.Disk.state old s stands is_open n given fine) in
    let begun = starts g.D.Disk.state old s stands is_open n t.x t.a t.there t.is in
    let mid = c.write_groups.new.store in
    let took = c.in_ok-full.ensures.takes honest old s (wait_at g.D.Disk.state old s stands is_open n t root same ++ given) is_open all_fine parts.full_held begun stands.shows.next_group in
    let high = high_at g.D.Disk.state old s stands is_open n t root same given (stored_of (root_of old.manifest)) c.take_rests.new.groups.items mid.next_group parts.full_held c.in_ok-full.ensures.rises in
    let kept = ap (λ (x : Core g.row.D.Denot). x.jobs) c.in_ok-full.ensures.same in
    refused (λ r. ActsFrom g.D.Disk.state old mid (stage n given) (answered {T = Unit {0}} (λ x. accepted) r) s) c.from_residual-in_err-written.result _ c.from_residual-in_err-written.ensures.1
    (subst (λ (e : Refusal). ActsFrom g.D.Disk.state old mid (stage n given) (answered {T = Unit {0}} (λ x. accepted) (Err e)) s) (sym (memory_only c.in_err-written.field-0.0 c.in_err-written.ensures.which))
    (poor_after g.D.Disk.state old s stands is_open n t.x t.a t.there t.is given fine mid (handles_view c.in_ok-full.full.items) parts.rests (took parts.rests parts.are) high kept))

pub returns-in_err-written-clause-cause : goal.returns-in_err-written-clause-cause
returns-in_err-written-clause-cause g c honest s stands is_open fine =
    let old = c.args.store.now in
    let mid = c.write_groups.new.store in
    refused (λ r. is_failure (answered {T = Unit {0}} (λ x. accepted) r) ≡ true → HasFailed (g.D.Disk.state old.vault.disk) (g.D.Disk.state mid.vault.disk)) c.from_residual-in_err-written.result _ c.from_residual-in_err-written.ensures.1
    (subst (λ (e : Refusal). is_failure (answered {T = Unit {0}} (λ x. accepted) (Err e)) ≡ true → HasFailed (g.D.Disk.state old.vault.disk) (g.D.Disk.state mid.vault.disk)) (sym (memory_only c.in_err-written.field-0.0 c.in_err-written.ensures.which))
    (λ h. absurd (cc)))

pub returns-in_err-left-clause-acts : goal.returns-in_err-left-clause-acts
returns-in_err-left-clause-acts g c honest s stands is_open fine =
    let old = c.args.store.now in
    let n = c.args.job in
    let given = rows_view c.args.rows.now in
    let t = there_so g.D.Disk.state old s stands is_open n given fine in
    let same = c.in_ok-table.ensures.same in
    let root = root_of c.in_ok-table.table in
    let told = c.in_ok-waiting.ensures.told ∙ ap (λ js. completed_buffers c.stored.result.now (waiting_at (job_at n js))) c.as_slice.ensures.value in
    let here = buffers_at g.D.Disk.state old s stands is_open n t root same c.stored.result.now (map key_rows_view c.in_ok-waiting.waiting.items) c.stored.ensures told in
    let seen = subst (λ (xs : List CodeKeyRows). AreBuffers root.schema root.keys (map key_rows_view xs) (whole_at g.D.Disk.state old s stands is_open n t root same)) (sym c.as_slice-2.ensures.value) here in
    let parts = parts_here g.D.Disk.state old s stands is_open n t root same old.options.group_rows given c.in_ok-groups.groups.items c.take_rests.new.groups.items c.in_ok-rests.rests.items refl
    (c.in_ok-groups.ensures.groups (whole_at g.D.Disk.state old s stands is_open n t root same) seen) c.in_ok-rests.ensures.parts in
    let all_fine = fine_at g.D.Disk.state old s stands is_open n t root same given (fine_so g.D.Disk.state old s stands is_open n given fine) in
    let begun = starts g.D.Disk.state old s stands is_open n t.x t.a t.there t.is in
    let mid = c.write_groups.new.store in
    let took = c.in_ok-full.ensures.takes honest old s (wait_at g.D.Disk.state old s stands is_open n t root same ++ given) is_open all_fine parts.full_held begun stands.shows.next_group in
    let high = high_at g.D.Disk.state old s stands is_open n t root same given (stored_of (root_of old.manifest)) c.take_rests.new.groups.items mid.next_group parts.full_held c.in_ok-full.ensures.rises in
    let kept = ap (λ (x : Core g.row.D.Denot). x.jobs) c.in_ok-full.ensures.same in
    refused (λ r. ActsFrom g.D.Disk.state old mid (stage n given) (answered {T = Unit {0}} (λ x. accepted) r) s) c.from_residual-in_err-left.result _ c.from_residual-in_err-left.ensures.1
    (subst (λ (e : Refusal). ActsFrom g.D.Disk.state old mid (stage n given) (answered {T = Unit {0}} (λ x. accepted) (Err e)) s) (sym (memory_only c.in_err-left.field-0.0 (c.in_err-left.ensures.only (stored_of (root_of old.manifest)) parts.rests parts.rests_held)))
    (poor_after g.D.Disk.state old s stands is_open n t.x t.a t.there t.is given fine mid (handles_view c.in_ok-full.full.items) parts.rests (took parts.rests parts.are) high kept))

pub returns-in_err-left-clause-cause : goal.returns-in_err-left-clause-cause
returns-in_err-left-clause-cause g c honest s stands is_open fine =
    let old = c.args.store.now in
    let n = c.args.job in
    let given = rows_view c.args.rows.now in
    let t = there_so g.D.Disk.state old s stands is_open n given fine in
    let same = c.in_ok-table.ensures.same in
    let root = root_of c.in_ok-table.table in
    let told = c.in_ok-waiting.ensures.told ∙ ap (λ js. completed_buffers c.stored.result.now (waiting_at (job_at n js))) c.as_slice.ensures.value in
    let here = buffers_at g.D.Disk.state old s stands is_open n t root same c.stored.result.now (map key_rows_view c.in_ok-waiting.waiting.items) c.stored.ensures told in
    let seen = subst (λ (xs : List CodeKeyRows). AreBuffers root.schema root.keys (map key_rows_view xs) (whole_at g.D.Disk.state old s stands is_open n t root same)) (sym c.as_slice-2.ensures.value) here in
    let parts = parts_here g.D.Disk.state old s stands is_open n t root same old.options.group_rows given c.in_ok-groups.groups.items c.take_rests.new.groups.items c.in_ok-rests.rests.items refl
    (c.in_ok-groups.ensures.groups (whole_at g.D.Disk.state old s stands is_open n t root same) seen) c.in_ok-rests.ensures.parts in
    let mid = c.write_groups.new.store in
    refused (λ r. is_failure (answered {T = Unit {0}} (λ x. accepted) r) ≡ true → HasFailed (g.D.Disk.state old.vault.disk) (g.D.Disk.state mid.vault.disk)) c.from_residual-in_err-left.result _ c.from_residual-in_err-left.ensures.1
    (subst (λ (e : Refusal). is_failure (answered {T = Unit {0}} (λ x. accepted) (Err e)) ≡ true → HasFailed (g.D.Disk.state old.vault.disk) (g.D.Disk.state mid.vault.disk)) (sym (memory_only c.in_err-left.field-0.0 (c.in_err-left.ensures.only (stored_of (root_of old.manifest)) parts.rests parts.rests_held)))
    (λ h. absurd (cc)))

pub returns-clause-acts : goal.returns-clause-acts
returns-clause-acts g c honest s stands is_open fine =
    let old = c.args.store.now in
    let n = c.args.job in
    let given = rows_view c.args.rows.now in
    let t = there_so g.D.Disk.state old s stands is_open n given fine in
    let same = c.in_ok-table.ensures.same in
    let root = root_of c.in_ok-table.table in
    let told = c.in_ok-waiting.ensures.told ∙ ap (λ js. completed_buffers c.stored.result.now (waiting_at (job_at n js))) c.as_slice.ensures.value in
    let here = buffers_at g.D.Disk.state old s stands is_open n t root same c.stored.result.now (map key_rows_view c.in_ok-waiting.waiting.items) c.stored.ensures told in
    let seen = subst (λ (xs : List CodeKeyRows). AreBuffers root.schema root.keys (map key_rows_view xs) (whole_at g.D.Disk.state old s stands is_open n t root same)) (sym c.as_slice-2.ensures.value) here in
    let parts = parts_here g.D.Disk.state old s stands is_open n t root same old.options.group_rows given c.in_ok-groups.groups.items c.take_rests.new.groups.items c.in_ok-rests.rests.items refl
    (c.in_ok-groups.ensures.groups (whole_at g.D.Disk.state old s stands is_open n t root same) seen) c.in_ok-rests.ensures.parts in
    let all_fine = fine_at g.D.Disk.state old s stands is_open n t root same given (fine_so g.D.Disk.state old s stands is_open n given fine) in
    let begun = starts g.D.Disk.state old s stands is_open n t.x t.a t.there t.is in
    let mid = c.write_groups.new.store in
    let took = c.in_ok-full.ensures.takes honest old s (wait_at g.D.Disk.state old s stands is_open n t root same ++ given) is_open all_fine parts.full_held begun stands.shows.next_group in
    let high = high_at g.D.Disk.state old s stands is_open n t root same given (stored_of (root_of old.manifest)) c.take_rests.new.groups.items mid.next_group parts.full_held c.in_ok-full.ensures.rises in
    let kept = ap (λ (x : Core g.row.D.Denot). x.jobs) c.in_ok-full.ensures.same in
    let files = handles_view c.in_ok-full.full.items in
    let there_now : groups_at (job_at n c.as_slice-3.result.now) ≡ handles_view t.a.written.items
    = ap (λ js. groups_at (job_at n js)) (c.as_slice-3.ensures.value ∙ ap (λ js. js.items) kept) ∙ (append_in (job_at n old.jobs.items) t.x t.a t.there t.is).1 in
    let written = c.in_ok-written.ensures.told ∙ ap (λ gs. gs ++ handles_view c.as_slice-4.result.now) there_now ∙ ap (λ xs. handles_view t.a.written.items ++ handles_view xs) c.as_slice-4.ensures.value in
    let staged_now : Appending = record { written = c.in_ok-written.written; waiting = c.in_ok-left.left } in
    done_so g.D.Disk.state old s stands is_open n t.x t.a t.there t.is given fine mid files parts.rests (took parts.rests parts.are) high kept staged_now written
    (c.in_ok-left.ensures.are (stored_of (root_of old.manifest)) parts.rests parts.rests_held) _
    (put_back n (Append staged_now) mid.jobs.len mid.jobs.items c.as_mut_slice.result.now c.put_work.new.jobs _ mid.jobs.ok.0 c.as_mut_slice.ensures.value c.put_work.ensures)
