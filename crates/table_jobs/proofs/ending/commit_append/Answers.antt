use Rattle.std.proofs.Common.{◌≡◌, ◌≤◌, ◌<◌, ◌⊎◌, ◌+◌, ◌++◌, ℕ, true, List, [], Err, map, refl, ap, sym, ◌∙◌, subst, arith}
use Rattle.std.specs.List.{AllByRecursion}
use Rattle.std.specs.declared.rc.Rc.{Rc}
use Rattle.std.specs.declared.alloc.Global.{Global}
use Rattle.bits.specs.declared.refusal.Refusal.{Refusal}
use Rattle.vault.specs.Calls.{HasFailed}
use Rattle.vault.proofs.Chained.{refused}
use Rattle.std.proofs.lemmas.List.{append-nil}
use Rattle.partition.specs.Splitting.{key_rows_view}
use Rattle.partition.specs.declared.splitting.KeyRows.{KeyRows as CodeKeyRows}
use Rattle.gather.specs.KeyBuffers.{HoldGroups}
use Rattle.manifest.specs.declared.group.Group.{Group as CodeGroup}
use Rattle.manifest.specs.Groups.{Group as FileGroup, root_of, groups_in, handles_view}
use Rattle.manifest.specs.Root.{CanHave, stored_of}
use Rattle.table.specs.Table.{Row}
use Rattle.table_commits.specs.Filling.{AreBuffers, AreFine}
use Rattle.planning.specs.Told.{IsNextOf}
use Rattle.table.specs.InOrder.{in_order}
use Rattle.table.specs.State.{ended_at}
use Rattle.table.specs.Calls.{commit, done}
use Rattle.table.specs.Refusing.{is_failure}
use Rattle.table.specs.Views.{answered}
use Rattle.table_state.specs.declared.standing.Core.{Core}
use Rattle.table_jobs.specs.Completing.{completed_buffers, waiting_at, groups_at}
use Rattle.table_commits.specs.Dropping.{rows_in}
use Rattle.table_state.specs.Lookups.{job_at}
use Rattle.table_state.specs.Promises.{ActsFrom}
use Rattle.table_commits.proofs.OneFileMore.{failed_since}
use Rattle.table_commits.proofs.GroupRemovals.{failure_of, memory_only}
use Rattle.table_jobs.proofs.StageGoesOn.{found_there, append_in}
use Rattle.table_jobs.proofs.StagePasses.{whole_at, buffers_at, groups_here, fine_at}
use Rattle.table_jobs.proofs.StageEnds.{wait, starts}
use Rattle.table_jobs.proofs.StagedCommitEnds.{poor_before, stopped, stopped_cause, poor_after, planned, too_heavy, count_is, done_so, refused_so}
use Rattle.table_jobs.proofs.ending.commit_append.Goals as goal

none_and : (k : ℕ) → 0 + k ≡ k
none_and k = omega arith

pub returns-in_err-table-clause-acts : goal.returns-in_err-table-clause-acts
returns-in_err-table-clause-acts g c honest s stands is_open fine is_append something =
    let old = c.args.store.now in
    let n = c.args.job in
    refused (λ r. ActsFrom g.D.Disk.state old old (commit n) (answered {T = ℕ} (λ x. done x) r) s) c.from_residual.result _ c.from_residual.ensures.1
    (subst (λ (e : Refusal). ActsFrom g.D.Disk.state old old (commit n) (answered {T = ℕ} (λ x. done x) (Err e)) s) (sym (memory_only c.in_err-table.field-0.0 c.in_err-table.ensures.which))
    (poor_before g.D.Disk.state old s stands is_open n fine))

pub returns-in_err-table-clause-cause : goal.returns-in_err-table-clause-cause
returns-in_err-table-clause-cause g c honest s stands is_open fine is_append something =
    let old = c.args.store.now in
    let n = c.args.job in
    refused (λ r. is_failure (answered {T = ℕ} (λ x. done x) r) ≡ true → HasFailed (g.D.Disk.state old.vault.disk) (g.D.Disk.state old.vault.disk)) c.from_residual.result _ c.from_residual.ensures.1
    (subst (λ (e : Refusal). is_failure (answered {T = ℕ} (λ x. done x) (Err e)) ≡ true → HasFailed (g.D.Disk.state old.vault.disk) (g.D.Disk.state old.vault.disk)) (sym (memory_only c.in_err-table.field-0.0 c.in_err-table.ensures.which))
    (λ h. absurd (cc)))

pub returns-in_err-waiting-clause-acts : goal.returns-in_err-waiting-clause-acts
returns-in_err-waiting-clause-acts g c honest s stands is_open fine is_append something =
    let old = c.args.store.now in
    let n = c.args.job in
    refused (λ r. ActsFrom g.D.Disk.state old old (commit n) (answered {T = ℕ} (λ x. done x) r) s) c.from_residual-in_err-waiting.result _ c.from_residual-in_err-waiting.ensures.1
    (subst (λ (e : Refusal). ActsFrom g.D.Disk.state old old (commit n) (answered {T = ℕ} (λ x. done x) (Err e)) s) (sym (memory_only c.in_err-waiting.field-0.0 c.in_err-waiting.ensures.which))
    (poor_before g.D.Disk.state old s stands is_open n fine))

pub returns-in_err-waiting-clause-cause : goal.returns-in_err-waiting-clause-cause
returns-in_err-waiting-clause-cause g c honest s stands is_open fine is_append something =
    let old = c.args.store.now in
    let n = c.args.job in
    refused (λ r. is_failure (answered {T = ℕ} (λ x. done x) r) ≡ true → HasFailed (g.D.Disk.state old.vault.disk) (g.D.Disk.state old.vault.disk)) c.from_residual-in_err-waiting.result _ c.from_residual-in_err-waiting.ensures.1
    (subst (λ (e : Refusal). is_failure (answered {T = ℕ} (λ x. done x) (Err e)) ≡ true → HasFailed (g.D.Disk.state old.vault.disk) (g.D.Disk.state old.vault.disk)) (sym (memory_only c.in_err-waiting.field-0.0 c.in_err-waiting.ensures.which))
    (λ h. absurd (cc)))

pub returns-in_err-gathered-clause-acts : goal.returns-in_err-gathered-clause-acts
returns-in_err-gathered-clause-acts g c honest s stands is_open fine is_append something =
    let old = c.args.store.now in
    let n = c.args.job in
    let t = found_there g.D.Disk.state s n old is_append in
    let same_root = c.in_ok-table.ensures.same in
    let root = root_of c.in_ok-table.table in
    let told = c.in_ok-waiting.ensures.told ∙ ap (λ js. completed_buffers c.stored.result.now (waiting_at (job_at n js))) c.as_slice.ensures.value in
    let here = buffers_at g.D.Disk.state old s stands is_open n t root same_root c.stored.result.now (map key_rows_view c.in_ok-waiting.waiting.items) c.stored.ensures told in
    let seen = subst (λ (xs : List CodeKeyRows). AreBuffers root.schema root.keys (map key_rows_view xs) (whole_at g.D.Disk.state old s stands is_open n t root same_root)) (sym c.as_slice-2.ensures.value) here in
    let only = c.in_err-gathered.ensures.only (whole_at g.D.Disk.state old s stands is_open n t root same_root) seen tt tt in
    refused (λ r. ActsFrom g.D.Disk.state old old (commit n) (answered {T = ℕ} (λ x. done x) r) s) c.from_residual-in_err-gathered.result _ c.from_residual-in_err-gathered.ensures.1
    (subst (λ (e : Refusal). ActsFrom g.D.Disk.state old old (commit n) (answered {T = ℕ} (λ x. done x) (Err e)) s) (sym (memory_only c.in_err-gathered.field-0.0 only))
    (poor_before g.D.Disk.state old s stands is_open n fine))

pub returns-in_err-gathered-clause-cause : goal.returns-in_err-gathered-clause-cause
returns-in_err-gathered-clause-cause g c honest s stands is_open fine is_append something =
    let old = c.args.store.now in
    let n = c.args.job in
    let t = found_there g.D.Disk.state s n old is_append in
    let same_root = c.in_ok-table.ensures.same in
    let root = root_of c.in_ok-table.table in
    let told = c.in_ok-waiting.ensures.told ∙ ap (λ js. completed_buffers c.stored.result.now (waiting_at (job_at n js))) c.as_slice.ensures.value in
    let here = buffers_at g.D.Disk.state old s stands is_open n t root same_root c.stored.result.now (map key_rows_view c.in_ok-waiting.waiting.items) c.stored.ensures told in
    let seen = subst (λ (xs : List CodeKeyRows). AreBuffers root.schema root.keys (map key_rows_view xs) (whole_at g.D.Disk.state old s stands is_open n t root same_root)) (sym c.as_slice-2.ensures.value) here in
    let only = c.in_err-gathered.ensures.only (whole_at g.D.Disk.state old s stands is_open n t root same_root) seen tt tt in
    refused (λ r. is_failure (answered {T = ℕ} (λ x. done x) r) ≡ true → HasFailed (g.D.Disk.state old.vault.disk) (g.D.Disk.state old.vault.disk)) c.from_residual-in_err-gathered.result _ c.from_residual-in_err-gathered.ensures.1
    (subst (λ (e : Refusal). is_failure (answered {T = ℕ} (λ x. done x) (Err e)) ≡ true → HasFailed (g.D.Disk.state old.vault.disk) (g.D.Disk.state old.vault.disk)) (sym (memory_only c.in_err-gathered.field-0.0 only))
    (λ h. absurd (cc)))

pub returns-in_err-rests-clause-acts : goal.returns-in_err-rests-clause-acts
returns-in_err-rests-clause-acts g c honest s stands is_open fine is_append something =
    let old = c.args.store.now in
    let n = c.args.job in
    let t = found_there g.D.Disk.state s n old is_append in
    let waits = wait g.D.Disk.state old s stands is_open n t.x t.a t.there t.is in
    let same_root = c.in_ok-table.ensures.same in
    let root = root_of c.in_ok-table.table in
    let told = c.in_ok-waiting.ensures.told ∙ ap (λ js. completed_buffers c.stored.result.now (waiting_at (job_at n js))) c.as_slice.ensures.value in
    let here = buffers_at g.D.Disk.state old s stands is_open n t root same_root c.stored.result.now (map key_rows_view c.in_ok-waiting.waiting.items) c.stored.ensures told in
    let seen = subst (λ (xs : List CodeKeyRows). AreBuffers root.schema root.keys (map key_rows_view xs) (whole_at g.D.Disk.state old s stands is_open n t root same_root)) (sym c.as_slice-2.ensures.value) here in
    let holds = subst (λ (rs : List Row). HoldGroups s.table.keys s.options.group_rows (stored_of (root_of old.manifest)) rs c.in_ok-gathered.gathered.items) (append-nil waits)
    (groups_here g.D.Disk.state old s stands is_open n t root same_root old.options.group_rows [] c.in_ok-gathered.gathered.items refl (c.in_ok-gathered.ensures.groups (whole_at g.D.Disk.state old s stands is_open n t root same_root) seen)) in
    let all_fine = subst (λ (rs : List Row). AreFine s rs) (append-nil waits) (fine_at g.D.Disk.state old s stands is_open n t root same_root [] tt) in
    let begun = starts g.D.Disk.state old s stands is_open n t.x t.a t.there t.is in
    let mid = c.write_groups.new.store in
    let stop = c.in_err-rests.ensures.writes honest old s waits is_open all_fine holds begun stands.shows.next_group in
    refused (λ r. ActsFrom g.D.Disk.state old mid (commit n) (answered {T = ℕ} (λ x. done x) r) s) c.from_residual-in_err-rests.result _ c.from_residual-in_err-rests.ensures.1
    (stopped g.D.Disk.state old s stands is_open n fine t.x t.a t.there t.is mid c.in_err-rests.field-0.0 stop)

pub returns-in_err-rests-clause-cause : goal.returns-in_err-rests-clause-cause
returns-in_err-rests-clause-cause g c honest s stands is_open fine is_append something =
    let old = c.args.store.now in
    let n = c.args.job in
    let t = found_there g.D.Disk.state s n old is_append in
    let waits = wait g.D.Disk.state old s stands is_open n t.x t.a t.there t.is in
    let same_root = c.in_ok-table.ensures.same in
    let root = root_of c.in_ok-table.table in
    let told = c.in_ok-waiting.ensures.told ∙ ap (λ js. completed_buffers c.stored.result.now (waiting_at (job_at n js))) c.as_slice.ensures.value in
    let here = buffers_at g.D.Disk.state old s stands is_open n t root same_root c.stored.result.now (map key_rows_view c.in_ok-waiting.waiting.items) c.stored.ensures told in
    let seen = subst (λ (xs : List CodeKeyRows). AreBuffers root.schema root.keys (map key_rows_view xs) (whole_at g.D.Disk.state old s stands is_open n t root same_root)) (sym c.as_slice-2.ensures.value) here in
    let holds = subst (λ (rs : List Row). HoldGroups s.table.keys s.options.group_rows (stored_of (root_of old.manifest)) rs c.in_ok-gathered.gathered.items) (append-nil waits)
    (groups_here g.D.Disk.state old s stands is_open n t root same_root old.options.group_rows [] c.in_ok-gathered.gathered.items refl (c.in_ok-gathered.ensures.groups (whole_at g.D.Disk.state old s stands is_open n t root same_root) seen)) in
    let all_fine = subst (λ (rs : List Row). AreFine s rs) (append-nil waits) (fine_at g.D.Disk.state old s stands is_open n t root same_root [] tt) in
    let begun = starts g.D.Disk.state old s stands is_open n t.x t.a t.there t.is in
    let mid = c.write_groups.new.store in
    let stop = c.in_err-rests.ensures.writes honest old s waits is_open all_fine holds begun stands.shows.next_group in
    refused (λ r. is_failure (answered {T = ℕ} (λ x. done x) r) ≡ true → HasFailed (g.D.Disk.state old.vault.disk) (g.D.Disk.state mid.vault.disk)) c.from_residual-in_err-rests.result _ c.from_residual-in_err-rests.ensures.1
    (stopped_cause g.D.Disk.state old s stands is_open n fine t.x t.a t.there t.is mid c.in_err-rests.field-0.0 stop)

pub returns-in_err-come-clause-acts : goal.returns-in_err-come-clause-acts
returns-in_err-come-clause-acts g c honest s stands is_open fine is_append something =
    let old = c.args.store.now in
    let n = c.args.job in
    let t = found_there g.D.Disk.state s n old is_append in
    let waits = wait g.D.Disk.state old s stands is_open n t.x t.a t.there t.is in
    let same_root = c.in_ok-table.ensures.same in
    let root = root_of c.in_ok-table.table in
    let told = c.in_ok-waiting.ensures.told ∙ ap (λ js. completed_buffers c.stored.result.now (waiting_at (job_at n js))) c.as_slice.ensures.value in
    let here = buffers_at g.D.Disk.state old s stands is_open n t root same_root c.stored.result.now (map key_rows_view c.in_ok-waiting.waiting.items) c.stored.ensures told in
    let seen = subst (λ (xs : List CodeKeyRows). AreBuffers root.schema root.keys (map key_rows_view xs) (whole_at g.D.Disk.state old s stands is_open n t root same_root)) (sym c.as_slice-2.ensures.value) here in
    let holds = subst (λ (rs : List Row). HoldGroups s.table.keys s.options.group_rows (stored_of (root_of old.manifest)) rs c.in_ok-gathered.gathered.items) (append-nil waits)
    (groups_here g.D.Disk.state old s stands is_open n t root same_root old.options.group_rows [] c.in_ok-gathered.gathered.items refl (c.in_ok-gathered.ensures.groups (whole_at g.D.Disk.state old s stands is_open n t root same_root) seen)) in
    let all_fine = subst (λ (rs : List Row). AreFine s rs) (append-nil waits) (fine_at g.D.Disk.state old s stands is_open n t root same_root [] tt) in
    let begun = starts g.D.Disk.state old s stands is_open n t.x t.a t.there t.is in
    let mid = c.write_groups.new.store in
    let filled = c.in_ok-rests.ensures.writes honest old s waits is_open all_fine holds begun stands.shows.next_group in
    let fit = c.rows_of_parts_fit.ensures in
    let same = ap (λ (x : Core g.row.D.Denot). x.jobs) c.in_ok-rests.ensures.same in
    refused (λ r. ActsFrom g.D.Disk.state old mid (commit n) (answered {T = ℕ} (λ x. done x) r) s) c.from_residual-in_err-come.result _ c.from_residual-in_err-come.ensures.1
    (subst (λ (e : Refusal). ActsFrom g.D.Disk.state old mid (commit n) (answered {T = ℕ} (λ x. done x) (Err e)) s) (sym (memory_only c.in_err-come.field-0.0 c.in_err-come.ensures.which))
    (poor_after g.D.Disk.state old s stands is_open n fine t.x t.a t.there t.is fit something mid (handles_view c.in_ok-rests.rests.items) filled same))

pub returns-in_err-come-clause-cause : goal.returns-in_err-come-clause-cause
returns-in_err-come-clause-cause g c honest s stands is_open fine is_append something =
    let old = c.args.store.now in
    refused (λ r. is_failure (answered {T = ℕ} (λ x. done x) r) ≡ true → HasFailed (g.D.Disk.state old.vault.disk) (g.D.Disk.state c.write_groups.new.store.vault.disk)) c.from_residual-in_err-come.result _ c.from_residual-in_err-come.ensures.1
    (subst (λ (e : Refusal). is_failure (answered {T = ℕ} (λ x. done x) (Err e)) ≡ true → HasFailed (g.D.Disk.state old.vault.disk) (g.D.Disk.state c.write_groups.new.store.vault.disk)) (sym (memory_only c.in_err-come.field-0.0 c.in_err-come.ensures.which))
    (λ h. absurd (cc)))

pub returns-in_err-count-clause-acts : goal.returns-in_err-count-clause-acts
returns-in_err-count-clause-acts g c honest s stands is_open fine is_append something =
    let old = c.args.store.now in
    let n = c.args.job in
    let t = found_there g.D.Disk.state s n old is_append in
    let waits = wait g.D.Disk.state old s stands is_open n t.x t.a t.there t.is in
    let same_root = c.in_ok-table.ensures.same in
    let root = root_of c.in_ok-table.table in
    let told = c.in_ok-waiting.ensures.told ∙ ap (λ js. completed_buffers c.stored.result.now (waiting_at (job_at n js))) c.as_slice.ensures.value in
    let here = buffers_at g.D.Disk.state old s stands is_open n t root same_root c.stored.result.now (map key_rows_view c.in_ok-waiting.waiting.items) c.stored.ensures told in
    let seen = subst (λ (xs : List CodeKeyRows). AreBuffers root.schema root.keys (map key_rows_view xs) (whole_at g.D.Disk.state old s stands is_open n t root same_root)) (sym c.as_slice-2.ensures.value) here in
    let holds = subst (λ (rs : List Row). HoldGroups s.table.keys s.options.group_rows (stored_of (root_of old.manifest)) rs c.in_ok-gathered.gathered.items) (append-nil waits)
    (groups_here g.D.Disk.state old s stands is_open n t root same_root old.options.group_rows [] c.in_ok-gathered.gathered.items refl (c.in_ok-gathered.ensures.groups (whole_at g.D.Disk.state old s stands is_open n t root same_root) seen)) in
    let all_fine = subst (λ (rs : List Row). AreFine s rs) (append-nil waits) (fine_at g.D.Disk.state old s stands is_open n t root same_root [] tt) in
    let begun = starts g.D.Disk.state old s stands is_open n t.x t.a t.there t.is in
    let mid = c.write_groups.new.store in
    let filled = c.in_ok-rests.ensures.writes honest old s waits is_open all_fine holds begun stands.shows.next_group in
    let fit = c.rows_of_parts_fit.ensures in
    let same = ap (λ (x : Core g.row.D.Denot). x.jobs) c.in_ok-rests.ensures.same in
    refused (λ r. ActsFrom g.D.Disk.state old mid (commit n) (answered {T = ℕ} (λ x. done x) r) s) c.from_residual-in_err-count.result _ c.from_residual-in_err-count.ensures.1
    (subst (λ (e : Refusal). ActsFrom g.D.Disk.state old mid (commit n) (answered {T = ℕ} (λ x. done x) (Err e)) s) (sym (memory_only c.in_err-count.field-0.0 c.in_err-count.ensures.which))
    (poor_after g.D.Disk.state old s stands is_open n fine t.x t.a t.there t.is fit something mid (handles_view c.in_ok-rests.rests.items) filled same))

pub returns-in_err-count-clause-cause : goal.returns-in_err-count-clause-cause
returns-in_err-count-clause-cause g c honest s stands is_open fine is_append something =
    let old = c.args.store.now in
    refused (λ r. is_failure (answered {T = ℕ} (λ x. done x) r) ≡ true → HasFailed (g.D.Disk.state old.vault.disk) (g.D.Disk.state c.write_groups.new.store.vault.disk)) c.from_residual-in_err-count.result _ c.from_residual-in_err-count.ensures.1
    (subst (λ (e : Refusal). is_failure (answered {T = ℕ} (λ x. done x) (Err e)) ≡ true → HasFailed (g.D.Disk.state old.vault.disk) (g.D.Disk.state c.write_groups.new.store.vault.disk)) (sym (memory_only c.in_err-count.field-0.0 c.in_err-count.ensures.which))
    (λ h. absurd (cc)))

pub returns-in_err-groups-clause-acts : goal.returns-in_err-groups-clause-acts
returns-in_err-groups-clause-acts g c honest s stands is_open fine is_append something =
    let old = c.args.store.now in
    let n = c.args.job in
    let t = found_there g.D.Disk.state s n old is_append in
    let waits = wait g.D.Disk.state old s stands is_open n t.x t.a t.there t.is in
    let same_root = c.in_ok-table.ensures.same in
    let root = root_of c.in_ok-table.table in
    let told = c.in_ok-waiting.ensures.told ∙ ap (λ js. completed_buffers c.stored.result.now (waiting_at (job_at n js))) c.as_slice.ensures.value in
    let here = buffers_at g.D.Disk.state old s stands is_open n t root same_root c.stored.result.now (map key_rows_view c.in_ok-waiting.waiting.items) c.stored.ensures told in
    let seen = subst (λ (xs : List CodeKeyRows). AreBuffers root.schema root.keys (map key_rows_view xs) (whole_at g.D.Disk.state old s stands is_open n t root same_root)) (sym c.as_slice-2.ensures.value) here in
    let holds = subst (λ (rs : List Row). HoldGroups s.table.keys s.options.group_rows (stored_of (root_of old.manifest)) rs c.in_ok-gathered.gathered.items) (append-nil waits)
    (groups_here g.D.Disk.state old s stands is_open n t root same_root old.options.group_rows [] c.in_ok-gathered.gathered.items refl (c.in_ok-gathered.ensures.groups (whole_at g.D.Disk.state old s stands is_open n t root same_root) seen)) in
    let all_fine = subst (λ (rs : List Row). AreFine s rs) (append-nil waits) (fine_at g.D.Disk.state old s stands is_open n t root same_root [] tt) in
    let begun = starts g.D.Disk.state old s stands is_open n t.x t.a t.there t.is in
    let mid = c.write_groups.new.store in
    let filled = c.in_ok-rests.ensures.writes honest old s waits is_open all_fine holds begun stands.shows.next_group in
    let fit = c.rows_of_parts_fit.ensures in
    let same = ap (λ (x : Core g.row.D.Denot). x.jobs) c.in_ok-rests.ensures.same in
    refused (λ r. ActsFrom g.D.Disk.state old mid (commit n) (answered {T = ℕ} (λ x. done x) r) s) c.from_residual-in_err-groups.result _ c.from_residual-in_err-groups.ensures.1
    (subst (λ (e : Refusal). ActsFrom g.D.Disk.state old mid (commit n) (answered {T = ℕ} (λ x. done x) (Err e)) s) (sym (memory_only c.in_err-groups.field-0.0 c.in_err-groups.ensures.which))
    (poor_after g.D.Disk.state old s stands is_open n fine t.x t.a t.there t.is fit something mid (handles_view c.in_ok-rests.rests.items) filled same))

pub returns-in_err-groups-clause-cause : goal.returns-in_err-groups-clause-cause
returns-in_err-groups-clause-cause g c honest s stands is_open fine is_append something =
    let old = c.args.store.now in
    refused (λ r. is_failure (answered {T = ℕ} (λ x. done x) r) ≡ true → HasFailed (g.D.Disk.state old.vault.disk) (g.D.Disk.state c.write_groups.new.store.vault.disk)) c.from_residual-in_err-groups.result _ c.from_residual-in_err-groups.ensures.1
    (subst (λ (e : Refusal). is_failure (answered {T = ℕ} (λ x. done x) (Err e)) ≡ true → HasFailed (g.D.Disk.state old.vault.disk) (g.D.Disk.state c.write_groups.new.store.vault.disk)) (sym (memory_only c.in_err-groups.field-0.0 c.in_err-groups.ensures.which))
    (λ h. absurd (cc)))

pub returns-in_err-check_groups-clause-acts : goal.returns-in_err-check_groups-clause-acts
returns-in_err-check_groups-clause-acts g c honest s stands is_open fine is_append something =
    let old = c.args.store.now in
    let n = c.args.job in
    let t = found_there g.D.Disk.state s n old is_append in
    let waits = wait g.D.Disk.state old s stands is_open n t.x t.a t.there t.is in
    let same_root = c.in_ok-table.ensures.same in
    let root = root_of c.in_ok-table.table in
    let told = c.in_ok-waiting.ensures.told ∙ ap (λ js. completed_buffers c.stored.result.now (waiting_at (job_at n js))) c.as_slice.ensures.value in
    let here = buffers_at g.D.Disk.state old s stands is_open n t root same_root c.stored.result.now (map key_rows_view c.in_ok-waiting.waiting.items) c.stored.ensures told in
    let seen = subst (λ (xs : List CodeKeyRows). AreBuffers root.schema root.keys (map key_rows_view xs) (whole_at g.D.Disk.state old s stands is_open n t root same_root)) (sym c.as_slice-2.ensures.value) here in
    let holds = subst (λ (rs : List Row). HoldGroups s.table.keys s.options.group_rows (stored_of (root_of old.manifest)) rs c.in_ok-gathered.gathered.items) (append-nil waits)
    (groups_here g.D.Disk.state old s stands is_open n t root same_root old.options.group_rows [] c.in_ok-gathered.gathered.items refl (c.in_ok-gathered.ensures.groups (whole_at g.D.Disk.state old s stands is_open n t root same_root) seen)) in
    let all_fine = subst (λ (rs : List Row). AreFine s rs) (append-nil waits) (fine_at g.D.Disk.state old s stands is_open n t root same_root [] tt) in
    let begun = starts g.D.Disk.state old s stands is_open n t.x t.a t.there t.is in
    let mid = c.write_groups.new.store in
    let filled = c.in_ok-rests.ensures.writes honest old s waits is_open all_fine holds begun stands.shows.next_group in
    let fit = c.rows_of_parts_fit.ensures in
    let same = ap (λ (x : Core g.row.D.Denot). x.jobs) c.in_ok-rests.ensures.same in
    refused (λ r. ActsFrom g.D.Disk.state old mid (commit n) (answered {T = ℕ} (λ x. done x) r) s) c.from_residual-in_err-check_groups.result _ c.from_residual-in_err-check_groups.ensures.1
    (subst (λ (e : Refusal). ActsFrom g.D.Disk.state old mid (commit n) (answered {T = ℕ} (λ x. done x) (Err e)) s) (sym (memory_only c.in_err-check_groups.field-0.0 c.in_err-check_groups.ensures.which))
    (poor_after g.D.Disk.state old s stands is_open n fine t.x t.a t.there t.is fit something mid (handles_view c.in_ok-rests.rests.items) filled same))

pub returns-in_err-check_groups-clause-cause : goal.returns-in_err-check_groups-clause-cause
returns-in_err-check_groups-clause-cause g c honest s stands is_open fine is_append something =
    let old = c.args.store.now in
    refused (λ r. is_failure (answered {T = ℕ} (λ x. done x) r) ≡ true → HasFailed (g.D.Disk.state old.vault.disk) (g.D.Disk.state c.write_groups.new.store.vault.disk)) c.from_residual-in_err-check_groups.result _ c.from_residual-in_err-check_groups.ensures.1
    (subst (λ (e : Refusal). is_failure (answered {T = ℕ} (λ x. done x) (Err e)) ≡ true → HasFailed (g.D.Disk.state old.vault.disk) (g.D.Disk.state c.write_groups.new.store.vault.disk)) (sym (memory_only c.in_err-check_groups.field-0.0 c.in_err-check_groups.ensures.which))
    (λ h. absurd (cc)))

pub commit_version-requires : goal.commit_version-requires
commit_version-requires g c =
    let next = c.next_after-next.result in
    let falls = subst (λ (k : ℕ). k ≤ next) c.next.ensures c.next_after-next.ensures.never_falls in
    let above = subst (λ (hs : List (Rc CodeGroup Global)). AllByRecursion (λ (f : FileGroup). f.number < next) (handles_view hs)) (c.as_slice-7.ensures.value ∙ sym c.as_slice-6.ensures.value) c.next_after-next.ensures.above in
    record {
      below = c.in_ok-groups.ensures.below next falls above;
      each = c.in_ok-groups.ensures.each (subst (λ (hs : List (Rc CodeGroup Global)). CanHave (root_of c.write_groups.new.store.manifest) (handles_view hs)) (c.as_slice-8.ensures.value ∙ sym c.as_slice-6.ensures.value) c.in_ok-check_groups.ensures.can);
    }

pub returns-in_err-commit_version-clause-acts : goal.returns-in_err-commit_version-clause-acts
returns-in_err-commit_version-clause-acts g c honest s stands is_open fine is_append something =
    let old = c.args.store.now in
    let n = c.args.job in
    let t = found_there g.D.Disk.state s n old is_append in
    let waits = wait g.D.Disk.state old s stands is_open n t.x t.a t.there t.is in
    let same_root = c.in_ok-table.ensures.same in
    let root = root_of c.in_ok-table.table in
    let told = c.in_ok-waiting.ensures.told ∙ ap (λ js. completed_buffers c.stored.result.now (waiting_at (job_at n js))) c.as_slice.ensures.value in
    let here = buffers_at g.D.Disk.state old s stands is_open n t root same_root c.stored.result.now (map key_rows_view c.in_ok-waiting.waiting.items) c.stored.ensures told in
    let seen = subst (λ (xs : List CodeKeyRows). AreBuffers root.schema root.keys (map key_rows_view xs) (whole_at g.D.Disk.state old s stands is_open n t root same_root)) (sym c.as_slice-2.ensures.value) here in
    let holds = subst (λ (rs : List Row). HoldGroups s.table.keys s.options.group_rows (stored_of (root_of old.manifest)) rs c.in_ok-gathered.gathered.items) (append-nil waits)
    (groups_here g.D.Disk.state old s stands is_open n t root same_root old.options.group_rows [] c.in_ok-gathered.gathered.items refl (c.in_ok-gathered.ensures.groups (whole_at g.D.Disk.state old s stands is_open n t root same_root) seen)) in
    let all_fine = subst (λ (rs : List Row). AreFine s rs) (append-nil waits) (fine_at g.D.Disk.state old s stands is_open n t root same_root [] tt) in
    let begun = starts g.D.Disk.state old s stands is_open n t.x t.a t.there t.is in
    let mid = c.write_groups.new.store in
    let filled = c.in_ok-rests.ensures.writes honest old s waits is_open all_fine holds begun stands.shows.next_group in
    let fit = c.rows_of_parts_fit.ensures in
    let same = ap (λ (x : Core g.row.D.Denot). x.jobs) c.in_ok-rests.ensures.same in
    let files = handles_view c.in_ok-rests.rests.items in
    let all = handles_view t.a.written.items ++ files in
    let there_now : groups_at (job_at n c.as_slice-3.result.now) ≡ handles_view t.a.written.items
    = ap (λ js. groups_at (job_at n js)) (c.as_slice-3.ensures.value ∙ ap (λ js. js.items) same) ∙ (append_in (job_at n old.jobs.items) t.x t.a t.there t.is).1 in
    let come : handles_view c.in_ok-come.come.items ≡ all = c.in_ok-come.ensures.told ∙ ap (λ gs. gs ++ handles_view c.as_slice-4.result.now) there_now ∙ ap (λ xs. handles_view t.a.written.items ++ handles_view xs) c.as_slice-4.ensures.value in
    let next = c.next_after-next.result in
    let was : c.next.result ≡ s.table.next = c.next.ensures ∙ (filled.written.wrote.shows.shown is_open).next in
    let falls = subst (λ (k : ℕ). k ≤ next) was c.next_after-next.ensures.never_falls in
    let seen = ap handles_view c.as_slice-7.ensures.value ∙ come in
    let above = subst (λ (fs : List FileGroup). AllByRecursion (λ (f : FileGroup). f.number < next) fs) seen c.next_after-next.ensures.above in
    let least = subst (λ (k : ℕ). (next ≡ k) ⊎ IsNextOf next all) was (subst (λ (fs : List FileGroup). (next ≡ c.next.result) ⊎ IsNextOf next fs) seen c.next_after-next.ensures.least) in
    let gs = groups_in c.in_ok-groups.groups in
    let are = c.in_ok-groups.ensures.placed ∙ ap (λ (fs : List FileGroup). in_order (λ (f : FileGroup). f.key) ((root_of mid.manifest).groups ++ fs)) (ap handles_view c.as_slice-6.ensures.value ∙ come) in
    let plan = planned g.D.Disk.state old s stands is_open n fine t.x t.a t.there t.is fit something mid (handles_view c.in_ok-rests.rests.items) filled same next falls above least gs are in
    let new = c.commit_version.new.store in
    let failed = c.in_err-commit_version in
    refused (λ r. ActsFrom g.D.Disk.state old new (commit n) (answered {T = ℕ} (λ x. done x) r) s) c.from_residual-in_err-commit_version.result _ c.from_residual-in_err-commit_version.ensures.1
    (refused_so g.D.Disk.state old s stands is_open n fine t.x t.a t.there t.is fit something mid (handles_view c.in_ok-rests.rests.items) filled same next falls above least gs are new failed.field-0.0 (failed.ensures.which _ _ (ended_at n s.jobs) plan)
    (λ e. too_heavy g.D.Disk.state old s stands is_open n fine t.x t.a t.there t.is fit something mid (handles_view c.in_ok-rests.rests.items) filled same next falls above least gs are (failed.ensures.limit (ap (λ (x : Refusal). Err x) e) _ _ (ended_at n s.jobs) plan))
    (failed.ensures.turns (c.in_ok-rests.ensures.honest.0 honest) _ _ (ended_at n s.jobs) filled.written.wrote.shows is_open plan))

pub returns-in_err-commit_version-clause-cause : goal.returns-in_err-commit_version-clause-cause
returns-in_err-commit_version-clause-cause g c honest s stands is_open fine is_append something =
    let old = c.args.store.now in
    let n = c.args.job in
    let t = found_there g.D.Disk.state s n old is_append in
    let waits = wait g.D.Disk.state old s stands is_open n t.x t.a t.there t.is in
    let same_root = c.in_ok-table.ensures.same in
    let root = root_of c.in_ok-table.table in
    let told = c.in_ok-waiting.ensures.told ∙ ap (λ js. completed_buffers c.stored.result.now (waiting_at (job_at n js))) c.as_slice.ensures.value in
    let here = buffers_at g.D.Disk.state old s stands is_open n t root same_root c.stored.result.now (map key_rows_view c.in_ok-waiting.waiting.items) c.stored.ensures told in
    let seen = subst (λ (xs : List CodeKeyRows). AreBuffers root.schema root.keys (map key_rows_view xs) (whole_at g.D.Disk.state old s stands is_open n t root same_root)) (sym c.as_slice-2.ensures.value) here in
    let holds = subst (λ (rs : List Row). HoldGroups s.table.keys s.options.group_rows (stored_of (root_of old.manifest)) rs c.in_ok-gathered.gathered.items) (append-nil waits)
    (groups_here g.D.Disk.state old s stands is_open n t root same_root old.options.group_rows [] c.in_ok-gathered.gathered.items refl (c.in_ok-gathered.ensures.groups (whole_at g.D.Disk.state old s stands is_open n t root same_root) seen)) in
    let all_fine = subst (λ (rs : List Row). AreFine s rs) (append-nil waits) (fine_at g.D.Disk.state old s stands is_open n t root same_root [] tt) in
    let begun = starts g.D.Disk.state old s stands is_open n t.x t.a t.there t.is in
    let mid = c.write_groups.new.store in
    let filled = c.in_ok-rests.ensures.writes honest old s waits is_open all_fine holds begun stands.shows.next_group in
    let fit = c.rows_of_parts_fit.ensures in
    let same = ap (λ (x : Core g.row.D.Denot). x.jobs) c.in_ok-rests.ensures.same in
    let files = handles_view c.in_ok-rests.rests.items in
    let all = handles_view t.a.written.items ++ files in
    let there_now : groups_at (job_at n c.as_slice-3.result.now) ≡ handles_view t.a.written.items
    = ap (λ js. groups_at (job_at n js)) (c.as_slice-3.ensures.value ∙ ap (λ js. js.items) same) ∙ (append_in (job_at n old.jobs.items) t.x t.a t.there t.is).1 in
    let come : handles_view c.in_ok-come.come.items ≡ all = c.in_ok-come.ensures.told ∙ ap (λ gs. gs ++ handles_view c.as_slice-4.result.now) there_now ∙ ap (λ xs. handles_view t.a.written.items ++ handles_view xs) c.as_slice-4.ensures.value in
    let next = c.next_after-next.result in
    let was : c.next.result ≡ s.table.next = c.next.ensures ∙ (filled.written.wrote.shows.shown is_open).next in
    let falls = subst (λ (k : ℕ). k ≤ next) was c.next_after-next.ensures.never_falls in
    let seen = ap handles_view c.as_slice-7.ensures.value ∙ come in
    let above = subst (λ (fs : List FileGroup). AllByRecursion (λ (f : FileGroup). f.number < next) fs) seen c.next_after-next.ensures.above in
    let least = subst (λ (k : ℕ). (next ≡ k) ⊎ IsNextOf next all) was (subst (λ (fs : List FileGroup). (next ≡ c.next.result) ⊎ IsNextOf next fs) seen c.next_after-next.ensures.least) in
    let gs = groups_in c.in_ok-groups.groups in
    let are = c.in_ok-groups.ensures.placed ∙ ap (λ (fs : List FileGroup). in_order (λ (f : FileGroup). f.key) ((root_of mid.manifest).groups ++ fs)) (ap handles_view c.as_slice-6.ensures.value ∙ come) in
    let plan = planned g.D.Disk.state old s stands is_open n fine t.x t.a t.there t.is fit something mid (handles_view c.in_ok-rests.rests.items) filled same next falls above least gs are in
    let new = c.commit_version.new.store in
    let failed = c.in_err-commit_version in
    refused (λ r. is_failure (answered {T = ℕ} (λ x. done x) r) ≡ true → HasFailed (g.D.Disk.state old.vault.disk) (g.D.Disk.state new.vault.disk)) c.from_residual-in_err-commit_version.result _ c.from_residual-in_err-commit_version.ensures.1
    (λ h. failed_since (g.D.Disk.state old.vault.disk) (g.D.Disk.state mid.vault.disk) (g.D.Disk.state new.vault.disk) filled.written.no_less failed.ensures.counts
    ((failed.ensures.turns (c.in_ok-rests.ensures.honest.0 honest) _ _ (ended_at n s.jobs) filled.written.wrote.shows is_open plan).cause (failure_of failed.field-0.0 h)))

pub returns-clause-acts : goal.returns-clause-acts
returns-clause-acts g c honest s stands is_open fine is_append something =
    let old = c.args.store.now in
    let n = c.args.job in
    let t = found_there g.D.Disk.state s n old is_append in
    let waits = wait g.D.Disk.state old s stands is_open n t.x t.a t.there t.is in
    let same_root = c.in_ok-table.ensures.same in
    let root = root_of c.in_ok-table.table in
    let told = c.in_ok-waiting.ensures.told ∙ ap (λ js. completed_buffers c.stored.result.now (waiting_at (job_at n js))) c.as_slice.ensures.value in
    let here = buffers_at g.D.Disk.state old s stands is_open n t root same_root c.stored.result.now (map key_rows_view c.in_ok-waiting.waiting.items) c.stored.ensures told in
    let seen = subst (λ (xs : List CodeKeyRows). AreBuffers root.schema root.keys (map key_rows_view xs) (whole_at g.D.Disk.state old s stands is_open n t root same_root)) (sym c.as_slice-2.ensures.value) here in
    let holds = subst (λ (rs : List Row). HoldGroups s.table.keys s.options.group_rows (stored_of (root_of old.manifest)) rs c.in_ok-gathered.gathered.items) (append-nil waits)
    (groups_here g.D.Disk.state old s stands is_open n t root same_root old.options.group_rows [] c.in_ok-gathered.gathered.items refl (c.in_ok-gathered.ensures.groups (whole_at g.D.Disk.state old s stands is_open n t root same_root) seen)) in
    let all_fine = subst (λ (rs : List Row). AreFine s rs) (append-nil waits) (fine_at g.D.Disk.state old s stands is_open n t root same_root [] tt) in
    let begun = starts g.D.Disk.state old s stands is_open n t.x t.a t.there t.is in
    let mid = c.write_groups.new.store in
    let filled = c.in_ok-rests.ensures.writes honest old s waits is_open all_fine holds begun stands.shows.next_group in
    let fit = c.rows_of_parts_fit.ensures in
    let same = ap (λ (x : Core g.row.D.Denot). x.jobs) c.in_ok-rests.ensures.same in
    let files = handles_view c.in_ok-rests.rests.items in
    let all = handles_view t.a.written.items ++ files in
    let there_now : groups_at (job_at n c.as_slice-3.result.now) ≡ handles_view t.a.written.items
    = ap (λ js. groups_at (job_at n js)) (c.as_slice-3.ensures.value ∙ ap (λ js. js.items) same) ∙ (append_in (job_at n old.jobs.items) t.x t.a t.there t.is).1 in
    let come : handles_view c.in_ok-come.come.items ≡ all = c.in_ok-come.ensures.told ∙ ap (λ gs. gs ++ handles_view c.as_slice-4.result.now) there_now ∙ ap (λ xs. handles_view t.a.written.items ++ handles_view xs) c.as_slice-4.ensures.value in
    let next = c.next_after-next.result in
    let was : c.next.result ≡ s.table.next = c.next.ensures ∙ (filled.written.wrote.shows.shown is_open).next in
    let falls = subst (λ (k : ℕ). k ≤ next) was c.next_after-next.ensures.never_falls in
    let seen = ap handles_view c.as_slice-7.ensures.value ∙ come in
    let above = subst (λ (fs : List FileGroup). AllByRecursion (λ (f : FileGroup). f.number < next) fs) seen c.next_after-next.ensures.above in
    let least = subst (λ (k : ℕ). (next ≡ k) ⊎ IsNextOf next all) was (subst (λ (fs : List FileGroup). (next ≡ c.next.result) ⊎ IsNextOf next fs) seen c.next_after-next.ensures.least) in
    let gs = groups_in c.in_ok-groups.groups in
    let are = c.in_ok-groups.ensures.placed ∙ ap (λ (fs : List FileGroup). in_order (λ (f : FileGroup). f.key) ((root_of mid.manifest).groups ++ fs)) (ap handles_view c.as_slice-6.ensures.value ∙ come) in
    let plan = planned g.D.Disk.state old s stands is_open n fine t.x t.a t.there t.is fit something mid (handles_view c.in_ok-rests.rests.items) filled same next falls above least gs are in
    let new = c.commit_version.new.store in
    let counted = count_is g.D.Disk.state old s stands is_open n fine t.x t.a t.there t.is fit something mid (handles_view c.in_ok-rests.rests.items) filled same next falls above least gs are c.in_ok-count.count (c.in_ok-count.ensures.counted ∙ none_and (rows_in (handles_view c.as_slice-5.result.now)) ∙ ap rows_in (ap handles_view c.as_slice-5.ensures.value ∙ come)) in
    subst (λ (k : ℕ). ActsFrom g.D.Disk.state old new (commit n) (done k) s) (sym counted)
    (done_so g.D.Disk.state old s stands is_open n fine t.x t.a t.there t.is fit something mid (handles_view c.in_ok-rests.rests.items) filled same next falls above least gs are new
    (c.in_ok-commit_version.ensures.turns (c.in_ok-rests.ensures.honest.0 honest) _ _ (ended_at n s.jobs) filled.written.wrote.shows is_open plan))

pub returns-clause-tidy : goal.returns-clause-tidy
returns-clause-tidy g c honest s stands is_open fine is_append keeps =
    let old = c.args.store.now in
    let n = c.args.job in
    let t = found_there g.D.Disk.state s n old is_append in
    let waits = wait g.D.Disk.state old s stands is_open n t.x t.a t.there t.is in
    let same_root = c.in_ok-table.ensures.same in
    let root = root_of c.in_ok-table.table in
    let told = c.in_ok-waiting.ensures.told ∙ ap (λ js. completed_buffers c.stored.result.now (waiting_at (job_at n js))) c.as_slice.ensures.value in
    let here = buffers_at g.D.Disk.state old s stands is_open n t root same_root c.stored.result.now (map key_rows_view c.in_ok-waiting.waiting.items) c.stored.ensures told in
    let seen = subst (λ (xs : List CodeKeyRows). AreBuffers root.schema root.keys (map key_rows_view xs) (whole_at g.D.Disk.state old s stands is_open n t root same_root)) (sym c.as_slice-2.ensures.value) here in
    let holds = subst (λ (rs : List Row). HoldGroups s.table.keys s.options.group_rows (stored_of (root_of old.manifest)) rs c.in_ok-gathered.gathered.items) (append-nil waits)
    (groups_here g.D.Disk.state old s stands is_open n t root same_root old.options.group_rows [] c.in_ok-gathered.gathered.items refl (c.in_ok-gathered.ensures.groups (whole_at g.D.Disk.state old s stands is_open n t root same_root) seen)) in
    let all_fine = subst (λ (rs : List Row). AreFine s rs) (append-nil waits) (fine_at g.D.Disk.state old s stands is_open n t root same_root [] tt) in
    let begun = starts g.D.Disk.state old s stands is_open n t.x t.a t.there t.is in
    let mid = c.write_groups.new.store in
    let filled = c.in_ok-rests.ensures.writes honest old s waits is_open all_fine holds begun stands.shows.next_group in
    c.in_ok-commit_version.ensures.tidy (c.in_ok-rests.ensures.honest.0 honest) _ filled.written.wrote.shows is_open (ap (λ (x : Core g.row.D.Denot). x.keeps) c.in_ok-rests.ensures.same ∙ keeps)
