use Rattle.std.proofs.Common.{refl, ◌≡◌, ◌≤◌, ◌<◌, ◌⊎◌, ℕ, true, List, Err, inl, inr, ap, sym, ◌∙◌, subst}
use Rattle.std.specs.List.{AllByRecursion}
use Rattle.bits.specs.declared.refusal.Refusal.{Refusal}
use Rattle.bits.specs.declared.refusal.Refusal.TheVariants.{Device, InDoubt, Memory}
use Rattle.vault.specs.Calls.{HasFailed}
use Rattle.vault.proofs.Chained.{refused}
use Rattle.filter.specs.Test.{tests_in}
use Rattle.manifest.specs.Groups.{Group as FileGroup, Root, root_of, groups_in}
use Rattle.manifest.specs.Root.{CanHave}
use Rattle.planning.specs.Numbered.{brought}
use Rattle.planning.specs.Replaced.{changes_view, replaced}
use Rattle.planning.specs.Told.{IsNextOf}
use Rattle.planning.specs.declared.change.Change.{Change as CodeChange}
use Rattle.table.specs.Calls.{remove, done}
use Rattle.table.specs.Refusing.{is_failure}
use Rattle.table.specs.Views.{answered}
use Rattle.table_state.specs.declared.standing.Core.{Core}
use Rattle.table_state.specs.Promises.{ActsFrom}
use Rattle.table_commits.proofs.OneFileMore.{failed_since}
use Rattle.table_commits.proofs.GroupRemovals.{failure_of, memory_only}
use Rattle.table_changes.proofs.RemovalChecks.{out_of_memory}
use Rattle.table_changes.proofs.RemovalEnds.{begins, halted_by, replaced_by, halted, halted_cause, poor_after, nothing_removed, planned, too_heavy, done_so, refused_so}
use Rattle.table_changes.proofs.removing.remove_rows.Goals as goal

not_memory : (e : Refusal) → (e ≡ Device) ⊎ (e ≡ InDoubt) → e ≡ Memory → ⊥
not_memory e (inl is) memory = cc
not_memory e (inr is) memory = cc

pub returns-in_err-table-clause-acts : goal.returns-in_err-table-clause-acts
returns-in_err-table-clause-acts g c honest s terms stands is_open fine made =
    refused (λ r. ActsFrom g.D.Disk.state c.args.store.now c.args.store.now (remove terms) (answered {T = ℕ} (λ x. done x) r) s) c.from_residual.result _ c.from_residual.ensures.1
    (subst (λ (e : Refusal). ActsFrom g.D.Disk.state c.args.store.now c.args.store.now (remove terms) (answered {T = ℕ} (λ x. done x) (Err e)) s) (sym (memory_only c.in_err-table.field-0.0 c.in_err-table.ensures.which))
    (out_of_memory g.D.Disk.state c.args.store.now s stands is_open terms))

pub returns-in_err-table-clause-cause : goal.returns-in_err-table-clause-cause
returns-in_err-table-clause-cause g c honest s terms stands is_open fine made =
    refused (λ r. is_failure (answered {T = ℕ} (λ x. done x) r) ≡ true → HasFailed (g.D.Disk.state c.args.store.now.vault.disk) (g.D.Disk.state c.args.store.now.vault.disk)) c.from_residual.result _ c.from_residual.ensures.1
    (λ h. absurd (not_memory c.in_err-table.field-0.0 (failure_of c.in_err-table.field-0.0 h) (memory_only c.in_err-table.field-0.0 c.in_err-table.ensures.which)))

pub returns-in_err-removed-clause-acts : goal.returns-in_err-removed-clause-acts
returns-in_err-removed-clause-acts g c honest s terms stands is_open fine made =
    let st = g.D.Disk.state in
    let old = c.args.store.now in
    let mid = c.replace_groups.new.store in
    let tests = tests_in c.args.filter.now in
    let e = c.in_err-removed.field-0.0 in
    let stop = halted_by st old s stands is_open terms fine tests made mid e (c.in_err-removed.ensures.replaces honest s terms c.in_ok-table.ensures.same is_open made (begins st old s stands is_open) stands.shows.next_group) in
    refused (λ r. ActsFrom st old mid (remove terms) (answered {T = ℕ} (λ x. done x) r) s) c.from_residual-in_err-removed.result e c.from_residual-in_err-removed.ensures.1 (halted st old s stands is_open terms fine mid e stop)

pub returns-in_err-removed-clause-cause : goal.returns-in_err-removed-clause-cause
returns-in_err-removed-clause-cause g c honest s terms stands is_open fine made =
    let st = g.D.Disk.state in
    let old = c.args.store.now in
    let mid = c.replace_groups.new.store in
    let tests = tests_in c.args.filter.now in
    let e = c.in_err-removed.field-0.0 in
    let stop = halted_by st old s stands is_open terms fine tests made mid e (c.in_err-removed.ensures.replaces honest s terms c.in_ok-table.ensures.same is_open made (begins st old s stands is_open) stands.shows.next_group) in
    refused (λ r. is_failure (answered {T = ℕ} (λ x. done x) r) ≡ true → HasFailed (st old.vault.disk) (st mid.vault.disk)) c.from_residual-in_err-removed.result e c.from_residual-in_err-removed.ensures.1 (halted_cause st old s stands is_open terms fine mid e stop)

pub returns-then-removed-eq0-clause-acts : goal.returns-then-removed-eq0-clause-acts
returns-then-removed-eq0-clause-acts g c honest s terms stands is_open fine made =
    let st = g.D.Disk.state in
    let old = c.args.store.now in
    let mid = c.replace_groups.new.store in
    let tests = tests_in c.args.filter.now in
    let removed = c.in_ok-removed.removed in
    let r = replaced_by st old s stands is_open terms fine tests made mid removed (c.in_ok-removed.ensures.replaces honest s terms c.in_ok-table.ensures.same is_open made (begins st old s stands is_open) stands.shows.next_group) in
    nothing_removed st old s stands is_open terms fine mid removed r c.if-removed-eq0.true

pub returns-in_err-groups-clause-acts : goal.returns-in_err-groups-clause-acts
returns-in_err-groups-clause-acts g c honest s terms stands is_open fine made =
    let st = g.D.Disk.state in
    let old = c.args.store.now in
    let mid = c.replace_groups.new.store in
    let tests = tests_in c.args.filter.now in
    let removed = c.in_ok-removed.removed in
    let r = replaced_by st old s stands is_open terms fine tests made mid removed (c.in_ok-removed.ensures.replaces honest s terms c.in_ok-table.ensures.same is_open made (begins st old s stands is_open) stands.shows.next_group) in
    refused (λ r. ActsFrom st old mid (remove terms) (answered {T = ℕ} (λ x. done x) r) s) c.from_residual-in_err-groups.result _ c.from_residual-in_err-groups.ensures.1
    (subst (λ (e : Refusal). ActsFrom st old mid (remove terms) (answered {T = ℕ} (λ x. done x) (Err e)) s) (sym (memory_only c.in_err-groups.field-0.0 c.in_err-groups.ensures.which)) (poor_after st old s stands is_open terms fine mid removed r))

pub returns-in_err-groups-clause-cause : goal.returns-in_err-groups-clause-cause
returns-in_err-groups-clause-cause g c honest s terms stands is_open fine made =
    let st = g.D.Disk.state in
    let old = c.args.store.now in
    let mid = c.replace_groups.new.store in
    let tests = tests_in c.args.filter.now in
    refused (λ r. is_failure (answered {T = ℕ} (λ x. done x) r) ≡ true → HasFailed (st old.vault.disk) (st mid.vault.disk)) c.from_residual-in_err-groups.result _ c.from_residual-in_err-groups.ensures.1
    (subst (λ (e : Refusal). is_failure (answered {T = ℕ} (λ x. done x) (Err e)) ≡ true → HasFailed (st old.vault.disk) (st mid.vault.disk)) (sym (memory_only c.in_err-groups.field-0.0 c.in_err-groups.ensures.which)) (λ h. absurd (cc)))

pub commit_version-requires : goal.commit_version-requires
commit_version-requires g c =
    let next = c.next_with-next.result in
    let falls = subst (λ (n : ℕ). n ≤ next) c.next.ensures c.next_with-next.ensures.never_falls in
    let above = subst (λ (cs : List CodeChange). AllByRecursion (λ (f : FileGroup). f.number < next) (brought (changes_view cs))) (c.as_slice-2.ensures.value ∙ sym c.as_slice.ensures.value) c.next_with-next.ensures.above in
    let old = c.args.store.now in
    let same = ap (λ (st : Core g.row.D.Denot). root_of st.manifest) c.in_ok-removed.ensures.same in
    let come = subst (λ (cs : List CodeChange). CanHave (root_of old.manifest) (brought (changes_view cs))) (sym c.as_slice.ensures.value) c.in_ok-removed.ensures.fit in
    record {
      below = c.in_ok-groups.ensures.below next falls above;
      each = c.in_ok-groups.ensures.each (subst (λ (r : Root). CanHave r (brought (changes_view c.as_slice.result.now))) (sym same) come);
    }

pub returns-in_err-commit_version-clause-acts : goal.returns-in_err-commit_version-clause-acts
returns-in_err-commit_version-clause-acts g c honest s terms stands is_open fine made =
    let st = g.D.Disk.state in
    let old = c.args.store.now in
    let mid = c.replace_groups.new.store in
    let tests = tests_in c.args.filter.now in
    let removed = c.in_ok-removed.removed in
    let r = replaced_by st old s stands is_open terms fine tests made mid removed (c.in_ok-removed.ensures.replaces honest s terms c.in_ok-table.ensures.same is_open made (begins st old s stands is_open) stands.shows.next_group) in
    let next = c.next_with-next.result in
    let some = c.if-removed-eq0.false in
    let was : c.next.result ≡ s.table.next = c.next.ensures ∙ (r.written.wrote.shows.shown is_open).next in
    let falls = subst (λ (n : ℕ). n ≤ next) was c.next_with-next.ensures.never_falls in
    let above = subst (λ (cs : List CodeChange). AllByRecursion (λ (f : FileGroup). f.number < next) (brought (changes_view cs))) c.as_slice-2.ensures.value c.next_with-next.ensures.above in
    let least = subst (λ (n : ℕ). (next ≡ n) ⊎ IsNextOf next (brought (changes_view removed.changes.items))) was
    (subst (λ (cs : List CodeChange). (next ≡ c.next.result) ⊎ IsNextOf next (brought (changes_view cs))) c.as_slice-2.ensures.value c.next_with-next.ensures.least) in
    let gs = groups_in c.in_ok-groups.groups in
    let are = c.in_ok-groups.ensures.replaced ∙ ap (λ (cs : List CodeChange). replaced (changes_view cs) (root_of mid.manifest).groups) c.as_slice.ensures.value in
    let new = c.commit_version.new.store in
    let plan = planned st old s stands is_open terms fine mid removed r some next falls above least gs are in
    let failed = c.in_err-commit_version in
    refused (λ r. ActsFrom st old new (remove terms) (answered {T = ℕ} (λ x. done x) r) s) c.from_residual-in_err-commit_version.result _ c.from_residual-in_err-commit_version.ensures.1
    (refused_so st old s stands is_open terms fine mid removed r some next falls above least gs are new failed.field-0.0 (failed.ensures.which _ _ s.jobs plan)
    (λ is. too_heavy st old s stands is_open terms fine mid removed r some next falls above least gs are (failed.ensures.limit (ap (λ (e : Refusal). Err e) is) _ _ s.jobs plan))
    (failed.ensures.turns (c.in_ok-removed.ensures.honest.0 honest) _ _ s.jobs r.written.wrote.shows is_open plan))

pub returns-in_err-commit_version-clause-cause : goal.returns-in_err-commit_version-clause-cause
returns-in_err-commit_version-clause-cause g c honest s terms stands is_open fine made =
    let st = g.D.Disk.state in
    let old = c.args.store.now in
    let mid = c.replace_groups.new.store in
    let tests = tests_in c.args.filter.now in
    let removed = c.in_ok-removed.removed in
    let r = replaced_by st old s stands is_open terms fine tests made mid removed (c.in_ok-removed.ensures.replaces honest s terms c.in_ok-table.ensures.same is_open made (begins st old s stands is_open) stands.shows.next_group) in
    let next = c.next_with-next.result in
    let some = c.if-removed-eq0.false in
    let was : c.next.result ≡ s.table.next = c.next.ensures ∙ (r.written.wrote.shows.shown is_open).next in
    let falls = subst (λ (n : ℕ). n ≤ next) was c.next_with-next.ensures.never_falls in
    let above = subst (λ (cs : List CodeChange). AllByRecursion (λ (f : FileGroup). f.number < next) (brought (changes_view cs))) c.as_slice-2.ensures.value c.next_with-next.ensures.above in
    let least = subst (λ (n : ℕ). (next ≡ n) ⊎ IsNextOf next (brought (changes_view removed.changes.items))) was
    (subst (λ (cs : List CodeChange). (next ≡ c.next.result) ⊎ IsNextOf next (brought (changes_view cs))) c.as_slice-2.ensures.value c.next_with-next.ensures.least) in
    let gs = groups_in c.in_ok-groups.groups in
    let are = c.in_ok-groups.ensures.replaced ∙ ap (λ (cs : List CodeChange). replaced (changes_view cs) (root_of mid.manifest).groups) c.as_slice.ensures.value in
    let new = c.commit_version.new.store in
    let plan = planned st old s stands is_open terms fine mid removed r some next falls above least gs are in
    let failed = c.in_err-commit_version in
    refused (λ r. is_failure (answered {T = ℕ} (λ x. done x) r) ≡ true → HasFailed (st old.vault.disk) (st new.vault.disk)) c.from_residual-in_err-commit_version.result _ c.from_residual-in_err-commit_version.ensures.1
    (λ h. failed_since (st old.vault.disk) (st mid.vault.disk) (st new.vault.disk) r.written.no_less failed.ensures.counts ((failed.ensures.turns (c.in_ok-removed.ensures.honest.0 honest) _ _ s.jobs r.written.wrote.shows is_open plan).cause (failure_of failed.field-0.0 h)))

pub returns-clause-acts : goal.returns-clause-acts
returns-clause-acts g c honest s terms stands is_open fine made =
    let st = g.D.Disk.state in
    let old = c.args.store.now in
    let mid = c.replace_groups.new.store in
    let tests = tests_in c.args.filter.now in
    let removed = c.in_ok-removed.removed in
    let r = replaced_by st old s stands is_open terms fine tests made mid removed (c.in_ok-removed.ensures.replaces honest s terms c.in_ok-table.ensures.same is_open made (begins st old s stands is_open) stands.shows.next_group) in
    let next = c.next_with-next.result in
    let some = c.if-removed-eq0.false in
    let was : c.next.result ≡ s.table.next = c.next.ensures ∙ (r.written.wrote.shows.shown is_open).next in
    let falls = subst (λ (n : ℕ). n ≤ next) was c.next_with-next.ensures.never_falls in
    let above = subst (λ (cs : List CodeChange). AllByRecursion (λ (f : FileGroup). f.number < next) (brought (changes_view cs))) c.as_slice-2.ensures.value c.next_with-next.ensures.above in
    let least = subst (λ (n : ℕ). (next ≡ n) ⊎ IsNextOf next (brought (changes_view removed.changes.items))) was
    (subst (λ (cs : List CodeChange). (next ≡ c.next.result) ⊎ IsNextOf next (brought (changes_view cs))) c.as_slice-2.ensures.value c.next_with-next.ensures.least) in
    let gs = groups_in c.in_ok-groups.groups in
    let are = c.in_ok-groups.ensures.replaced ∙ ap (λ (cs : List CodeChange). replaced (changes_view cs) (root_of mid.manifest).groups) c.as_slice.ensures.value in
    let new = c.commit_version.new.store in
    let plan = planned st old s stands is_open terms fine mid removed r some next falls above least gs are in
    done_so st old s stands is_open terms fine mid removed r some next falls above least gs are new (c.in_ok-commit_version.ensures.turns (c.in_ok-removed.ensures.honest.0 honest) _ _ s.jobs r.written.wrote.shows is_open plan)

pub returns-then-removed-eq0-clause-unwritten : goal.returns-then-removed-eq0-clause-unwritten
returns-then-removed-eq0-clause-unwritten g c none = c.in_ok-removed.ensures.unwritten c.if-removed-eq0.true

pub returns-clause-unwritten : goal.returns-clause-unwritten
returns-clause-unwritten g c none = absurd (c.if-removed-eq0.false none)

pub returns-then-removed-eq0-clause-absent : goal.returns-then-removed-eq0-clause-absent
returns-then-removed-eq0-clause-absent g c honest can none = c.in_ok-removed.ensures.absent honest c.in_ok-table.ensures.same can c.if-removed-eq0.true

pub returns-clause-absent : goal.returns-clause-absent
returns-clause-absent g c honest can none = absurd (c.if-removed-eq0.false none)

pub returns-then-removed-eq0-clause-tidy : goal.returns-then-removed-eq0-clause-tidy
returns-then-removed-eq0-clause-tidy g c honest s stands is_open terms fine made keeps some = absurd (some refl)

pub returns-clause-tidy : goal.returns-clause-tidy
returns-clause-tidy g c honest s stands is_open terms fine made keeps some =
    let st = g.D.Disk.state in
    let old = c.args.store.now in
    let mid = c.replace_groups.new.store in
    let tests = tests_in c.args.filter.now in
    let r = replaced_by st old s stands is_open terms fine tests made mid c.in_ok-removed.removed (c.in_ok-removed.ensures.replaces honest s terms c.in_ok-table.ensures.same is_open made (begins st old s stands is_open) stands.shows.next_group) in
    c.in_ok-commit_version.ensures.tidy (c.in_ok-removed.ensures.honest.0 honest) _ r.written.wrote.shows is_open (ap (λ (x : Core g.row.D.Denot). x.keeps) c.in_ok-removed.ensures.same ∙ keeps)
