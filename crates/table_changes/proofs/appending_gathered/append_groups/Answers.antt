use Rattle.std.proofs.Common.{◌≡◌, ◌≤◌, ◌<◌, ◌⊎◌, ◌++◌, ℕ, true, List, length, Err, ap, sym, ◌∙◌, subst}
use Rattle.std.specs.List.{AllByRecursion}
use Rattle.std.specs.declared.rc.Rc.{Rc}
use Rattle.std.specs.declared.alloc.Global.{Global}
use Rattle.bits.specs.declared.refusal.Refusal.{Refusal}
use Rattle.vault.specs.Calls.{HasFailed}
use Rattle.vault.proofs.Chained.{refused}
use Rattle.gather.specs.declared.key_buffer.KeyBuffer.{KeyBuffer}
use Rattle.manifest.specs.declared.group.Group.{Group as CodeGroup}
use Rattle.manifest.specs.Groups.{Group as FileGroup, Root, root_of, groups_in, handles_view}
use Rattle.manifest.specs.Root.{CanHave}
use Rattle.table_state.specs.declared.standing.Core.{Core}
use Rattle.planning.specs.Told.{IsNextOf}
use Rattle.table.specs.InOrder.{in_order}
use Rattle.table.specs.Calls.{append, done}
use Rattle.table.specs.Refusing.{is_failure}
use Rattle.table.specs.Views.{answered}
use Rattle.table_state.specs.Promises.{ActsFrom}
use Rattle.table_changes.specs.RootLimit.{IsOverWith}
use Rattle.table_commits.proofs.OneFileMore.{failed_since}
use Rattle.table_commits.proofs.GroupRemovals.{failure_of, memory_only}
use Rattle.table_changes.proofs.AppendEnds.{all_fine, starts, stopped, stopped_cause, poor_after, planned, too_heavy, done_so, refused_so}
use Rattle.table_changes.proofs.RootsForeseen.{is_over}
use Rattle.table_changes.proofs.appending_gathered.append_groups.Goals as goal

pub returns-then-is_beyond_root-clause-acts : goal.returns-then-is_beyond_root-clause-acts
returns-then-is_beyond_root-clause-acts g c honest s given stands is_open fine some many hold =
    is_over g.D.Disk.state c.args.store.now s stands is_open given fine some c.args.groups.items hold
    (subst (λ (bs : List KeyBuffer). IsOverWith (root_of c.args.store.now.manifest) (length bs)) c.as_slice.ensures.value (c.is_beyond_root.ensures c.if-is_beyond_root.true))

pub returns-in_err-written-clause-acts : goal.returns-in_err-written-clause-acts
returns-in_err-written-clause-acts g c honest s given stands is_open fine some many hold =
    let old = c.args.store.now in
    let new = c.write_groups.new.store in
    let stop = c.in_err-written.ensures.writes honest old s given is_open (all_fine g.D.Disk.state old s stands is_open given fine) hold (starts g.D.Disk.state old s stands is_open given fine) stands.shows.next_group in
    refused (λ r. ActsFrom g.D.Disk.state old new (append given) (answered {T = ℕ} (λ x. done x) r) s) c.from_residual.result _ c.from_residual.ensures.1
    (stopped g.D.Disk.state old s stands is_open given fine new c.in_err-written.field-0.0 stop)

pub returns-in_err-written-clause-cause : goal.returns-in_err-written-clause-cause
returns-in_err-written-clause-cause g c honest s given stands is_open fine some many hold =
    let old = c.args.store.now in
    let new = c.write_groups.new.store in
    let stop = c.in_err-written.ensures.writes honest old s given is_open (all_fine g.D.Disk.state old s stands is_open given fine) hold (starts g.D.Disk.state old s stands is_open given fine) stands.shows.next_group in
    refused (λ r. is_failure (answered {T = ℕ} (λ x. done x) r) ≡ true → HasFailed (g.D.Disk.state old.vault.disk) (g.D.Disk.state new.vault.disk)) c.from_residual.result _ c.from_residual.ensures.1
    (stopped_cause g.D.Disk.state old s stands is_open given fine new c.in_err-written.field-0.0 stop)

pub returns-in_err-groups-clause-acts : goal.returns-in_err-groups-clause-acts
returns-in_err-groups-clause-acts g c honest s given stands is_open fine some many hold =
    let old = c.args.store.now in
    let new = c.write_groups.new.store in
    let filled = c.in_ok-written.ensures.writes honest old s given is_open (all_fine g.D.Disk.state old s stands is_open given fine) hold (starts g.D.Disk.state old s stands is_open given fine) stands.shows.next_group in
    refused (λ r. ActsFrom g.D.Disk.state old new (append given) (answered {T = ℕ} (λ x. done x) r) s) c.from_residual-in_err-groups.result _ c.from_residual-in_err-groups.ensures.1
    (subst (λ (e : Refusal). ActsFrom g.D.Disk.state old new (append given) (answered {T = ℕ} (λ x. done x) (Err e)) s) (sym (memory_only c.in_err-groups.field-0.0 c.in_err-groups.ensures.which))
    (poor_after g.D.Disk.state old s stands is_open given fine some new (handles_view c.in_ok-written.written.items) filled))

pub returns-in_err-groups-clause-cause : goal.returns-in_err-groups-clause-cause
returns-in_err-groups-clause-cause g c honest s given stands is_open fine some many hold =
    let old = c.args.store.now in
    let new = c.write_groups.new.store in
    refused (λ r. is_failure (answered {T = ℕ} (λ x. done x) r) ≡ true → HasFailed (g.D.Disk.state old.vault.disk) (g.D.Disk.state new.vault.disk)) c.from_residual-in_err-groups.result _ c.from_residual-in_err-groups.ensures.1
    (subst (λ (e : Refusal). is_failure (answered {T = ℕ} (λ x. done x) (Err e)) ≡ true → HasFailed (g.D.Disk.state old.vault.disk) (g.D.Disk.state new.vault.disk)) (sym (memory_only c.in_err-groups.field-0.0 c.in_err-groups.ensures.which))
    (λ h. absurd (cc)))

pub commit_version-requires : goal.commit_version-requires
commit_version-requires g c =
    let next = c.next_after-next.result in
    let falls = subst (λ (n : ℕ). n ≤ next) c.next.ensures c.next_after-next.ensures.never_falls in
    let above = subst (λ (hs : List (Rc CodeGroup Global)). AllByRecursion (λ (f : FileGroup). f.number < next) (handles_view hs)) (c.as_slice-3.ensures.value ∙ sym c.as_slice-2.ensures.value) c.next_after-next.ensures.above in
    let old = c.args.store.now in
    let mid = c.write_groups.new.store in
    let same = ap (λ (st : Core g.row.D.Denot). root_of st.manifest) c.in_ok-written.ensures.same in
    let come = subst (λ (hs : List (Rc CodeGroup Global)). CanHave (root_of old.manifest) (handles_view hs)) (sym c.as_slice-2.ensures.value) c.in_ok-written.ensures.fit in
    record {
      below = c.in_ok-groups.ensures.below next falls above;
      each = c.in_ok-groups.ensures.each (subst (λ (r : Root). CanHave r (handles_view c.as_slice-2.result.now)) (sym same) come);
    }

pub returns-in_err-commit_version-clause-acts : goal.returns-in_err-commit_version-clause-acts
returns-in_err-commit_version-clause-acts g c honest s given stands is_open fine some many hold =
    let old = c.args.store.now in
    let mid = c.write_groups.new.store in
    let new = c.commit_version.new.store in
    let files = handles_view c.in_ok-written.written.items in
    let filled = c.in_ok-written.ensures.writes honest old s given is_open (all_fine g.D.Disk.state old s stands is_open given fine) hold (starts g.D.Disk.state old s stands is_open given fine) stands.shows.next_group in
    let next = c.next_after-next.result in
    let was : c.next.result ≡ s.table.next = c.next.ensures ∙ (filled.written.wrote.shows.shown is_open).next in
    let falls = subst (λ (n : ℕ). n ≤ next) was c.next_after-next.ensures.never_falls in
    let above = subst (λ (hs : List (Rc CodeGroup Global)). AllByRecursion (λ (f : FileGroup). f.number < next) (handles_view hs)) c.as_slice-3.ensures.value c.next_after-next.ensures.above in
    let least = subst (λ (n : ℕ). (next ≡ n) ⊎ IsNextOf next files) was (subst (λ (hs : List (Rc CodeGroup Global)). (next ≡ c.next.result) ⊎ IsNextOf next (handles_view hs)) c.as_slice-3.ensures.value c.next_after-next.ensures.least) in
    let are = c.in_ok-groups.ensures.placed ∙ ap (λ (hs : List (Rc CodeGroup Global)). in_order (λ (f : FileGroup). f.key) ((root_of mid.manifest).groups ++ handles_view hs)) c.as_slice-2.ensures.value in
    let gs = groups_in c.in_ok-groups.groups in
    let plan = planned g.D.Disk.state old s stands is_open given fine some mid files filled next falls above least gs are in
    let failed = c.in_err-commit_version in
    refused (λ r. ActsFrom g.D.Disk.state old new (append given) (answered {T = ℕ} (λ x. done x) r) s) c.from_residual-in_err-commit_version.result _ c.from_residual-in_err-commit_version.ensures.1
    (refused_so g.D.Disk.state old s stands is_open given fine some mid files filled next falls above least gs are new failed.field-0.0 (failed.ensures.which _ _ s.jobs plan)
    (λ is. too_heavy g.D.Disk.state old s stands is_open given fine some mid files filled next falls above least gs are (failed.ensures.limit (ap (λ (e : Refusal). Err e) is) _ _ s.jobs plan))
    (failed.ensures.turns (c.in_ok-written.ensures.honest.0 honest) _ _ s.jobs filled.written.wrote.shows is_open plan))

pub returns-in_err-commit_version-clause-cause : goal.returns-in_err-commit_version-clause-cause
returns-in_err-commit_version-clause-cause g c honest s given stands is_open fine some many hold =
    let old = c.args.store.now in
    let mid = c.write_groups.new.store in
    let new = c.commit_version.new.store in
    let files = handles_view c.in_ok-written.written.items in
    let filled = c.in_ok-written.ensures.writes honest old s given is_open (all_fine g.D.Disk.state old s stands is_open given fine) hold (starts g.D.Disk.state old s stands is_open given fine) stands.shows.next_group in
    let next = c.next_after-next.result in
    let was : c.next.result ≡ s.table.next = c.next.ensures ∙ (filled.written.wrote.shows.shown is_open).next in
    let falls = subst (λ (n : ℕ). n ≤ next) was c.next_after-next.ensures.never_falls in
    let above = subst (λ (hs : List (Rc CodeGroup Global)). AllByRecursion (λ (f : FileGroup). f.number < next) (handles_view hs)) c.as_slice-3.ensures.value c.next_after-next.ensures.above in
    let least = subst (λ (n : ℕ). (next ≡ n) ⊎ IsNextOf next files) was (subst (λ (hs : List (Rc CodeGroup Global)). (next ≡ c.next.result) ⊎ IsNextOf next (handles_view hs)) c.as_slice-3.ensures.value c.next_after-next.ensures.least) in
    let are = c.in_ok-groups.ensures.placed ∙ ap (λ (hs : List (Rc CodeGroup Global)). in_order (λ (f : FileGroup). f.key) ((root_of mid.manifest).groups ++ handles_view hs)) c.as_slice-2.ensures.value in
    let gs = groups_in c.in_ok-groups.groups in
    let plan = planned g.D.Disk.state old s stands is_open given fine some mid files filled next falls above least gs are in
    let failed = c.in_err-commit_version in
    refused (λ r. is_failure (answered {T = ℕ} (λ x. done x) r) ≡ true → HasFailed (g.D.Disk.state old.vault.disk) (g.D.Disk.state new.vault.disk)) c.from_residual-in_err-commit_version.result _ c.from_residual-in_err-commit_version.ensures.1
    (λ h. failed_since (g.D.Disk.state old.vault.disk) (g.D.Disk.state mid.vault.disk) (g.D.Disk.state new.vault.disk) filled.written.no_less failed.ensures.counts
    ((failed.ensures.turns (c.in_ok-written.ensures.honest.0 honest) _ _ s.jobs filled.written.wrote.shows is_open plan).cause (failure_of failed.field-0.0 h)))

pub returns-clause-acts : goal.returns-clause-acts
returns-clause-acts g c honest s given stands is_open fine some many hold =
    let old = c.args.store.now in
    let mid = c.write_groups.new.store in
    let new = c.commit_version.new.store in
    let files = handles_view c.in_ok-written.written.items in
    let filled = c.in_ok-written.ensures.writes honest old s given is_open (all_fine g.D.Disk.state old s stands is_open given fine) hold (starts g.D.Disk.state old s stands is_open given fine) stands.shows.next_group in
    let next = c.next_after-next.result in
    let was : c.next.result ≡ s.table.next = c.next.ensures ∙ (filled.written.wrote.shows.shown is_open).next in
    let falls = subst (λ (n : ℕ). n ≤ next) was c.next_after-next.ensures.never_falls in
    let above = subst (λ (hs : List (Rc CodeGroup Global)). AllByRecursion (λ (f : FileGroup). f.number < next) (handles_view hs)) c.as_slice-3.ensures.value c.next_after-next.ensures.above in
    let least = subst (λ (n : ℕ). (next ≡ n) ⊎ IsNextOf next files) was (subst (λ (hs : List (Rc CodeGroup Global)). (next ≡ c.next.result) ⊎ IsNextOf next (handles_view hs)) c.as_slice-3.ensures.value c.next_after-next.ensures.least) in
    let are = c.in_ok-groups.ensures.placed ∙ ap (λ (hs : List (Rc CodeGroup Global)). in_order (λ (f : FileGroup). f.key) ((root_of mid.manifest).groups ++ handles_view hs)) c.as_slice-2.ensures.value in
    let gs = groups_in c.in_ok-groups.groups in
    let plan = planned g.D.Disk.state old s stands is_open given fine some mid files filled next falls above least gs are in
    subst (λ (n : ℕ). ActsFrom g.D.Disk.state old new (append given) (done n) s) (sym many)
    (done_so g.D.Disk.state old s stands is_open given fine some mid files filled next falls above least gs are new
    (c.in_ok-commit_version.ensures.turns (c.in_ok-written.ensures.honest.0 honest) _ _ s.jobs filled.written.wrote.shows is_open plan))

pub returns-clause-tidy : goal.returns-clause-tidy
returns-clause-tidy g c honest s stands is_open given fine hold keeps some =
    let old = c.args.store.now in
    let filled = c.in_ok-written.ensures.writes honest old s given is_open (all_fine g.D.Disk.state old s stands is_open given fine) hold (starts g.D.Disk.state old s stands is_open given fine) stands.shows.next_group in
    c.in_ok-commit_version.ensures.tidy (c.in_ok-written.ensures.honest.0 honest) _ filled.written.wrote.shows is_open (ap (λ (st : Core g.row.D.Denot). st.keeps) c.in_ok-written.ensures.same ∙ keeps)
