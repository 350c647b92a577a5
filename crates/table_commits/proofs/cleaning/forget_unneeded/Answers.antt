use Rattle.std.proofs.Common.{◌≡◌, true, List, sym, subst, ⊎_elim}
use Rattle.std.proofs.lemmas.Bool.{false≢true}
use Rattle.std.specs.declared.rc.Rc.{Rc}
use Rattle.std.specs.declared.alloc.Global.{Global}
use Rattle.manifest.specs.declared.group.Group.{Group as CodeGroup}
use Rattle.manifest.specs.Groups.{handles_view, root_of}
use Rattle.snapshots.specs.State.{files_of}
use Rattle.snapshots.specs.Views.{state_of}
use Rattle.table_commits.specs.Cleaning.{AreUnneeded, AreForgotten}
use Rattle.table_commits.proofs.StateCarriedOver.{shown}
use Rattle.table_commits.proofs.NeededFiles.{tidied, tidy_gone, tidy_still}
use Rattle.table_commits.proofs.AfterCleanings.{spoilt, clears_on, are_unneeded, gone_still, unstepped, either_way}
use Rattle.table_commits.proofs.cleaning.forget_unneeded.Goals as goal

pub returns-clause-clears : goal.returns-clause-clears
returns-clause-clears g c honest s shows is_open = spoilt g.D.Disk.state c.args.store.now s shows is_open

pub returns-clause-tidy : goal.returns-clause-tidy
returns-clause-tidy g c honest tracked clean = absurd (false≢true clean)

pub returns-in-Ok-clause-clears : goal.returns-in-Ok-clause-clears
returns-in-Ok-clause-clears g c honest s shows is_open =
    let old = c.args.store.now in
    let mid = c.forget_parts.new.store in
    let before = g.D.Disk.state old.vault.disk in
    let after = g.D.Disk.state mid.vault.disk in
    let found = c.in-Ok.unneeded.items in
    let unneeded = are_unneeded g.D.Disk.state old s shows is_open (handles_view found) c.in-Ok.ensures.just in
    let lent = subst (λ (gs : List (Rc CodeGroup Global)). AreUnneeded (state_of old.snapshots) s.next_group (handles_view gs)) (sym c.as_slice.ensures.value) unneeded in
    let one = c.forget_parts.ensures.clears honest s shows is_open lent in
    let forgets = λ (clean : mid.clean ≡ true). subst (λ (gs : List (Rc CodeGroup Global)). (old.clean ≡ true) × AreForgotten (root_of old.manifest).keys (handles_view gs) before after) c.as_slice.ensures.value (c.forget_parts.ensures.forgets honest clean) in
    let tidy = tidied g.D.Disk.state old mid c.forget_parts.ensures.same (handles_view found) c.in-Ok.ensures.just (shown g.D.Disk.state old s shows is_open).tracked forgets in
    clears_on g.D.Disk.state old mid (record mid { snapshots = c.step.new.self }) s one
    (⊎_elim
    (λ done. gone_still g.D.Disk.state mid s one.shows is_open c.step.new.self (files_of (handles_view found)) done tidy)
    (λ same. unstepped g.D.Disk.state mid s one.shows is_open c.step.new.self same)
    (either_way c.step.result c.step.ensures.done c.step.ensures.unchanged))

pub returns-in-Ok-clause-tidy : goal.returns-in-Ok-clause-tidy
returns-in-Ok-clause-tidy g c honest tracked =
    let old = c.args.store.now in
    let mid = c.forget_parts.new.store in
    let before = g.D.Disk.state old.vault.disk in
    let after = g.D.Disk.state mid.vault.disk in
    let found = c.in-Ok.unneeded.items in
    let forgets = λ (clean : mid.clean ≡ true). subst (λ (gs : List (Rc CodeGroup Global)). (old.clean ≡ true) × AreForgotten (root_of old.manifest).keys (handles_view gs) before after) c.as_slice.ensures.value (c.forget_parts.ensures.forgets honest clean) in
    let tidy = tidied g.D.Disk.state old mid c.forget_parts.ensures.same (handles_view found) c.in-Ok.ensures.just tracked forgets in
    ⊎_elim
    (λ done. tidy_gone g.D.Disk.state mid c.step.new.self (files_of (handles_view found)) done tidy)
    (λ same. tidy_still g.D.Disk.state mid c.step.new.self same tidy)
    (either_way c.step.result c.step.ensures.done c.step.ensures.unchanged)
