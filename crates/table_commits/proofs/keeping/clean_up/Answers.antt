use Rattle.std.proofs.Common.{◌≡◌, true, sym, ◌∙◌, ap, subst}
use Rattle.std.proofs.lemmas.Bool.{false≢true}
use Rattle.table_state.specs.declared.standing.Core.{Core}
use Rattle.manifest.specs.Groups.{Root, root_of}
use Rattle.recovery.specs.Opening.{IsClean}
use Rattle.table_commits.proofs.NeededFiles.{clean_is_tidy}
use Rattle.table_commits.proofs.AfterCleanings.{nothing_cleared, clears_on, untracked_still}
use Rattle.table_commits.proofs.StateCarriedOver.{shown}
use Rattle.table_commits.proofs.keeping.clean_up.Goals as goal

pub clean_idle-fine-requires-clause-jobs : goal.clean_idle-fine-requires-clause-jobs
clean_idle-fine-requires-clause-jobs g c = (c.is_idle.ensures.0 c.if-not-is_idle.false).0

pub clean_idle-fine-requires-clause-cursors : goal.clean_idle-fine-requires-clause-cursors
clean_idle-fine-requires-clause-cursors g c = (c.is_idle.ensures.0 c.if-not-is_idle.false).1

pub returns-then-store-clause-clears : goal.returns-then-store-clause-clears
returns-then-store-clause-clears g c honest s shows is_open = nothing_cleared g.D.Disk.state c.args.store.now s shows is_open

pub returns-then-not-is_idle-clause-removes : goal.returns-then-not-is_idle-clause-removes
returns-then-not-is_idle-clause-removes g c honest is_open jobs cursors = absurd (false≢true (sym c.if-not-is_idle.true ∙ c.is_idle.ensures.1 (jobs, cursors)))

pub returns-then-store-clause-tidy : goal.returns-then-store-clause-tidy
returns-then-store-clause-tidy g c honest s shows is_open = absurd (false≢true (sym is_open ∙ sym shows.closed ∙ c.if-store.true))

pub returns-then-not-is_idle-clause-tidy : goal.returns-then-not-is_idle-clause-tidy
returns-then-not-is_idle-clause-tidy g c honest s shows is_open = c.forget_unneeded.ensures.tidy honest (shown g.D.Disk.state c.args.store.now s shows is_open).tracked

pub returns-clause-clears : goal.returns-clause-clears
returns-clause-clears g c honest s shows is_open =
    let old = c.args.store.now in
    let mid = c.clean_idle-fine.new.store in
    let one = c.clean_idle-fine.ensures.clears honest s shows is_open in
    let same = c.clean_idle-fine.ensures.same in
    let clean = λ (e : mid.clean ≡ true). subst (λ (r : Root). IsClean r (g.D.Disk.state mid.vault.disk)) (sym (ap (λ (st : Core g.row.D.Denot). root_of st.manifest) same))
    (c.clean_idle-fine.ensures.clean honest (c.clean_idle-fine.ensures.remembers ∙ e)) in
    clears_on g.D.Disk.state old mid (record mid { snapshots = c.untrack.new.snapshots }) s one
    (untracked_still g.D.Disk.state mid s one.shows is_open c.untrack.new.snapshots c.untrack.ensures (λ e. clean_is_tidy g.D.Disk.state mid s one.shows is_open (clean e)))

pub returns-clause-tidy : goal.returns-clause-tidy
returns-clause-tidy g c honest s shows is_open e =
    let old = c.args.store.now in
    let mid = c.clean_idle-fine.new.store in
    let one = c.clean_idle-fine.ensures.clears honest s shows is_open in
    let same = c.clean_idle-fine.ensures.same in
    let clean = λ (f : mid.clean ≡ true). subst (λ (r : Root). IsClean r (g.D.Disk.state mid.vault.disk)) (sym (ap (λ (st : Core g.row.D.Denot). root_of st.manifest) same))
    (c.clean_idle-fine.ensures.clean honest (c.clean_idle-fine.ensures.remembers ∙ f)) in
    let two = untracked_still g.D.Disk.state mid s one.shows is_open c.untrack.new.snapshots c.untrack.ensures (λ f. clean_is_tidy g.D.Disk.state mid s one.shows is_open (clean f)) in
    clean_is_tidy g.D.Disk.state (record mid { snapshots = c.untrack.new.snapshots }) s two.shows is_open (clean e)

pub returns-clause-same : goal.returns-clause-same
returns-clause-same g c =
    let mid = c.clean_idle-fine.new.store in
    ap (λ (st : Core g.row.D.Denot). record st { snapshots = c.untrack.new.snapshots }) c.clean_idle-fine.ensures.same

pub returns-clause-idle : goal.returns-clause-idle
returns-clause-idle g c fine = c.is_idle.ensures.0 c.if-not-is_idle.false

pub returns-then-store-clause-says : goal.returns-then-store-clause-says
returns-then-store-clause-says g c is_open jobs cursors = absurd (false≢true (sym is_open ∙ c.if-store.true))

pub returns-then-not-is_idle-clause-says : goal.returns-then-not-is_idle-clause-says
returns-then-not-is_idle-clause-says g c is_open jobs cursors = absurd (false≢true (sym c.if-not-is_idle.true ∙ c.is_idle.ensures.1 (jobs, cursors)))

pub returns-clause-says : goal.returns-clause-says
returns-clause-says g c is_open jobs cursors = c.clean_idle-fine.ensures.remembers
