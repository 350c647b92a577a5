use Rattle.std.proofs.Common.{refl, ⊎_elim}
use Rattle.manifest.specs.Groups.{handles_view}
use Rattle.snapshots.specs.State.{files_of}
use Rattle.snapshots.specs.Views.{state_of}
use Rattle.table_commits.proofs.AfterCleanings.{gone_tracks, still_tracks, either_way}
use Rattle.table_commits.proofs.keeping.untrack.Goals as goal

pub returns-in_default : goal.returns-in_default
returns-in_default c = still_tracks (state_of c.args.snapshots.now) (state_of c.args.snapshots.now) refl

pub returns-in-Ok : goal.returns-in-Ok
returns-in-Ok c =
    let old = state_of c.args.snapshots.now in
    let new = state_of c.step.new.self in
    ⊎_elim
    (λ done. gone_tracks old new (files_of (handles_view c.in-Ok.unneeded.items)) done)
    (λ same. still_tracks old new same)
    (either_way c.step.result c.step.ensures.done c.step.ensures.unchanged)
