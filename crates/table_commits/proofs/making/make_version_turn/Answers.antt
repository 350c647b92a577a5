use Rattle.std.proofs.Common.{List, refl, ◌∙◌, ap, subst}
use Rattle.manifest.specs.Groups.{Group as Described, Root}
use Rattle.manifest.specs.Root.{RootMeans}
use Rattle.snapshots.specs.State.{after, committed}
use Rattle.snapshots.specs.Views.{state_of}
use Rattle.table_commits.proofs.making.make_version_turn.Goals as goal

pub returns-clause-made : goal.returns-clause-made
returns-clause-made g c = record {
  manifest_is = c.in_ok-manifest.ensures.made;
  job_is = refl;
  means = subst (λ (r : Root). RootMeans c.in_ok-root.root.items r) c.in_ok-manifest.ensures.made c.in_ok-root.ensures.means;
  prepared_is = c.in_ok-prepared.ensures.done ∙ ap (λ (gs : List Described). after (state_of c.args.store.now.snapshots) (committed gs c.args.job)) c.in_ok-version.ensures.same;
}
