use Rattle.std.proofs.Common.{◌≡◌, ◌<◌, true, List, [], ◌∷◌, ◌++◌, take, refl, sym, ◌∙◌, ap, subst, arith}
use Rattle.std.proofs.lemmas.List.{map_push}
use Rattle.std.specs.Rc.{rc_value}
use Rattle.std.specs.declared.rc.Rc.{Rc}
use Rattle.std.specs.declared.alloc.Global.{Global}
use Rattle.lists.proofs.Slices.{take_next as take_item, take_whole}
use Rattle.lists.proofs.Booleans.{iff_through as both}
use Rattle.manifest.specs.declared.group.Group.{Group as CodeGroup}
use Rattle.manifest.specs.Groups.{Group as FileGroup, Root, group_view, handles_view, root_of}
use Rattle.snapshots.specs.State.{State as Versions, file_of, is_needed}
use Rattle.table_state.specs.declared.standing.Core.{Core}
use Rattle.snapshots.specs.Views.{state_of}
use Rattle.table_commits.specs.Cleaning.{AreForgotten}
use Rattle.table_commits.proofs.AfterCleanings.{nothing_cleared, clears_on, unneeded_at, none_forgotten, more_forgotten}
use Rattle.table_commits.proofs.cleaning.forget_parts.Goals as goal

pub loop-group-init : goal.loop-group-init
loop-group-init g c = record { same = refl; failures = omega arith; reads = refl; honest = (λ h. h, λ h. h); forgets = λ honest clean. (clean, none_forgotten (root_of c.args.store.now.manifest).keys (g.D.Disk.state c.args.store.now.vault.disk)); clears = λ honest s shows is_open unneeded. nothing_cleared g.D.Disk.state c.args.store.now s shows is_open }

pub loop-group-preserved : goal.loop-group-preserved
loop-group-preserved g c =
    let old = c.args.store.now in
    let mid = c.loop-group.store in
    let new = c.forget_part.new.store in
    let so_far = c.loop-group.invariant in
    record {
      same = c.forget_part.ensures.same ∙ ap (λ (st : Core g.row.D.Denot). record st { vault = new.vault; clean = new.clean }) so_far.same;
      failures = omega (arith, so_far.failures, c.forget_part.ensures.counts);
      reads = c.forget_part.ensures.reads ∙ so_far.reads;
      honest = both so_far.honest c.forget_part.ensures.honest;
      forgets = λ honest clean.
          let now = c.forget_part.ensures.forgets (so_far.honest.0 honest) clean in
          let before = so_far.forgets honest now.0 in
          let root = ap (λ (st : Core g.row.D.Denot). root_of st.manifest) so_far.same in
          let i = c.loop-group.group-index in
          let xs = c.args.groups.now in
          let item = take_item xs i c.group-item.result c.loop-group-test.true c.group-item.is in
          let seen = ap (λ (ys : List (Rc CodeGroup Global)). handles_view ys) item ∙ map_push (λ (y : Rc CodeGroup Global). group_view (rc_value y)) (take i xs) c.group-item.result
          ∙ ap (λ (y : CodeGroup). handles_view (take i xs) ++ group_view y ∷ []) (sym c.deref.ensures) in (
            before.0,
            subst (λ (gs : List FileGroup). AreForgotten (root_of old.manifest).keys gs (g.D.Disk.state old.vault.disk) (g.D.Disk.state new.vault.disk)) (sym seen)
                (more_forgotten (root_of old.manifest).keys (handles_view (take i xs)) (group_view c.deref.result.now ∷ []) (g.D.Disk.state old.vault.disk) (g.D.Disk.state mid.vault.disk) (g.D.Disk.state new.vault.disk) before.1
                (subst (λ (r : Root). AreForgotten r.keys (group_view c.deref.result.now ∷ []) (g.D.Disk.state mid.vault.disk) (g.D.Disk.state new.vault.disk)) root now.1)),
          );
      clears = λ honest s shows is_open unneeded.
          let one = so_far.clears honest s shows is_open unneeded in
          let versions = ap (λ (st : Core g.row.D.Denot). state_of st.snapshots) so_far.same in
          let at = unneeded_at (state_of old.snapshots) s.next_group c.args.groups.now unneeded c.loop-group.group-index c.group-item.result c.loop-group-test.true c.group-item.is in
          let item = c.deref.ensures in
          let needed = ap (λ (v : Versions). is_needed v (file_of (group_view c.deref.result.now))) versions ∙ ap (λ (x : CodeGroup). is_needed (state_of old.snapshots) (file_of (group_view x))) item ∙ at.0 in
          let low = subst (λ (x : CodeGroup). x.number < s.next_group) (sym item) at.1 in
          clears_on g.D.Disk.state old mid new s one (c.forget_part.ensures.clears (so_far.honest.0 honest) s one.shows is_open needed low);
    }

pub returns-clause-forgets : goal.returns-clause-forgets
returns-clause-forgets g c honest clean =
    let all = take_whole c.args.groups.now c.loop-group.group-index c.loop-group-test.false in
    subst (λ (ys : List (Rc CodeGroup Global)). (c.args.store.now.clean ≡ true) × AreForgotten (root_of c.args.store.now.manifest).keys (handles_view ys) (g.D.Disk.state c.args.store.now.vault.disk) (g.D.Disk.state c.loop-group.store.vault.disk)) all
    (c.loop-group.invariant.forgets honest clean)
