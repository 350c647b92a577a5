use Rattle.std.proofs.Common.{◌≡◌, ◌≤◌, ◌<◌, List, length, refl, sym, ◌∙◌, ap, subst, arith}
use Rattle.lists.proofs.Booleans.{iff_through as both}
use Rattle.vault.proofs.Chained.{refused}
use Rattle.filter.specs.Test.{tests_in}
use Rattle.filter.specs.Deciding.{satisfies as all_satisfied}
use Rattle.manifest.specs.Groups.{Group as FileGroup, Root, root_of}
use Rattle.manifest.specs.Root.{CanHave}
use Rattle.planning.specs.Numbered.{brought}
use Rattle.planning.specs.Replaced.{Change, changes_view}
use Rattle.table_state.specs.declared.standing.Core.{Core}
use Rattle.table_changes.specs.Removing.{ReplacesAll}
use Rattle.table_changes.proofs.AbsentParts.{none_before, one_passed, none_at_all, table_passed}
use Rattle.table_changes.proofs.NothingWritten.{unwritten_yet, unwritten_then}
use Rattle.table_changes.proofs.GroupsReplaced.{at_first, at_last}
use Rattle.table_changes.proofs.removing.replace_groups.Goals as goal

pub loop-place-init : goal.loop-place-init
loop-place-init g c = record {
  same = refl;
  failures = omega arith;
  honest = (λ h. h, λ h. h);
  unwritten = λ none. unwritten_yet g.D.Disk.state c.args.store.now;
  absent = λ honest described can none. none_before (g.D.Disk.state c.args.store.now.vault.disk) (tests_in c.args.filter.now) (root_of c.args.store.now.manifest);
  fit = subst (λ (cs : List Change). CanHave (root_of c.args.store.now.manifest) (brought cs)) (sym (ap changes_view c.new.ensures.items)) tt;
  replaces = λ honest s terms described is_open made has same. at_first g.D.Disk.state c.args.store.now s has same (all_satisfied (tests_in c.args.filter.now)) _ (ap changes_view c.new.ensures.items) refl;
}

pub loop-place-preserved : goal.loop-place-preserved
loop-place-preserved g c =
    let old = c.args.store.now in
    let mid = c.loop-place.store in
    let new = c.replace_group.new.store in
    let so_far = c.loop-place.invariant in
    let done = c.in_ok-replace_group in
    let manifest = ap (λ (x : Core g.row.D.Denot). root_of x.manifest) so_far.same in
    let within : c.loop-place.place < length (root_of mid.manifest).groups
    = subst (λ (gs : List FileGroup). c.loop-place.place < length gs) (c.groups.ensures.are ∙ sym (ap (λ r. r.groups) manifest)) (omega (arith, c.loop-place-test.true, c.len-count.ensures)) in
    record {
      same = done.ensures.same ∙ ap (λ (x : Core g.row.D.Denot). record x { vault = new.vault; snapshots = new.snapshots; next_group = new.next_group }) so_far.same;
      failures = omega (arith, so_far.failures, done.ensures.counts);
      honest = both so_far.honest done.ensures.honest;
      unwritten = λ none. unwritten_then g.D.Disk.state old mid new so_far.honest (so_far.unwritten (omega (arith, done.ensures.rises, none))) (done.ensures.unwritten none);
      absent = λ honest described can none.
          let none_here : c.loop-place.removed.count ≡ 0 = omega (arith, done.ensures.rises, none) in
          one_passed (g.D.Disk.state old.vault.disk) (g.D.Disk.state mid.vault.disk) (tests_in c.args.filter.now) (root_of old.manifest) c.loop-place.place ((so_far.unwritten none_here).leaves honest) (so_far.absent honest described can none_here)
          (λ f at lacks. table_passed (g.D.Disk.state mid.vault.disk) (tests_in c.args.filter.now) (root_of c.args.table.now) (root_of old.manifest) described c.loop-place.place (λ o x. done.ensures.absent (so_far.honest.0 honest) o x) can f at lacks);
      fit = subst (λ (r : Root). CanHave r (brought (changes_view c.loop-place.removed.changes.items)) → CanHave r (brought (changes_view c.replace_group.new.removed.changes.items))) manifest done.ensures.fit so_far.fit;
      replaces = λ honest s terms described is_open made has same. done.ensures.replaces (so_far.honest.0 honest) old s terms (described ∙ sym manifest) is_open made within (so_far.replaces honest s terms described is_open made has same);
    }

pub returns-in_err-replace_group-clause-replaces : goal.returns-in_err-replace_group-clause-replaces
returns-in_err-replace_group-clause-replaces g c honest s terms described is_open made has same =
    let old = c.args.store.now in
    let mid = c.loop-place.store in
    let so_far = c.loop-place.invariant in
    let manifest = ap (λ (x : Core g.row.D.Denot). root_of x.manifest) so_far.same in
    let within : c.loop-place.place < length (root_of mid.manifest).groups
    = subst (λ (gs : List FileGroup). c.loop-place.place < length gs) (c.groups.ensures.are ∙ sym (ap (λ r. r.groups) manifest)) (omega (arith, c.loop-place-test.true, c.len-count.ensures)) in
    refused (λ o. ReplacesAll g.D.Disk.state old c.replace_group.new.store s (all_satisfied (tests_in c.args.filter.now)) o) c.from_residual.result _ c.from_residual.ensures.1
    (c.in_err-replace_group.ensures.replaces (so_far.honest.0 honest) old s terms (described ∙ sym manifest) is_open made within (so_far.replaces honest s terms described is_open made has same))

pub returns-clause-replaces : goal.returns-clause-replaces
returns-clause-replaces g c honest s terms described is_open made has same =
    let mid = c.loop-place.store in
    let so_far = c.loop-place.invariant in
    let manifest = ap (λ (x : Core g.row.D.Denot). root_of x.manifest) so_far.same in
    let past : length (root_of mid.manifest).groups ≤ c.loop-place.place
    = subst (λ (gs : List FileGroup). length gs ≤ c.loop-place.place) (c.groups.ensures.are ∙ sym (ap (λ r. r.groups) manifest)) (omega (arith, c.loop-place-test.false, c.len-count.ensures)) in
    at_last g.D.Disk.state c.args.store.now mid s is_open (all_satisfied (tests_in c.args.filter.now)) c.loop-place.place c.loop-place.removed (so_far.replaces honest s terms described is_open made has same) past

pub returns-clause-absent : goal.returns-clause-absent
returns-clause-absent g c honest described can none =
    let root = root_of c.args.store.now.manifest in
    let so_far = c.loop-place.invariant in
    let past : length root.groups ≤ c.loop-place.place = subst (λ (gs : List FileGroup). length gs ≤ c.loop-place.place) c.groups.ensures.are (omega (arith, c.loop-place-test.false, c.len-count.ensures)) in
    none_at_all (g.D.Disk.state c.args.store.now.vault.disk) (tests_in c.args.filter.now) root c.loop-place.place past (so_far.absent honest described can none)
