use Rattle.std.proofs.Common.{◌≡◌, ◌++◌, ◌∷◌, [], ℕ, List, Result, Ok, Err, sym, ◌∙◌, ap, subst, arith}
use Rattle.std.specs.Prelude.{OnOk}
use Rattle.std.specs.declared.rc.Rc.{Rc}
use Rattle.std.specs.declared.alloc.Global.{Global}
use Rattle.lists.proofs.Lists.{all_append}
use Rattle.bits.specs.declared.refusal.Refusal.{Refusal}
use Rattle.bits.specs.declared.refusal.Refusal.TheVariants.{Memory}
use Rattle.vault.proofs.Chained.{refused}
use Rattle.manifest.specs.declared.group.Group.{Group as CodeGroup}
use Rattle.manifest.specs.Groups.{Group as FileGroup, Root, root_of, handles_view}
use Rattle.manifest.specs.Root.{CanHave, stored_of}
use Rattle.manifest.specs.Records.{IsGroup}
use Rattle.planning.specs.Numbered.{brought}
use Rattle.planning.specs.Replaced.{Change, changes_view}
use Rattle.planning.proofs.Each.{each_brought}
use Rattle.table_state.specs.declared.standing.Core.{Core}
use Rattle.table_changes.specs.Removing.{Puts}
use Rattle.table_commits.specs.Writing.{counted}
use Rattle.table_changes.proofs.ReplacingOneGroup.{put_nothing, put_refused, put_poor, put_one}
use Rattle.table_changes.proofs.removing.put_remains.Goals as goal

pub returns-then-len-eq0-clause-puts : goal.returns-then-len-eq0-clause-puts
returns-then-len-eq0-clause-puts g c honest start s files groups stored held is_open has holds b =
    let none = sym (c.len.ensures.counted stored holds.held) ∙ c.if-len-eq0.true in
    put_nothing g.D.Disk.state start c.args.store.now s is_open files groups has c.args.remains stored held b c.args.removed.now c.add_change.new.removed none (handles_view c.new.result.items) (ap handles_view c.new.ensures.items)
    c.add_change.result (c.add_change.ensures.changed, c.add_change.ensures.counted, c.add_change.ensures.which)

pub returns-in_err-group-clause-puts : goal.returns-in_err-group-clause-puts
returns-in_err-group-clause-puts g c honest start s files groups stored held is_open has holds b =
    let old = c.args.store.now in
    let new = c.write_whole.new.store in
    let before = c.args.removed.now in
    let failed = c.in_err-group in
    let e = failed.field-0.0 in
    refused (λ o. Puts g.D.Disk.state start old new s files groups held c.args.remains before before o) c.from_residual.result e c.from_residual.ensures.1
    (put_refused g.D.Disk.state start old s is_open files groups has c.args.remains stored held b before before new failed.ensures.counts (ap (λ (x : Core g.row.D.Denot). x.jobs) failed.ensures.same) e
    (failed.ensures.writes honest (counted s old.next_group) stored held has.wrote.shows is_open holds b.are) (failed.ensures.which stored holds))

pub returns-in_err-push-clause-puts : goal.returns-in_err-push-clause-puts
returns-in_err-push-clause-puts g c honest start s files groups stored held is_open has holds b =
    let old = c.args.store.now in
    let new = c.write_whole.new.store in
    let before = c.args.removed.now in
    let done = c.in_ok-group in
    refused (λ o. Puts g.D.Disk.state start old new s files groups held c.args.remains before before o) c.from_residual-in_err-push.result Memory c.from_residual-in_err-push.ensures.1
    (put_poor g.D.Disk.state start old s is_open files groups has c.args.remains stored held b before before new done.ensures.counts (ap (λ (x : Core g.row.D.Denot). x.jobs) done.ensures.same) done.group
    (done.ensures.writes honest (counted s old.next_group) stored held has.wrote.shows is_open holds b.are))

pub returns-clause-puts : goal.returns-clause-puts
returns-clause-puts g c honest start s files groups stored held is_open has holds b =
    let old = c.args.store.now in
    let new = c.write_whole.new.store in
    let before = c.args.removed.now in
    let done = c.in_ok-group in
    let many = c.len.ensures.counted stored holds.held in
    let come = ap handles_view c.in_ok-push.ensures.items ∙ ap (λ (hs : List (Rc CodeGroup Global)). handles_view (hs ++ done.group ∷ [])) c.new-come.ensures.items in
    put_one g.D.Disk.state start old s is_open files groups has c.args.remains stored held b before c.add_change-2.new.removed new done.ensures.counts (ap (λ (x : Core g.row.D.Denot). x.jobs) done.ensures.same) done.group
    (done.ensures.writes honest (counted s old.next_group) stored held has.wrote.shows is_open holds b.are) (omega (arith, many, c.if-len-eq0.false)) (handles_view c.push.new.self.items) come
    c.add_change-2.result (c.add_change-2.ensures.changed, c.add_change-2.ensures.counted, c.add_change-2.ensures.which)

-- with a change more the table can have all that comes, if it can have what the change brings
one_change : (root : Root) (before after : List Change) (number : ℕ) (come : List FileGroup) (o : Result (Unit {0}) Refusal) → OnOk o (after ≡ before ++ record { number = number; come = come } ∷ []) → CanHave root come
    → OnOk o (CanHave root (brought before) → CanHave root (brought after))
one_change root before after number come (Ok x) is can = λ were.
    let P = IsGroup root.keys (stored_of root) in
    subst (λ (cs : List Change). CanHave root (brought cs)) (sym is) (each_brought P before (record { number = number; come = come } ∷ []) were (all_append P come [] can tt))
one_change root before after number come (Err e) is can = tt

pub returns-then-len-eq0-clause-fit : goal.returns-then-len-eq0-clause-fit
returns-then-len-eq0-clause-fit g c =
    let root = root_of c.args.store.now.manifest in
    one_change root (changes_view c.args.removed.now.changes.items) (changes_view c.add_change.new.removed.changes.items) c.args.remains.number (handles_view c.new.result.items) c.add_change.result c.add_change.ensures.changed
    (subst (λ (gs : List FileGroup). CanHave root gs) (sym (ap handles_view c.new.ensures.items)) tt)

pub returns-clause-fit : goal.returns-clause-fit
returns-clause-fit g c =
    let root = root_of c.args.store.now.manifest in
    let done = c.in_ok-group in
    let come = ap handles_view c.in_ok-push.ensures.items ∙ ap (λ (hs : List (Rc CodeGroup Global)). handles_view (hs ++ done.group ∷ [])) c.new-come.ensures.items in
    one_change root (changes_view c.args.removed.now.changes.items) (changes_view c.add_change-2.new.removed.changes.items) c.args.remains.number (handles_view c.push.new.self.items) c.add_change-2.result c.add_change-2.ensures.changed
    (subst (λ (gs : List FileGroup). CanHave root gs) (sym come) (done.ensures.is, tt))
