use Rattle.std.proofs.Common.{◌≡◌, ◌≤◌, ◌+◌, ℕ, List, map, Some, Result, Err, refl, ap, subst, arith}
use Rattle.std.specs.Prelude.{slice_get}
use Rattle.bits.specs.declared.refusal.Refusal.{Refusal}
use Rattle.bits.specs.Refusals.{RefusedOnly}
use Rattle.schema.specs.Keys.{row_without_keys}
use Rattle.disk.specs.State.{State as DiskState}
use Rattle.vault.proofs.Chained.{refused}
use Rattle.filter.specs.Test.{Test, tests_in}
use Rattle.filter.specs.Deciding.{satisfies as all_satisfied}
use Rattle.manifest.specs.Groups.{Group as FileGroup, Root, root_of}
use Rattle.scan.specs.Faults.{IsDevice}
use Rattle.table.specs.Table.{Group}
use Rattle.table_state.specs.declared.standing.Core.{Core}
use Rattle.table_changes.specs.declared.remaining.Remains.{Remains}
use Rattle.table_reads.specs.Counting.{IsHeld}
use Rattle.table_changes.specs.Removing.{AreRemains, Replaces, files_come, groups_come, not_those}
use Rattle.table_commits.specs.Keeping.{Unwritten}
use Rattle.table_changes.proofs.NothingWritten.{after_ok}
use Rattle.table_changes.proofs.ReplacingOneGroup.{has_read}
use Rattle.table_changes.proofs.GroupsReplaced.{at, held, is_buffer, stays_on, put_ends, read_stops}
use Rattle.table_changes.proofs.removing.replace_group.Goals as goal

-- the table that is read is the store's
module _ {D : Type 0} (state : D → DiskState) (old : Core D) (root : Root) (same : root ≡ root_of old.manifest) (tests : List (List Test)) (place : ℕ) (f : FileGroup) (g : Group) where
  remains_by : (r : Remains) → (slice_get root.groups place ≡ Some f → IsHeld (state old.vault.disk) tests root f g → AreRemains tests root f g r)
      → slice_get (root_of old.manifest).groups place ≡ Some f → IsHeld (state old.vault.disk) tests (root_of old.manifest) f g → AreRemains tests (root_of old.manifest) f g r
  remains_by r of = subst (λ (q : Root). slice_get q.groups place ≡ Some f → IsHeld (state old.vault.disk) tests q f g → AreRemains tests q f g r) same of

  only_by : (T : Type 0) (result : Result T Refusal) → (slice_get root.groups place ≡ Some f → IsHeld (state old.vault.disk) tests root f g → RefusedOnly IsDevice result)
      → slice_get (root_of old.manifest).groups place ≡ Some f → IsHeld (state old.vault.disk) tests (root_of old.manifest) f g → RefusedOnly IsDevice result
  only_by T result of = subst (λ (q : Root). slice_get q.groups place ≡ Some f → IsHeld (state old.vault.disk) tests q f g → RefusedOnly IsDevice result) same of

pub returns-in_err-remains-clause-replaces : goal.returns-in_err-remains-clause-replaces
returns-in_err-remains-clause-replaces g c honest start s terms same is_open made within r =
    let st = g.D.Disk.state in
    let old = c.args.store.now in
    let tests = tests_in c.args.filter.now in
    let place = c.args.place in
    let removed = c.args.removed.now in
    let vault = c.remains_at.new.vault in
    let failed = c.in_err-remains in
    let e = failed.field-0.0 in
    let here = at st start old s is_open tests place removed r within in
    refused (λ o. Replaces st start (record old { vault = vault }) s (all_satisfied tests) (place + 1) removed o) c.from_residual.result e c.from_residual.ensures.1
    (read_stops st start old s is_open tests place removed r vault Remains e failed.ensures.effect
    (only_by st old (root_of c.args.table.now) same tests place here.file here.group Remains (Err e) (failed.ensures.only honest here.file here.group) here.file_at (held st start old s is_open tests place removed r within terms made)) honest)

pub returns-then-remains-eq0-clause-replaces : goal.returns-then-remains-eq0-clause-replaces
returns-then-remains-eq0-clause-replaces g c honest start s terms same is_open made within r =
    let st = g.D.Disk.state in
    let old = c.args.store.now in
    let tests = tests_in c.args.filter.now in
    let place = c.args.place in
    let removed = c.args.removed.now in
    let vault = c.remains_at.new.vault in
    let done = c.in_ok-remains in
    let here = at st start old s is_open tests place removed r within in
    let are = remains_by st old (root_of c.args.table.now) same tests place here.file here.group done.remains (done.ensures.stands honest here.file here.group) here.file_at (held st start old s is_open tests place removed r within terms made) in
    stays_on st start old s is_open tests place removed r within done.remains are c.if-remains-eq0.true vault (done.ensures.effect.unchanged honest) done.ensures.effect.counts.later

pub returns-clause-replaces : goal.returns-clause-replaces
returns-clause-replaces g c honest start s terms same is_open made within r =
    let st = g.D.Disk.state in
    let old = c.args.store.now in
    let tests = tests_in c.args.filter.now in
    let place = c.args.place in
    let removed = c.args.removed.now in
    let vault = c.remains_at.new.vault in
    let done = c.in_ok-remains in
    let rest = done.remains in
    let here = at st start old s is_open tests place removed r within in
    let are = remains_by st old (root_of c.args.table.now) same tests place here.file here.group done.remains (done.ensures.stands honest here.file here.group) here.file_at (held st start old s is_open tests place removed r within terms made) in
    let some : 1 ≤ rest.gone = omega (arith, c.if-remains-eq0.false) in
    let mid = record old { vault = vault } in
    let new = c.put_remains.new.store in
    let has = has_read st start old s is_open vault (done.ensures.effect.unchanged honest) done.ensures.effect.counts.later _ (files_come r.outcomes) (groups_come r.outcomes) r.written in
    let left = not_those (all_satisfied tests) here.group.rows in
    let buffer = is_buffer st start old s is_open tests place removed r within rest are in
    let puts = c.put_remains.ensures.puts (done.ensures.effect.honest.0 honest) start s (files_come r.outcomes) (groups_come r.outcomes) (map (row_without_keys (root_of old.manifest).keys) left) left is_open has (are.rest some) buffer in
    put_ends st start old s is_open tests place removed r within rest are mid new c.put_remains.new.removed some refl
    (ap (λ (x : Core g.row.D.Denot). root_of x.manifest) c.put_remains.ensures.same) c.put_remains.result puts

pub returns-then-remains-eq0-clause-unwritten : goal.returns-then-remains-eq0-clause-unwritten
returns-then-remains-eq0-clause-unwritten g c none = record { leaves = c.in_ok-remains.ensures.effect.unchanged; same = refl }

pub returns-clause-rises : goal.returns-clause-rises
returns-clause-rises g c =
    let before = c.args.removed.now.count in
    let after = c.put_remains.new.removed.count in
    after_ok c.put_remains.result (after ≡ before + c.in_ok-remains.remains.gone) (before ≤ after) (λ is. omega (arith, is)) c.put_remains.ensures.counted

pub returns-clause-unwritten : goal.returns-clause-unwritten
returns-clause-unwritten g c =
    let before = c.args.removed.now.count in
    let after = c.put_remains.new.removed.count in
    let some = c.if-remains-eq0.false in
    after_ok c.put_remains.result (after ≡ before + c.in_ok-remains.remains.gone) (after ≡ 0 → Unwritten g.D.Disk.state c.args.store.now c.put_remains.new.store)
    (λ is none. absurd (omega (arith, is, none, some))) c.put_remains.ensures.counted

pub returns-then-remains-eq0-clause-absent : goal.returns-then-remains-eq0-clause-absent
returns-then-remains-eq0-clause-absent g c honest can f there lacks = (c.in_ok-remains.ensures.absent honest can f there lacks).1

pub returns-clause-absent : goal.returns-clause-absent
returns-clause-absent g c honest can f there lacks = absurd (c.if-remains-eq0.false (c.in_ok-remains.ensures.absent honest can f there lacks).0)
