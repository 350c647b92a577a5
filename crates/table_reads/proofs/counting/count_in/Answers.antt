use Rattle.std.proofs.Common.{◌≡◌, ◌+◌, ℕ, List, [], ◌∷◌, ◌++◌, drop, Result, Err, sym, ◌∙◌, ap}
use Rattle.bits.specs.declared.refusal.Refusal.{Refusal}
use Rattle.bits.specs.Refusals.{RefusedOnly, HasCause}
use Rattle.vault.proofs.Chained.{refused}
use Rattle.filter.specs.Test.{tests_in}
use Rattle.std.specs.Rc.{rc_value}
use Rattle.std.specs.declared.rc.Rc.{Rc}
use Rattle.std.specs.declared.alloc.Global.{Global}
use Rattle.lists.proofs.Slices.{drop_past as drop_all}
use Rattle.manifest.specs.declared.group.Group.{Group as CodeGroup}
use Rattle.manifest.specs.Groups.{Group as FileGroup, group_view, handles_view, root_of}
use Rattle.table_reads.specs.Counting.{matching}
use Rattle.table_reads.proofs.CountingGroups.{split_so, tally_on, tally_done, spared_done, one_held, from_one}
use Rattle.scan.specs.Faults.{IsDevice}
use Rattle.table.specs.Table.{Group}
use Rattle.table_reads.specs.Reading.{OnlyReads}
use Rattle.table_reads.proofs.ReadsOfPassedGroups.{reading_ends, reading_on, reading_poor}
use Rattle.table_commits.proofs.GroupRemovals.{memory_so}
use Rattle.table_reads.proofs.counting.count_in.Goals as goal

pub returns-in_err-here-clause-only : goal.returns-in_err-here-clause-only
returns-in_err-here-clause-only g c honest held h =
    let old = g.D.Disk.state c.args.vault.now.disk in
    let mid = g.D.Disk.state c.loop-group.vault.disk in
    let tests = tests_in c.args.filter.now in
    let root = root_of c.args.table.now in
    let so_far = c.loop-group.invariant in
    let i = c.loop-group.group-index in
    let f = group_view c.deref.result.now in
    let are = from_one (λ (x : Rc CodeGroup Global). group_view (rc_value x)) c.args.groups.now i c.group-item.result c.loop-group-test.true c.group-item.is
    ∙ ap (λ (x : FileGroup). (x ∷ []) ++ handles_view (drop (i + 1) c.args.groups.now)) (sym (ap group_view c.deref.ensures)) in
    let split = split_so tests root old (handles_view c.args.groups.now) mid _ c.loop-group.found so_far (group_view c.deref.result.now ∷ []) _ are honest held h in
    refused (λ (r : Result ℕ Refusal). RefusedOnly IsDevice r) c.from_residual.result c.in_err-here.field-0.0 c.from_residual.ensures.1
    (one_held mid tests root f (λ (gs : List Group). HasCause IsDevice c.in_err-here.field-0.0) (λ x k. c.in_err-here.ensures.only (so_far.read.honest.0 honest) x k) split.0 split.2)

pub returns-in_err-here-clause-effect : goal.returns-in_err-here-clause-effect
returns-in_err-here-clause-effect g c =
    let old = g.D.Disk.state c.args.vault.now.disk in
    let mid = g.D.Disk.state c.loop-group.vault.disk in
    let new = g.D.Disk.state c.count_at.new.vault.disk in
    refused (λ (r : Result ℕ Refusal). OnlyReads old new r) c.from_residual.result c.in_err-here.field-0.0 c.from_residual.ensures.1
    (reading_ends old mid new c.in_err-here.field-0.0 c.loop-group.invariant.read c.in_err-here.ensures.effect)

pub returns-in_err-found-clause-effect : goal.returns-in_err-found-clause-effect
returns-in_err-found-clause-effect g c =
    let old = g.D.Disk.state c.args.vault.now.disk in
    let mid = g.D.Disk.state c.loop-group.vault.disk in
    let new = g.D.Disk.state c.count_at.new.vault.disk in
    refused (λ (r : Result ℕ Refusal). OnlyReads old new r) c.from_residual-in_err-found.result c.in_err-found.field-0.0 c.from_residual-in_err-found.ensures.1
    (memory_so c.in_err-found.field-0.0 c.in_err-found.ensures.which (λ (e : Refusal). OnlyReads {T = ℕ} old new (Err e)) (reading_poor ℕ old new (reading_on old mid new c.in_ok-here.here c.loop-group.invariant.read c.in_ok-here.ensures.effect)))

pub loop-group-preserved : goal.loop-group-preserved
loop-group-preserved g c =
    let old = g.D.Disk.state c.args.vault.now.disk in
    let mid = g.D.Disk.state c.loop-group.vault.disk in
    let new = g.D.Disk.state c.count_at.new.vault.disk in
    let tests = tests_in c.args.filter.now in
    let root = root_of c.args.table.now in
    let so_far = c.loop-group.invariant in
    let i = c.loop-group.group-index in
    let f = group_view c.deref.result.now in
    let are = from_one (λ (x : Rc CodeGroup Global). group_view (rc_value x)) c.args.groups.now i c.group-item.result c.loop-group-test.true c.group-item.is
    ∙ ap (λ (x : FileGroup). (x ∷ []) ++ handles_view (drop (i + 1) c.args.groups.now)) (sym (ap group_view c.deref.ensures)) in
    tally_on tests root old (handles_view c.args.groups.now) mid _ c.loop-group.found so_far (group_view c.deref.result.now ∷ []) _ are new c.in_ok-here.here c.in_ok-found.found c.in_ok-here.here c.in_ok-here.ensures.effect
    (λ fine gs k. one_held mid tests root f (λ (xs : List Group). c.in_ok-here.here ≡ matching tests xs) (λ x y. c.in_ok-here.ensures.stands fine x y) gs k)
    (λ fine can. ((λ lacks. c.in_ok-here.ensures.absent fine can lacks), tt))
    c.in_ok-found.ensures.summed

pub returns-clause-stands : goal.returns-clause-stands
returns-clause-stands g c honest held h =
    let old = g.D.Disk.state c.args.vault.now.disk in
    let mid = g.D.Disk.state c.loop-group.vault.disk in
    let tests = tests_in c.args.filter.now in
    let root = root_of c.args.table.now in
    let so_far = c.loop-group.invariant in
    let i = c.loop-group.group-index in
    tally_done tests root old (handles_view c.args.groups.now) mid _ c.loop-group.found so_far (ap handles_view (drop_all c.args.groups.now i c.loop-group-test.false)) honest held h

pub returns-clause-absent : goal.returns-clause-absent
returns-clause-absent g c honest can =
    let old = g.D.Disk.state c.args.vault.now.disk in
    let mid = g.D.Disk.state c.loop-group.vault.disk in
    let tests = tests_in c.args.filter.now in
    let root = root_of c.args.table.now in
    spared_done tests root old (handles_view c.args.groups.now) mid _ c.loop-group.found c.loop-group.invariant (ap handles_view (drop_all c.args.groups.now c.loop-group.group-index c.loop-group-test.false)) honest can
