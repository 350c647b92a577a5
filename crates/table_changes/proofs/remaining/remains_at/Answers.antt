use Rattle.std.proofs.Common.{◌≡◌, List, Some, sym, subst}
use Rattle.std.specs.Prelude.{IfOk}
use Rattle.std.specs.List.{slice_get}
use Rattle.filter.specs.Test.{tests_in}
use Rattle.manifest.specs.Groups.{Group as FileGroup, group_view, root_of, groups_in}
use Rattle.scan.specs.Absent.{CanHoldNone}
use Rattle.table_reads.specs.Counting.{IsHeld, LacksIn}
use Rattle.table_changes.specs.Removing.{AreRemains}
use Rattle.table_reads.proofs.GroupsAtPlaces.{found, not_found}
use Rattle.table_changes.proofs.remaining.remains_at.Goals as goal

pub returns-in-Some-clause-stands : goal.returns-in-Some-clause-stands
returns-in-Some-clause-stands g c honest f held there h =
    let root = root_of c.args.table.now in
    let at = subst (λ (gs : List FileGroup). slice_get gs c.args.place ≡ Some f) (sym c.groups.ensures.are) there in
    let same = found c.group_at.result c.in-Some.group (λ x. group_view x.now) (slice_get (groups_in c.groups.result.now) c.args.place) f c.in-Some.is c.group_at.ensures at in
    subst (λ (x : FileGroup). IfOk c.remains_of.result (λ r. AreRemains (tests_in c.args.filter.now) root x held r)) same
    (c.remains_of.ensures.stands honest held (subst (λ (x : FileGroup). IsHeld (g.D.Disk.state c.args.vault.now.disk) (tests_in c.args.filter.now) root x held) (sym same) h))

pub returns-in-Some-clause-only : goal.returns-in-Some-clause-only
returns-in-Some-clause-only g c honest f held there h =
    let root = root_of c.args.table.now in
    let at = subst (λ (gs : List FileGroup). slice_get gs c.args.place ≡ Some f) (sym c.groups.ensures.are) there in
    let same = found c.group_at.result c.in-Some.group (λ x. group_view x.now) (slice_get (groups_in c.groups.result.now) c.args.place) f c.in-Some.is c.group_at.ensures at in
    c.remains_of.ensures.only honest held (subst (λ (x : FileGroup). IsHeld (g.D.Disk.state c.args.vault.now.disk) (tests_in c.args.filter.now) root x held) (sym same) h)

pub returns-in-None-clause-only : goal.returns-in-None-clause-only
returns-in-None-clause-only g c honest f held there h =
    let at = subst (λ (gs : List FileGroup). slice_get gs c.args.place ≡ Some f) (sym c.groups.ensures.are) there in
    absurd (not_found c.group_at.result (λ x. group_view x.now) (slice_get (groups_in c.groups.result.now) c.args.place) f c.in-None.is c.group_at.ensures at)

pub returns-in-Some-clause-absent : goal.returns-in-Some-clause-absent
returns-in-Some-clause-absent g c honest can f there lacks =
    let root = root_of c.args.table.now in
    let tests = tests_in c.args.filter.now in
    let at = subst (λ (gs : List FileGroup). slice_get gs c.args.place ≡ Some f) (sym c.groups.ensures.are) there in
    let same = found c.group_at.result c.in-Some.group (λ x. group_view x.now) (slice_get (groups_in c.groups.result.now) c.args.place) f c.in-Some.is c.group_at.ensures at in
    subst (λ (x : FileGroup). IfOk c.remains_of.result (λ r. (r.gone ≡ 0) × CanHoldNone tests root.keys root.schema x)) same
    (c.remains_of.ensures.absent honest can (subst (λ (x : FileGroup). LacksIn (g.D.Disk.state c.args.vault.now.disk) root x) (sym same) lacks))
