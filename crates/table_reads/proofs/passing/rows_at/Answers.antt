use Rattle.std.proofs.Common.{Some, List}
use Rattle.std.specs.Prelude.{IfOk}
use Rattle.bits.specs.Refusals.{RefusedOnly}
use Rattle.schema.specs.Keys.{AreKeys, key_columns_view}
use Rattle.schema.specs.Values.{ValueTrees}
use Rattle.filter.specs.Test.{tests_in}
use Rattle.manifest.specs.Groups.{group_view, root_of}
use Rattle.scan.specs.Absent.{Lacks, MayLack}
use Rattle.scan.specs.Faults.{IsDevice}
use Rattle.scan.specs.Selected.{IsOver, Holds, AreSelected}
use Rattle.snapshots.specs.State.{group_in, version_at}
use Rattle.snapshots.specs.Views.{state_of}
use Rattle.table_reads.specs.Passing.{AreReached}
use Rattle.table_reads.specs.Reading.{ReadsFor}
use Rattle.table_reads.proofs.GroupsAtPlaces.{found, not_found, is_missing, all_same}
use Rattle.table_reads.proofs.ShownRows.{reached_selected, reached_accepted}
use Rattle.table_reads.proofs.passing.rows_at.Goals as goal

pub returns-in-Some-clause-stands : goal.returns-in-Some-clause-stands
returns-in-Some-clause-stands g c honest over are f rows there holds =
    let root = root_of c.args.cursor.now.table in
    all_same (λ ks fs x ps. IsOver (tests_in c.args.cursor.now.filter) fs → AreKeys ks fs → Holds (g.D.Disk.state c.args.vault.now.disk) ks fs x rows → IfOk c.read.result (λ read. (out : List ValueTrees) → AreReached read out → AreSelected (tests_in c.args.cursor.now.filter) ps rows out))
    (key_columns_view c.keys.result.now) root.keys c.schema.result.now root.schema (group_view c.in-Some.group.now) f c.as_slice.result.now c.args.cursor.now.places.items c.keys.ensures.are c.schema.ensures
    (found c.group_at.result c.in-Some.group (λ x. group_view x.now) (group_in (version_at (state_of c.args.snapshots.now) (Some c.args.cursor.now.number)) c.args.place) f c.in-Some.is c.group_at.ensures there) c.as_slice.ensures.value
    (λ o k z. reached_selected c.held_rows_are_one.ensures (tests_in c.args.cursor.now.filter) c.as_slice.result.now rows c.read.result (c.read.ensures.stands honest o k rows z)) over are holds

pub returns-in-Some-clause-only : goal.returns-in-Some-clause-only
returns-in-Some-clause-only g c honest are f rows there holds =
    let root = root_of c.args.cursor.now.table in
    all_same (λ ks fs x ps. AreKeys ks fs → Holds (g.D.Disk.state c.args.vault.now.disk) ks fs x rows → RefusedOnly IsDevice c.read.result)
    (key_columns_view c.keys.result.now) root.keys c.schema.result.now root.schema (group_view c.in-Some.group.now) f c.as_slice.result.now c.args.cursor.now.places.items c.keys.ensures.are c.schema.ensures
    (found c.group_at.result c.in-Some.group (λ x. group_view x.now) (group_in (version_at (state_of c.args.snapshots.now) (Some c.args.cursor.now.number)) c.args.place) f c.in-Some.is c.group_at.ensures there) c.as_slice.ensures.value
    (λ k z. c.read.ensures.only honest k rows z) are holds

pub returns-in-Some-clause-absent : goal.returns-in-Some-clause-absent
returns-in-Some-clause-absent g c honest can f there lacks =
    let root = root_of c.args.cursor.now.table in
    all_same (λ ks fs x ps. IsOver (tests_in c.args.cursor.now.filter) fs → AreKeys ks fs → Lacks (g.D.Disk.state c.args.vault.now.disk) ks fs x → IfOk c.read.result (MayLack (tests_in c.args.cursor.now.filter) ks fs x ps))
    (key_columns_view c.keys.result.now) root.keys c.schema.result.now root.schema (group_view c.in-Some.group.now) f c.as_slice.result.now c.args.cursor.now.places.items c.keys.ensures.are c.schema.ensures
    (found c.group_at.result c.in-Some.group (λ x. group_view x.now) (group_in (version_at (state_of c.args.snapshots.now) (Some c.args.cursor.now.number)) c.args.place) f c.in-Some.is c.group_at.ensures there) c.as_slice.ensures.value
    (λ o k l. c.read.ensures.absent honest o k l) can.over can.keyed lacks

pub returns-in-Some-clause-reads : goal.returns-in-Some-clause-reads
returns-in-Some-clause-reads g c f there =
    let root = root_of c.args.cursor.now.table in
    all_same (λ ks fs x ps. ReadsFor (tests_in c.args.cursor.now.filter) ks fs ps x (g.D.Disk.state c.args.vault.now.disk) (g.D.Disk.state c.read.new.vault.disk))
    (key_columns_view c.keys.result.now) root.keys c.schema.result.now root.schema (group_view c.in-Some.group.now) f c.as_slice.result.now c.args.cursor.now.places.items c.keys.ensures.are c.schema.ensures
    (found c.group_at.result c.in-Some.group (λ x. group_view x.now) (group_in (version_at (state_of c.args.snapshots.now) (Some c.args.cursor.now.number)) c.args.place) f c.in-Some.is c.group_at.ensures there) c.as_slice.ensures.value
    (record { no_more = c.read.ensures.cost; no_less = c.read.ensures.reads; none = λ r. c.read.ensures.unread r })

pub returns-in-Some-clause-missing : goal.returns-in-Some-clause-missing
returns-in-Some-clause-missing g c none = absurd (is_missing c.group_at.result c.in-Some.group (λ x. group_view x.now) (group_in (version_at (state_of c.args.snapshots.now) (Some c.args.cursor.now.number)) c.args.place) c.in-Some.is c.group_at.ensures none)

pub returns-in-None-clause-stands : goal.returns-in-None-clause-stands
returns-in-None-clause-stands g c honest over are f rows there holds = tt

pub returns-in-None-clause-absent : goal.returns-in-None-clause-absent
returns-in-None-clause-absent g c honest can f there lacks = tt

pub returns-in-None-clause-only : goal.returns-in-None-clause-only
returns-in-None-clause-only g c honest are f rows there holds = absurd (not_found c.group_at.result (λ x. group_view x.now) (group_in (version_at (state_of c.args.snapshots.now) (Some c.args.cursor.now.number)) c.args.place) f c.in-None.is c.group_at.ensures there)

pub returns-in-None-clause-reads : goal.returns-in-None-clause-reads
returns-in-None-clause-reads g c f there = absurd (not_found c.group_at.result (λ x. group_view x.now) (group_in (version_at (state_of c.args.snapshots.now) (Some c.args.cursor.now.number)) c.args.place) f c.in-None.is c.group_at.ensures there)

pub returns-in-Some-clause-accepted : goal.returns-in-Some-clause-accepted
returns-in-Some-clause-accepted g c = reached_accepted c.read.result c.read.ensures.accepted

pub returns-in-None-clause-accepted : goal.returns-in-None-clause-accepted
returns-in-None-clause-accepted g c = tt
