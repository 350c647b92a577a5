use Rattle.std.proofs.Common.{ℕ, List, [], Result, refl, sym, ◌∙◌, subst}
use Rattle.bits.specs.declared.refusal.Refusal.{Refusal}
use Rattle.bits.specs.Refusals.{RefusedOnly}
use Rattle.schema.specs.Shape.{Fields}
use Rattle.schema.specs.Keys.{KeyColumn, AreKeys, key_columns_view}
use Rattle.vault.proofs.Chained.{refused}
use Rattle.filter.specs.Test.{tests_in}
use Rattle.manifest.specs.Groups.{group_view, root_of}
use Rattle.scan.specs.Absent.{Lacks, NeedsNoFile}
use Rattle.scan.specs.Faults.{IsDevice}
use Rattle.scan.specs.Left.{AreReadFor}
use Rattle.scan.specs.Selected.{IsOver, Holds}
use Rattle.table_reads.proofs.CountingGroups.{held_there, selected_count, read_spared}
use Rattle.table_reads.proofs.GroupsAtPlaces.{all_same}
use Rattle.table_reads.proofs.counting.count_at.Goals as goal

pub returns-in_err-found-clause-only : goal.returns-in_err-found-clause-only
returns-in_err-found-clause-only g c honest held h =
    let disk = g.D.Disk.state c.args.vault.now.disk in
    let tests = tests_in c.args.filter.now in
    let root = root_of c.args.table.now in
    let f = group_view c.args.group.now in
    let keyed = subst (λ (ks : List KeyColumn). AreKeys ks c.schema.result.now) (sym c.keys.ensures.are) (subst (λ (fs : Fields). AreKeys root.keys fs) (sym c.schema.ensures) h.keyed) in
    let holds = subst (λ (ks : List KeyColumn). Holds disk ks c.schema.result.now f held.rows) (sym c.keys.ensures.are) (subst (λ (fs : Fields). Holds disk root.keys fs f held.rows) (sym c.schema.ensures) (held_there disk tests root f held h)) in
    refused (λ (r : Result ℕ Refusal). RefusedOnly IsDevice r) c.from_residual.result c.in_err-found.field-0.0 c.from_residual.ensures.1 (c.in_err-found.ensures.only honest keyed held.rows holds)

pub returns-in-None-clause-stands : goal.returns-in-None-clause-stands
returns-in-None-clause-stands g c honest held h =
    let disk = g.D.Disk.state c.args.vault.now.disk in
    let tests = tests_in c.args.filter.now in
    let root = root_of c.args.table.now in
    let f = group_view c.args.group.now in
    let over = subst (λ (fs : Fields). IsOver tests fs) (sym c.schema.ensures) h.over in
    let keyed = subst (λ (ks : List KeyColumn). AreKeys ks c.schema.result.now) (sym c.keys.ensures.are) (subst (λ (fs : Fields). AreKeys root.keys fs) (sym c.schema.ensures) h.keyed) in
    let holds = subst (λ (ks : List KeyColumn). Holds disk ks c.schema.result.now f held.rows) (sym c.keys.ensures.are) (subst (λ (fs : Fields). Holds disk root.keys fs f held.rows) (sym c.schema.ensures) (held_there disk tests root f held h)) in
    selected_count tests [] held [] (subst (AreReadFor tests [] held.rows) c.in-None.is (c.in_ok-found.ensures.stands honest over keyed held.rows holds))

pub returns-in-Some-clause-stands : goal.returns-in-Some-clause-stands
returns-in-Some-clause-stands g c honest held h =
    let disk = g.D.Disk.state c.args.vault.now.disk in
    let tests = tests_in c.args.filter.now in
    let root = root_of c.args.table.now in
    let f = group_view c.args.group.now in
    let over = subst (λ (fs : Fields). IsOver tests fs) (sym c.schema.ensures) h.over in
    let keyed = subst (λ (ks : List KeyColumn). AreKeys ks c.schema.result.now) (sym c.keys.ensures.are) (subst (λ (fs : Fields). AreKeys root.keys fs) (sym c.schema.ensures) h.keyed) in
    let holds = subst (λ (ks : List KeyColumn). Holds disk ks c.schema.result.now f held.rows) (sym c.keys.ensures.are) (subst (λ (fs : Fields). Holds disk root.keys fs f held.rows) (sym c.schema.ensures) (held_there disk tests root f held h)) in
    let read = subst (AreReadFor tests [] held.rows) c.in-Some.is (c.in_ok-found.ensures.stands honest over keyed held.rows holds) in
    c.selected_count.ensures read.0 read.2 ∙ selected_count tests [] held read.0 read.1

pub returns-in-None-clause-absent : goal.returns-in-None-clause-absent
returns-in-None-clause-absent g c honest can lacks =
    let disk = g.D.Disk.state c.args.vault.now.disk in
    let tests = tests_in c.args.filter.now in
    let root = root_of c.args.table.now in
    let f = group_view c.args.group.now in
    all_same (λ ks fs x ps. IsOver tests fs → AreKeys ks fs → Lacks disk ks fs x → NeedsNoFile tests ks fs x ps) (key_columns_view c.keys.result.now) root.keys c.schema.result.now root.schema f f [] [] c.keys.ensures.are c.schema.ensures refl refl
    (λ o k l. read_spared tests (key_columns_view c.keys.result.now) c.schema.result.now f c.in_ok-found.found (c.in_ok-found.ensures.absent honest o k l)) can.over can.keyed lacks

pub returns-in-Some-clause-absent : goal.returns-in-Some-clause-absent
returns-in-Some-clause-absent g c honest can lacks =
    let disk = g.D.Disk.state c.args.vault.now.disk in
    let tests = tests_in c.args.filter.now in
    let root = root_of c.args.table.now in
    let f = group_view c.args.group.now in
    all_same (λ ks fs x ps. IsOver tests fs → AreKeys ks fs → Lacks disk ks fs x → NeedsNoFile tests ks fs x ps) (key_columns_view c.keys.result.now) root.keys c.schema.result.now root.schema f f [] [] c.keys.ensures.are c.schema.ensures refl refl
    (λ o k l. read_spared tests (key_columns_view c.keys.result.now) c.schema.result.now f c.in_ok-found.found (c.in_ok-found.ensures.absent honest o k l)) can.over can.keyed lacks
