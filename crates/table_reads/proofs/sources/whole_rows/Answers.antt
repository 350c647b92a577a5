use Rattle.std.proofs.Common.{◌≡◌, List, [], None, Result, Err, refl, sym, ◌∙◌, ap, subst}
use Rattle.std.specs.declared.vec.Vec.{Vec}
use Rattle.std.specs.declared.alloc.Global.{Global}
use Rattle.bits.specs.declared.refusal.Refusal.{Refusal}
use Rattle.bits.specs.Refusals.{RefusedOnly, HasCause}
use Rattle.schema.specs.declared.row.Row.{Row as CodeRow}
use Rattle.schema.specs.Shape.{Fields}
use Rattle.schema.specs.Stripe.{leaves_of}
use Rattle.schema.specs.Views.{rows_view}
use Rattle.schema.specs.Keys.{KeyColumn, AreKeys, key_columns_view}
use Rattle.schema.specs.Law.{IsSchema}
use Rattle.vault.proofs.Chained.{refused}
use Rattle.filter.specs.Test.{tests_in}
use Rattle.manifest.specs.Groups.{group_view, root_of}
use Rattle.scan.specs.Absent.{Lacks, MayLackRows}
use Rattle.scan.specs.Faults.{IsDevice}
use Rattle.scan.specs.Selected.{IsOver, Holds}
use Rattle.table_reads.specs.Reading.{OnlyReads}
use Rattle.table_commits.proofs.GroupRemovals.{memory_only}
use Rattle.table_reads.proofs.ReadsOfPassedGroups.{reading_here, reading_poor}
use Rattle.table_reads.proofs.CountingGroups.{held_there}
use Rattle.table_reads.proofs.GroupsAtPlaces.{all_same}
use Rattle.table_reads.proofs.WholeRows.{no_tests, filter_poor, whole_so, whole_never}
use Rattle.table.specs.Cursors.{wanted_places}
use Rattle.table_reads.proofs.sources.whole_rows.Goals as goal

pub returns-in_err-filter-clause-only : goal.returns-in_err-filter-clause-only
returns-in_err-filter-clause-only g c honest held h =
    refused (λ (r : Result (Vec CodeRow Global) Refusal). RefusedOnly IsDevice r) c.from_residual.result c.in_err-filter.field-0.0 c.from_residual.ensures.1
    (subst (λ (e : Refusal). HasCause IsDevice e) (sym (filter_poor (leaves_of c.schema.result.now) [] refl c.in_err-filter.field-0.0 c.in_err-filter.ensures.which)) tt)

pub returns-in_err-filter-clause-effect : goal.returns-in_err-filter-clause-effect
returns-in_err-filter-clause-effect g c =
    let old = g.D.Disk.state c.args.vault.now.disk in
    refused (λ (r : Result (Vec CodeRow Global) Refusal). OnlyReads old old r) c.from_residual.result c.in_err-filter.field-0.0 c.from_residual.ensures.1
    (subst (λ (e : Refusal). OnlyReads {T = Vec CodeRow Global} old old (Err e)) (sym (filter_poor (leaves_of c.schema.result.now) [] refl c.in_err-filter.field-0.0 c.in_err-filter.ensures.which)) (reading_poor (Vec CodeRow Global) old old (reading_here old)))

pub returns-in_err-places-clause-only : goal.returns-in_err-places-clause-only
returns-in_err-places-clause-only g c honest held h =
    refused (λ (r : Result (Vec CodeRow Global) Refusal). RefusedOnly IsDevice r) c.from_residual-in_err-places.result c.in_err-places.field-0.0 c.from_residual-in_err-places.ensures.1
    (subst (λ (e : Refusal). HasCause IsDevice e) (sym (memory_only c.in_err-places.field-0.0 c.in_err-places.ensures.which)) tt)

pub returns-in_err-places-clause-effect : goal.returns-in_err-places-clause-effect
returns-in_err-places-clause-effect g c =
    let old = g.D.Disk.state c.args.vault.now.disk in
    refused (λ (r : Result (Vec CodeRow Global) Refusal). OnlyReads old old r) c.from_residual-in_err-places.result c.in_err-places.field-0.0 c.from_residual-in_err-places.ensures.1
    (subst (λ (e : Refusal). OnlyReads {T = Vec CodeRow Global} old old (Err e)) (sym (memory_only c.in_err-places.field-0.0 c.in_err-places.ensures.which)) (reading_poor (Vec CodeRow Global) old old (reading_here old)))

pub returns-in_err-rows-clause-only : goal.returns-in_err-rows-clause-only
returns-in_err-rows-clause-only g c honest held h =
    let disk = g.D.Disk.state c.args.vault.now.disk in
    let root = root_of c.args.table.now in
    let f = group_view c.args.group.now in
    let keyed = subst (λ (ks : List KeyColumn). AreKeys ks c.schema-3.result.now) (sym c.keys.ensures.are) (subst (λ (fs : Fields). AreKeys root.keys fs) (sym c.schema-3.ensures) h.keyed) in
    let holds = subst (λ (ks : List KeyColumn). Holds disk ks c.schema-3.result.now f held.rows) (sym c.keys.ensures.are) (subst (λ (fs : Fields). Holds disk root.keys fs f held.rows) (sym c.schema-3.ensures) (held_there disk [] root f held h)) in
    refused (λ (r : Result (Vec CodeRow Global) Refusal). RefusedOnly IsDevice r) c.from_residual-in_err-rows.result c.in_err-rows.field-0.0 c.from_residual-in_err-rows.ensures.1 (c.in_err-rows.ensures.only honest keyed held.rows holds)

pub returns-clause-stands : goal.returns-clause-stands
returns-clause-stands g c honest held h =
    let disk = g.D.Disk.state c.args.vault.now.disk in
    let root = root_of c.args.table.now in
    let f = group_view c.args.group.now in
    let tests = tests_in c.in_ok-filter.filter in
    let none : tests ≡ [] = no_tests (leaves_of c.schema.result.now) [] tests refl c.in_ok-filter.ensures.made in
    let over = subst (λ ts. IsOver ts c.schema-3.result.now) (sym none) ([], refl) in
    let keyed = subst (λ (ks : List KeyColumn). AreKeys ks c.schema-3.result.now) (sym c.keys.ensures.are) (subst (λ (fs : Fields). AreKeys root.keys fs) (sym c.schema-3.ensures) h.keyed) in
    let holds = subst (λ (ks : List KeyColumn). Holds disk ks c.schema-3.result.now f held.rows) (sym c.keys.ensures.are) (subst (λ (fs : Fields). Holds disk root.keys fs f held.rows) (sym c.schema-3.ensures) (held_there disk [] root f held h)) in
    let all = c.as_slice.ensures.value ∙ c.in_ok-places.ensures.made ∙ ap (λ (fs : Fields). wanted_places None 0 fs) c.schema-2.ensures in
    whole_so disk root f held tests c.as_slice.result.now (rows_view c.in_ok-rows.rows.items) none all h (c.in_ok-rows.ensures.stands honest over keyed held.rows holds)

pub returns-clause-absent : goal.returns-clause-absent
returns-clause-absent g c honest keyed lacks =
    let disk = g.D.Disk.state c.args.vault.now.disk in
    let root = root_of c.args.table.now in
    let f = group_view c.args.group.now in
    let tests = tests_in c.in_ok-filter.filter in
    let none : tests ≡ [] = no_tests (leaves_of c.schema.result.now) [] tests refl c.in_ok-filter.ensures.made in
    let all = c.as_slice.ensures.value ∙ c.in_ok-places.ensures.made ∙ ap (λ (fs : Fields). wanted_places None 0 fs) c.schema-2.ensures in
    let schema = subst IsSchema c.schema-4.ensures c.leaves.ensures.valid in
    let may = all_same (λ ks fs x ps. AreKeys ks fs → Lacks disk ks fs x → MayLackRows tests ks fs x ps (rows_view c.in_ok-rows.rows.items))
    (key_columns_view c.keys.result.now) root.keys c.schema-3.result.now root.schema f f c.as_slice.result.now (wanted_places None 0 root.schema) c.keys.ensures.are c.schema-3.ensures refl all
    (λ k l. c.in_ok-rows.ensures.absent honest (subst (λ ts. IsOver ts c.schema-3.result.now) (sym none) ([], refl)) k l) keyed lacks in
    whole_never disk root f tests (rows_view c.in_ok-rows.rows.items) none schema keyed lacks may
