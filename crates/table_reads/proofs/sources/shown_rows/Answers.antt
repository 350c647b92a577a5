use Rattle.std.proofs.Common.{◌≡◌, List, [], Option, Result, Err, refl, sym, ◌∙◌, ap, subst}
use Rattle.bits.specs.declared.refusal.Refusal.{Refusal}
use Rattle.bits.specs.Refusals.{RefusedOnly, HasCause}
use Rattle.schema.specs.Shape.{Fields}
use Rattle.schema.specs.Stripe.{leaves_of}
use Rattle.schema.specs.Views.{field_views}
use Rattle.schema.specs.Keys.{KeyColumn, AreKeys, key_columns_view, places_of}
use Rattle.schema.specs.Law.{IsSchema}
use Rattle.vault.proofs.Chained.{refused}
use Rattle.filter.specs.Test.{tests_in}
use Rattle.manifest.specs.Groups.{group_view, root_of}
use Rattle.scan.specs.declared.group_rows.GroupRows.{GroupRows}
use Rattle.scan.specs.Absent.{Lacks, MayLack}
use Rattle.scan.specs.Faults.{IsDevice}
use Rattle.scan.specs.Selected.{IsOver, Holds}
use Rattle.table_reads.specs.Reading.{OnlyReads}
use Rattle.table_commits.specs.Showing.{places_besides}
use Rattle.table_commits.proofs.GroupRemovals.{memory_only}
use Rattle.table_reads.proofs.ReadsOfPassedGroups.{reading_here, reading_poor}
use Rattle.table_reads.proofs.CountingGroups.{held_there}
use Rattle.table_reads.proofs.GroupsAtPlaces.{all_same}
use Rattle.table_reads.proofs.WholeRows.{no_tests, filter_poor}
use Rattle.table_reads.proofs.SourceRows.{shown_so, shown_never}
use Rattle.table_reads.proofs.sources.shown_rows.Goals as goal

pub returns-in_err-filter-clause-only : goal.returns-in_err-filter-clause-only
returns-in_err-filter-clause-only g c honest held h =
    refused (λ (r : Result (Option GroupRows) Refusal). RefusedOnly IsDevice r) c.from_residual.result c.in_err-filter.field-0.0 c.from_residual.ensures.1
    (subst (λ (e : Refusal). HasCause IsDevice e) (sym (filter_poor (leaves_of c.schema.result.now) [] refl c.in_err-filter.field-0.0 c.in_err-filter.ensures.which)) tt)

pub returns-in_err-filter-clause-effect : goal.returns-in_err-filter-clause-effect
returns-in_err-filter-clause-effect g c =
    let old = g.D.Disk.state c.args.vault.now.disk in
    refused (λ (r : Result (Option GroupRows) Refusal). OnlyReads old old r) c.from_residual.result c.in_err-filter.field-0.0 c.from_residual.ensures.1
    (subst (λ (e : Refusal). OnlyReads {T = Option GroupRows} old old (Err e)) (sym (filter_poor (leaves_of c.schema.result.now) [] refl c.in_err-filter.field-0.0 c.in_err-filter.ensures.which)) (reading_poor (Option GroupRows) old old (reading_here old)))

pub returns-in_err-places-clause-only : goal.returns-in_err-places-clause-only
returns-in_err-places-clause-only g c honest held h =
    refused (λ (r : Result (Option GroupRows) Refusal). RefusedOnly IsDevice r) c.from_residual-in_err-places.result c.in_err-places.field-0.0 c.from_residual-in_err-places.ensures.1
    (subst (λ (e : Refusal). HasCause IsDevice e) (sym (memory_only c.in_err-places.field-0.0 c.in_err-places.ensures.which)) tt)

pub returns-in_err-places-clause-effect : goal.returns-in_err-places-clause-effect
returns-in_err-places-clause-effect g c =
    let old = g.D.Disk.state c.args.vault.now.disk in
    refused (λ (r : Result (Option GroupRows) Refusal). OnlyReads old old r) c.from_residual-in_err-places.result c.in_err-places.field-0.0 c.from_residual-in_err-places.ensures.1
    (subst (λ (e : Refusal). OnlyReads {T = Option GroupRows} old old (Err e)) (sym (memory_only c.in_err-places.field-0.0 c.in_err-places.ensures.which)) (reading_poor (Option GroupRows) old old (reading_here old)))

pub returns-in_err-rows-clause-only : goal.returns-in_err-rows-clause-only
returns-in_err-rows-clause-only g c honest held h =
    let disk = g.D.Disk.state c.args.vault.now.disk in
    let root = root_of c.args.table.now in
    let f = group_view c.args.group.now in
    let keyed = subst (λ (ks : List KeyColumn). AreKeys ks c.schema-3.result.now) (sym c.keys-2.ensures.are) (subst (λ (fs : Fields). AreKeys root.keys fs) (sym c.schema-3.ensures) h.keyed) in
    let holds = subst (λ (ks : List KeyColumn). Holds disk ks c.schema-3.result.now f held.rows) (sym c.keys-2.ensures.are) (subst (λ (fs : Fields). Holds disk root.keys fs f held.rows) (sym c.schema-3.ensures) (held_there disk [] root f held h)) in
    refused (λ (r : Result (Option GroupRows) Refusal). RefusedOnly IsDevice r) c.from_residual-in_err-rows.result c.in_err-rows.field-0.0 c.from_residual-in_err-rows.ensures.1 (c.in_err-rows.ensures.only honest keyed held.rows holds)

pub returns-clause-stands : goal.returns-clause-stands
returns-clause-stands g c honest held h =
    let disk = g.D.Disk.state c.args.vault.now.disk in
    let root = root_of c.args.table.now in
    let f = group_view c.args.group.now in
    let tests = tests_in c.in_ok-filter.filter in
    let none : tests ≡ [] = no_tests (leaves_of c.schema.result.now) [] tests refl c.in_ok-filter.ensures.made in
    let over = subst (λ ts. IsOver ts c.schema-3.result.now) (sym none) ([], refl) in
    let keyed = subst (λ (ks : List KeyColumn). AreKeys ks c.schema-3.result.now) (sym c.keys-2.ensures.are) (subst (λ (fs : Fields). AreKeys root.keys fs) (sym c.schema-3.ensures) h.keyed) in
    let holds = subst (λ (ks : List KeyColumn). Holds disk ks c.schema-3.result.now f held.rows) (sym c.keys-2.ensures.are) (subst (λ (fs : Fields). Holds disk root.keys fs f held.rows) (sym c.schema-3.ensures) (held_there disk [] root f held h)) in
    let all = c.as_slice.ensures.value ∙ c.in_ok-places.ensures.made ∙ ap (λ (ks : List KeyColumn). places_besides (places_of ks) 0 (field_views c.fields.result.now)) c.keys.ensures.are
    ∙ ap (λ (gs : Fields). places_besides (places_of root.keys) 0 gs) (c.fields.ensures ∙ c.schema-2.ensures) in
    shown_so disk root f held tests c.as_slice.result.now c.in_ok-rows.rows none all h (c.in_ok-rows.ensures.stands honest over keyed held.rows holds)

pub returns-clause-absent : goal.returns-clause-absent
returns-clause-absent g c honest keyed lacks =
    let disk = g.D.Disk.state c.args.vault.now.disk in
    let root = root_of c.args.table.now in
    let f = group_view c.args.group.now in
    let tests = tests_in c.in_ok-filter.filter in
    let none : tests ≡ [] = no_tests (leaves_of c.schema.result.now) [] tests refl c.in_ok-filter.ensures.made in
    let all = c.as_slice.ensures.value ∙ c.in_ok-places.ensures.made ∙ ap (λ (ks : List KeyColumn). places_besides (places_of ks) 0 (field_views c.fields.result.now)) c.keys.ensures.are
    ∙ ap (λ (gs : Fields). places_besides (places_of root.keys) 0 gs) (c.fields.ensures ∙ c.schema-2.ensures) in
    let schema = subst IsSchema c.schema-4.ensures c.leaves.ensures.valid in
    let may = all_same (λ ks fs x ps. AreKeys ks fs → Lacks disk ks fs x → MayLack tests ks fs x ps c.in_ok-rows.rows)
    (key_columns_view c.keys-2.result.now) root.keys c.schema-3.result.now root.schema f f c.as_slice.result.now (places_besides (places_of root.keys) 0 root.schema) c.keys-2.ensures.are c.schema-3.ensures refl all
    (λ k l. c.in_ok-rows.ensures.absent honest (subst (λ ts. IsOver ts c.schema-3.result.now) (sym none) ([], refl)) k l) keyed lacks in
    shown_never disk root f tests c.in_ok-rows.rows none schema keyed lacks may
