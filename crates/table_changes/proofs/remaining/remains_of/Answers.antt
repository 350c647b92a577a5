use Rattle.std.proofs.Common.{List, Option, Result, Ok, Err, refl, sym, ◌∙◌, ap, subst}
use Rattle.bits.specs.declared.refusal.Refusal.{Refusal}
use Rattle.bits.specs.Refusals.{RefusedOnly, HasCause}
use Rattle.schema.specs.Keys.{KeyColumn, AreKeys, key_columns_view, places_of}
use Rattle.schema.specs.Law.{IsSchema}
use Rattle.schema.specs.Shape.{Fields}
use Rattle.schema.specs.Views.{field_views}
use Rattle.vault.proofs.Chained.{refused}
use Rattle.filter.specs.Test.{tests_in}
use Rattle.manifest.specs.Groups.{group_view, root_of}
use Rattle.scan.specs.declared.group_rows.GroupRows.{GroupRows}
use Rattle.scan.specs.Absent.{Lacks, CanHoldNone, MayLack}
use Rattle.scan.specs.Faults.{IsDevice}
use Rattle.scan.specs.Selected.{IsOver}
use Rattle.scan.specs.Left.{AreReadFor, AreOthersFor, AreAccepted}
use Rattle.table_changes.specs.declared.remaining.Remains.{Remains}
use Rattle.table_reads.specs.Reading.{OnlyReads}
use Rattle.table_commits.specs.Showing.{places_besides}
use Rattle.table_commits.proofs.GroupRemovals.{memory_only}
use Rattle.table_reads.proofs.ReadsOfPassedGroups.{reading_here, reading_of, reading_ends, reading_poor}
use Rattle.table_reads.proofs.GroupsAtPlaces.{all_same}
use Rattle.table_changes.proofs.AbsentParts.{none_goes, never_read}
use Rattle.table_changes.proofs.GroupsJudged.{none_selected, none_ends, some_ends, over_lent, keyed_lent, holds_lent, reads_so, device_too, sure_so}
use Rattle.table_changes.proofs.remaining.remains_of.Goals as goal

pub returns-in_err-places-clause-only : goal.returns-in_err-places-clause-only
returns-in_err-places-clause-only g c honest held h =
    refused (λ (r : Result Remains Refusal). RefusedOnly IsDevice r) c.from_residual.result c.in_err-places.field-0.0 c.from_residual.ensures.1
    (subst (λ (e : Refusal). HasCause IsDevice e) (sym (memory_only c.in_err-places.field-0.0 c.in_err-places.ensures.which)) tt)

pub returns-in_err-places-clause-effect : goal.returns-in_err-places-clause-effect
returns-in_err-places-clause-effect g c =
    let old = g.D.Disk.state c.args.vault.now.disk in
    refused (λ (r : Result Remains Refusal). OnlyReads old old r) c.from_residual.result c.in_err-places.field-0.0 c.from_residual.ensures.1
    (subst (λ (e : Refusal). OnlyReads {T = Remains} old old (Err e)) (sym (memory_only c.in_err-places.field-0.0 c.in_err-places.ensures.which)) (reading_poor Remains old old (reading_here old)))

pub returns-in_err-read-clause-only : goal.returns-in_err-read-clause-only
returns-in_err-read-clause-only g c honest held h =
    let disk = g.D.Disk.state c.args.vault.now.disk in
    let tests = tests_in c.args.filter.now in
    let root = root_of c.args.table.now in
    let f = group_view c.args.group.now in
    let keys = key_columns_view c.keys-2.result.now in
    let fs = c.schema-3.result.now in
    refused (λ (r : Result Remains Refusal). RefusedOnly IsDevice r) c.from_residual-in_err-read.result c.in_err-read.field-0.0 c.from_residual-in_err-read.ensures.1
    (c.in_err-read.ensures.only honest (keyed_lent disk tests root f held h keys fs c.keys-2.ensures.are c.schema-3.ensures) held.rows (holds_lent disk tests root f held h keys fs c.keys-2.ensures.are c.schema-3.ensures))

pub returns-in_err-read-clause-effect : goal.returns-in_err-read-clause-effect
returns-in_err-read-clause-effect g c =
    let old = g.D.Disk.state c.args.vault.now.disk in
    let new = g.D.Disk.state c.read.new.vault.disk in
    let e = c.in_err-read.field-0.0 in
    let e_only = c.in_err-read.ensures in
    let effect : OnlyReads {T = Option GroupRows} old new (Err e) = record { which = e_only.which; unchanged = e_only.unchanged; counts = e_only.counts; honest = e_only.honest } in
    refused (λ (r : Result Remains Refusal). OnlyReads old new r) c.from_residual-in_err-read.result e c.from_residual-in_err-read.ensures.1 (reading_ends old old new e (reading_here old) effect)

pub returns-in-None-clause-stands : goal.returns-in-None-clause-stands
returns-in-None-clause-stands g c honest held h =
    let disk = g.D.Disk.state c.args.vault.now.disk in
    let tests = tests_in c.args.filter.now in
    let root = root_of c.args.table.now in
    let f = group_view c.args.group.now in
    let keys = key_columns_view c.keys-2.result.now in
    let fs = c.schema-3.result.now in
    let places = c.as_slice.result.now in
    let read = subst (AreReadFor tests places held.rows) c.in-None.is
    (c.in_ok-read.ensures.stands honest (over_lent disk tests root f held h keys fs c.keys-2.ensures.are c.schema-3.ensures) (keyed_lent disk tests root f held h keys fs c.keys-2.ensures.are c.schema-3.ensures)
    held.rows (holds_lent disk tests root f held h keys fs c.keys-2.ensures.are c.schema-3.ensures)) in
    none_ends tests root f held c.all_remain.result c.all_remain.ensures.number c.all_remain.ensures.key c.all_remain.ensures.gone (none_selected tests places held.rows read)

pub returns-in-None-clause-only : goal.returns-in-None-clause-only
returns-in-None-clause-only g c honest held h = device_too Remains c.all_remain.result c.all_remain.ensures.which

pub returns-in-None-clause-effect : goal.returns-in-None-clause-effect
returns-in-None-clause-effect g c =
    let old = g.D.Disk.state c.args.vault.now.disk in
    let new = g.D.Disk.state c.read.new.vault.disk in
    let done = c.in_ok-read.ensures in
    let effect : OnlyReads {T = Option GroupRows} old new (Ok c.in_ok-read.field-0) = record { which = tt; unchanged = done.unchanged; counts = done.counts; honest = done.honest } in
    reads_so Remains old new (reading_of old new c.in_ok-read.field-0 effect) c.all_remain.result c.all_remain.ensures.which

pub returns-clause-stands : goal.returns-clause-stands
returns-clause-stands g c honest held h =
    let disk = g.D.Disk.state c.args.vault.now.disk in
    let tests = tests_in c.args.filter.now in
    let root = root_of c.args.table.now in
    let f = group_view c.args.group.now in
    let keys = key_columns_view c.keys-2.result.now in
    let fs = c.schema-3.result.now in
    let places = c.as_slice.result.now in
    let over = over_lent disk tests root f held h keys fs c.keys-2.ensures.are c.schema-3.ensures in
    let keyed = keyed_lent disk tests root f held h keys fs c.keys-2.ensures.are c.schema-3.ensures in
    let holds = holds_lent disk tests root f held h keys fs c.keys-2.ensures.are c.schema-3.ensures in
    let read = subst (AreReadFor tests places held.rows) c.in-Some.is (c.in_ok-read.ensures.stands honest over keyed held.rows holds) in
    let others = subst (AreOthersFor tests places held.rows) c.in-Some.is (c.in_ok-read.ensures.others honest over keyed held.rows holds) in
    let all = c.as_slice.ensures.value ∙ c.in_ok-places.ensures.made ∙ ap (λ (ks : List KeyColumn). places_besides (places_of ks) 0 (field_views c.fields.result.now)) c.keys.ensures.are
    ∙ ap (λ (gs : Fields). places_besides (places_of root.keys) 0 gs) (c.fields.ensures ∙ c.schema.ensures) in
    let made = c.others_remain.ensures in
    some_ends tests root f held disk h places c.in-Some.rows all read others c.others_remain.result made.number made.key made.gone made.rest

pub returns-clause-only : goal.returns-clause-only
returns-clause-only g c honest held h =
    let accepted = subst AreAccepted c.in-Some.is c.in_ok-read.ensures.accepted in
    device_too Remains c.others_remain.result (c.others_remain.ensures.only accepted.0 accepted.1)

pub returns-clause-sure : goal.returns-clause-sure
returns-clause-sure g c =
    let accepted = subst AreAccepted c.in-Some.is c.in_ok-read.ensures.accepted in
    sure_so Remains c.others_remain.result (c.others_remain.ensures.only accepted.0 accepted.1)

pub returns-clause-effect : goal.returns-clause-effect
returns-clause-effect g c =
    let old = g.D.Disk.state c.args.vault.now.disk in
    let new = g.D.Disk.state c.read.new.vault.disk in
    let done = c.in_ok-read.ensures in
    let accepted = subst AreAccepted c.in-Some.is done.accepted in
    let effect : OnlyReads {T = Option GroupRows} old new (Ok c.in_ok-read.field-0) = record { which = tt; unchanged = done.unchanged; counts = done.counts; honest = done.honest } in
    reads_so Remains old new (reading_of old new c.in_ok-read.field-0 effect) c.others_remain.result (c.others_remain.ensures.only accepted.0 accepted.1)

pub returns-in-None-clause-absent : goal.returns-in-None-clause-absent
returns-in-None-clause-absent g c honest can lacks =
    let disk = g.D.Disk.state c.args.vault.now.disk in
    let tests = tests_in c.args.filter.now in
    let root = root_of c.args.table.now in
    let f = group_view c.args.group.now in
    let places = c.as_slice.result.now in
    let may = all_same (λ ks fs x ps. IsOver tests fs → AreKeys ks fs → Lacks disk ks fs x → MayLack tests ks fs x ps c.in_ok-read.field-0)
    (key_columns_view c.keys-2.result.now) root.keys c.schema-3.result.now root.schema f f places places c.keys-2.ensures.are c.schema-3.ensures refl refl (λ o k l. c.in_ok-read.ensures.absent honest o k l) can.over can.keyed lacks in
    none_goes c.all_remain.result (CanHoldNone tests root.keys root.schema f) c.all_remain.ensures.gone (subst (MayLack tests root.keys root.schema f places) c.in-None.is may)

pub returns-clause-absent : goal.returns-clause-absent
returns-clause-absent g c honest can lacks =
    let disk = g.D.Disk.state c.args.vault.now.disk in
    let tests = tests_in c.args.filter.now in
    let root = root_of c.args.table.now in
    let f = group_view c.args.group.now in
    let all = c.as_slice.ensures.value ∙ c.in_ok-places.ensures.made ∙ ap (λ (ks : List KeyColumn). places_besides (places_of ks) 0 (field_views c.fields.result.now)) c.keys.ensures.are
    ∙ ap (λ (gs : Fields). places_besides (places_of root.keys) 0 gs) (c.fields.ensures ∙ c.schema.ensures) in
    let may = all_same (λ ks fs x ps. IsOver tests fs → AreKeys ks fs → Lacks disk ks fs x → MayLack tests ks fs x ps c.in_ok-read.field-0)
    (key_columns_view c.keys-2.result.now) root.keys c.schema-3.result.now root.schema f f c.as_slice.result.now (places_besides (places_of root.keys) 0 root.schema) c.keys-2.ensures.are c.schema-3.ensures refl all
    (λ o k l. c.in_ok-read.ensures.absent honest o k l) can.over can.keyed lacks in
    absurd (never_read disk tests root f c.in-Some.rows (subst IsSchema c.schema-2.ensures c.leaves.ensures.valid) can.keyed lacks (subst (MayLack tests root.keys root.schema f (places_besides (places_of root.keys) 0 root.schema)) c.in-Some.is may))
