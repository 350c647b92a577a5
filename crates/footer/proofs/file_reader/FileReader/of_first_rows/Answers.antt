use Rattle.std.proofs.Common.{List, map, sym, subst}
use Rattle.std.specs.Prelude.{Contains}
use Rattle.bits.specs.Refusals.{IsFault}
use Rattle.bits.proofs.Passing.{passes}
use Rattle.schema.specs.Values.{ValueTrees}
use Rattle.schema.specs.Shape.{Fields}
use Rattle.schema.specs.Elements.{elements_view}
use Rattle.schema.specs.Listing.{IsSchemaOf, IsTooLarge}
use Rattle.schema.specs.Faults.{HasFault as HasSchemaFault}
use Rattle.metadata.specs.Records.{GroupMeta}
use Rattle.metadata.specs.Views.{file_meta_view, group_meta_view}
use Rattle.row_group.specs.Limits.{IsGroupOver}
use Rattle.footer.specs.File.{GroupsMean}
use Rattle.footer.specs.Faults.{HasGroupsFault}
use Rattle.footer.specs.FirstRows.{MeansFirstRows, HasFirstFault}
use Rattle.footer.specs.Left.{GroupsHold}
use Rattle.footer.proofs.FirstRows.{no_first_schema, no_first_rows, first_seen, of_first_groups, of_first_schema, of_footer, first_not_over}
use Rattle.footer.proofs.GroupRows.{hold_means, none_over, mean_holds}
use Rattle.footer.proofs.file_reader.FileReader.of_first_rows.Goals as goal

pub returns-in_err-front-clause-only : goal.returns-in_err-front-clause-only
returns-in_err-front-clause-only c =
    passes (λ e. IsFault e → (fs : Fields) (rows : List ValueTrees) → MeansFirstRows c.args.count c.args.bytes.now fs rows → ⊥) c.from_residual.result c.in_err-front.field-0.0 c.from_residual.ensures.1
    (λ fault fs rows p. c.in_err-front.ensures.only fault p.front p.meta p.file)

pub returns-in_err-front-clause-which : goal.returns-in_err-front-clause-which
returns-in_err-front-clause-which c =
    passes (HasFirstFault c.args.count c.args.bytes.now) c.from_residual.result c.in_err-front.field-0.0 c.from_residual.ensures.1
    (of_footer c.args.count c.args.bytes.now c.in_err-front.field-0.0 c.in_err-front.ensures.which)

pub returns-in_err-schema-clause-only : goal.returns-in_err-schema-clause-only
returns-in_err-schema-clause-only c =
    passes (λ e. IsFault e → (fs : Fields) (rows : List ValueTrees) → MeansFirstRows c.args.count c.args.bytes.now fs rows → ⊥) c.from_residual-in_err-schema.result c.in_err-schema.field-0.0 c.from_residual-in_err-schema.ensures.1
    (λ fault. no_first_schema c.args.count c.args.bytes.now c.in_ok-front.front.now (file_meta_view c.in_ok-front.record) c.in_ok-front.ensures.alone (subst (λ xs. (fs : Fields) → IsSchemaOf (elements_view xs) fs → ⊥) c.as_slice.ensures.value (c.in_err-schema.ensures.only fault)))

pub returns-in_err-schema-clause-which : goal.returns-in_err-schema-clause-which
returns-in_err-schema-clause-which c =
    passes (HasFirstFault c.args.count c.args.bytes.now) c.from_residual-in_err-schema.result c.in_err-schema.field-0.0 c.from_residual-in_err-schema.ensures.1
    (of_first_schema c.args.count c.args.bytes.now c.in_ok-front.front.now (file_meta_view c.in_ok-front.record) c.in_ok-front.ensures.stands c.in_err-schema.field-0.0 (subst (λ xs. HasSchemaFault (elements_view xs) c.in_err-schema.field-0.0) c.as_slice.ensures.value c.in_err-schema.ensures.which))

pub returns-in_err-check_groups-clause-only : goal.returns-in_err-check_groups-clause-only
returns-in_err-check_groups-clause-only c =
    let front = c.in_ok-front.front.now in
    let fs = c.in_ok-schema.schema in
    passes (λ e. IsFault e → (fs : Fields) (rows : List ValueTrees) → MeansFirstRows c.args.count c.args.bytes.now fs rows → ⊥) c.from_residual-in_err-check_groups.result c.in_err-check_groups.field-0.0 c.from_residual-in_err-check_groups.ensures.1
    (λ fault. no_first_rows c.args.count c.args.bytes.now front (file_meta_view c.in_ok-front.record) fs c.in_ok-front.ensures.alone c.a_list_means_one_schema.ensures (subst (λ xs. IsSchemaOf (elements_view xs) fs) c.as_slice.ensures.value c.in_ok-schema.ensures.stands)
    (subst (λ gs. (rows : List ValueTrees) → GroupsMean front fs gs rows → ⊥) c.first_groups-groups.ensures
    (subst (λ gs. (rows : List ValueTrees) → GroupsMean front fs (map group_meta_view gs) rows → ⊥) c.as_slice-2.ensures.value (c.in_err-check_groups.ensures.only fault))))

pub returns-in_err-check_groups-clause-which : goal.returns-in_err-check_groups-clause-which
returns-in_err-check_groups-clause-which c =
    let front = c.in_ok-front.front.now in
    let fs = c.in_ok-schema.schema in
    let e = c.in_err-check_groups.field-0.0 in
    passes (HasFirstFault c.args.count c.args.bytes.now) c.from_residual-in_err-check_groups.result e c.from_residual-in_err-check_groups.ensures.1
    (of_first_groups c.args.count c.args.bytes.now front (file_meta_view c.in_ok-front.record) fs c.in_ok-front.ensures.stands (subst (λ xs. IsSchemaOf (elements_view xs) fs) c.as_slice.ensures.value c.in_ok-schema.ensures.stands) e
    (subst (λ gs. HasGroupsFault front fs gs e) c.first_groups-groups.ensures (subst (λ gs. HasGroupsFault front fs (map group_meta_view gs) e) c.as_slice-2.ensures.value c.in_err-check_groups.ensures.which)))

pub returns-clause-stands : goal.returns-clause-stands
returns-clause-stands c =
    let front = c.in_ok-front.front.now in
    let fs = c.in_ok-schema.schema in
    let first = map group_meta_view c.first_groups-groups.result.items in
    let held : (rows : List ValueTrees) × GroupsHold front fs first rows =
    subst (λ gs. (rows : List ValueTrees) × GroupsHold front fs (map group_meta_view gs) rows) c.as_slice-2.ensures.value c.in_ok-check_groups.ensures.stands in (
      held.0,
      record {
        front = front;
        meta = file_meta_view c.in_ok-front.record;
        file = c.in_ok-front.ensures.stands;
        schema = subst (λ xs. IsSchemaOf (elements_view xs) fs) c.as_slice.ensures.value c.in_ok-schema.ensures.stands;
        held = subst (λ gs. GroupsMean front fs gs held.0) c.first_groups-groups.ensures (hold_means front fs first held.0 held.1);
      },
      held.1,
    )

pub returns-clause-alone : goal.returns-clause-alone
returns-clause-alone c = λ gs rows p.
    let front = c.in_ok-front.front.now in
    let fs = c.in_ok-schema.schema in
    let first = map group_meta_view c.first_groups-groups.result.items in
    let held : (rows : List ValueTrees) × GroupsHold front fs first rows =
    subst (λ gs. (rows : List ValueTrees) × GroupsHold front fs (map group_meta_view gs) rows) c.as_slice-2.ensures.value c.in_ok-check_groups.ensures.stands in
    let same = first_seen c.args.count c.args.bytes.now front (file_meta_view c.in_ok-front.record) fs c.in_ok-front.ensures.alone c.a_list_means_one_schema.ensures
    (subst (λ xs. IsSchemaOf (elements_view xs) fs) c.as_slice.ensures.value c.in_ok-schema.ensures.stands) gs rows p in
    (same.0, mean_holds front fs first held.0 rows held.1 (subst (λ gs. GroupsMean front fs gs rows) (sym c.first_groups-groups.ensures) same.1))

pub returns-clause-within_limits : goal.returns-clause-within_limits
returns-clause-within_limits c =
    let front = c.in_ok-front.front.now in
    let fs = c.in_ok-schema.schema in
    let first = map group_meta_view c.first_groups-groups.result.items in
    let held : (rows : List ValueTrees) × GroupsHold front fs first rows =
    subst (λ gs. (rows : List ValueTrees) × GroupsHold front fs (map group_meta_view gs) rows) c.as_slice-2.ensures.value c.in_ok-check_groups.ensures.stands in
    first_not_over c.args.count c.args.bytes.now front (file_meta_view c.in_ok-front.record) fs c.in_ok-front.ensures.alone c.a_list_means_one_schema.ensures
    (subst (λ xs. IsSchemaOf (elements_view xs) fs) c.as_slice.ensures.value c.in_ok-schema.ensures.stands) c.in_ok-front.ensures.within_limits
    (subst (λ xs. IsTooLarge (elements_view xs) → ⊥) c.as_slice.ensures.value c.in_ok-schema.ensures.within_limits)
    (subst (λ gs. (g : GroupMeta) → Contains gs g → IsGroupOver front fs g → ⊥) c.first_groups-groups.ensures (none_over front fs first held.0 held.1))
