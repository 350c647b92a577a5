use Rattle.std.proofs.Common.{List, map, subst}
use Rattle.bits.specs.Refusals.{IsFault}
use Rattle.bits.proofs.Passing.{passes}
use Rattle.schema.specs.Values.{ValueTrees}
use Rattle.schema.specs.Shape.{Fields}
use Rattle.schema.specs.Elements.{elements_view}
use Rattle.schema.specs.Listing.{IsSchemaOf, IsTooLarge}
use Rattle.schema.specs.Faults.{HasFault as HasSchemaFault}
use Rattle.footer.specs.Left.{GroupsHold}
use Rattle.metadata.specs.Views.{file_meta_view, group_meta_view}
use Rattle.footer.specs.File.{GroupsMean, FileMeans}
use Rattle.footer.specs.Faults.{HasGroupsFault, HasFault}
use Rattle.footer.proofs.Meaning.{no_schema, no_rows, seen, of_groups, of_schema, not_over}
use Rattle.footer.proofs.GroupRows.{hold_means, none_over, mean_holds}
use Rattle.footer.proofs.file_reader.FileReader.new.Goals as goal

pub returns-in_err-front-clause-only : goal.returns-in_err-front-clause-only
returns-in_err-front-clause-only c =
    passes (λ e. IsFault e → (fs : Fields) (rows : List ValueTrees) → FileMeans c.args.bytes.now fs rows → ⊥) c.from_residual.result c.in_err-front.field-0.0 c.from_residual.ensures.1
    (λ fault fs rows p. c.in_err-front.ensures.only fault p.front p.meta p.file)

pub returns-in_err-schema-clause-only : goal.returns-in_err-schema-clause-only
returns-in_err-schema-clause-only c =
    passes (λ e. IsFault e → (fs : Fields) (rows : List ValueTrees) → FileMeans c.args.bytes.now fs rows → ⊥) c.from_residual-in_err-schema.result c.in_err-schema.field-0.0 c.from_residual-in_err-schema.ensures.1
    (λ fault. no_schema c.args.bytes.now c.in_ok-front.front.now (file_meta_view c.in_ok-front.record) c.in_ok-front.ensures.alone (subst (λ xs. (fs : Fields) → IsSchemaOf (elements_view xs) fs → ⊥) c.as_slice.ensures.value (c.in_err-schema.ensures.only fault)))

pub returns-in_err-schema-clause-which : goal.returns-in_err-schema-clause-which
returns-in_err-schema-clause-which c =
    passes (HasFault c.args.bytes.now) c.from_residual-in_err-schema.result c.in_err-schema.field-0.0 c.from_residual-in_err-schema.ensures.1
    (of_schema c.args.bytes.now c.in_ok-front.front.now (file_meta_view c.in_ok-front.record) c.in_ok-front.ensures.stands c.in_err-schema.field-0.0 (subst (λ xs. HasSchemaFault (elements_view xs) c.in_err-schema.field-0.0) c.as_slice.ensures.value c.in_err-schema.ensures.which))

pub returns-in_err-check_groups-clause-only : goal.returns-in_err-check_groups-clause-only
returns-in_err-check_groups-clause-only c =
    passes (λ e. IsFault e → (fs : Fields) (rows : List ValueTrees) → FileMeans c.args.bytes.now fs rows → ⊥) c.from_residual-in_err-check_groups.result c.in_err-check_groups.field-0.0 c.from_residual-in_err-check_groups.ensures.1
    (λ fault. no_rows c.args.bytes.now c.in_ok-front.front.now (file_meta_view c.in_ok-front.record) c.in_ok-schema.schema c.in_ok-front.ensures.alone c.a_list_means_one_schema.ensures (subst (λ xs. IsSchemaOf (elements_view xs) c.in_ok-schema.schema) c.as_slice.ensures.value c.in_ok-schema.ensures.stands) (subst (λ gs. (rows : List ValueTrees) → GroupsMean c.in_ok-front.front.now c.in_ok-schema.schema (map group_meta_view gs) rows → ⊥) c.as_slice-2.ensures.value (c.in_err-check_groups.ensures.only fault)))

pub returns-in_err-check_groups-clause-which : goal.returns-in_err-check_groups-clause-which
returns-in_err-check_groups-clause-which c =
    passes (HasFault c.args.bytes.now) c.from_residual-in_err-check_groups.result c.in_err-check_groups.field-0.0 c.from_residual-in_err-check_groups.ensures.1
    (of_groups c.args.bytes.now c.in_ok-front.front.now (file_meta_view c.in_ok-front.record) c.in_ok-schema.schema c.in_ok-front.ensures.stands (subst (λ xs. IsSchemaOf (elements_view xs) c.in_ok-schema.schema) c.as_slice.ensures.value c.in_ok-schema.ensures.stands) c.in_err-check_groups.field-0.0 (subst (λ gs. HasGroupsFault c.in_ok-front.front.now c.in_ok-schema.schema (map group_meta_view gs) c.in_err-check_groups.field-0.0) c.as_slice-2.ensures.value c.in_err-check_groups.ensures.which))

pub returns-clause-stands : goal.returns-clause-stands
returns-clause-stands c =
    let front = c.in_ok-front.front.now in
    let fs = c.in_ok-schema.schema in
    let held : (rows : List ValueTrees) × GroupsHold front fs (map group_meta_view c.in_ok-front.record.row_groups.items) rows =
    subst (λ gs. (rows : List ValueTrees) × GroupsHold front fs (map group_meta_view gs) rows) c.as_slice-2.ensures.value c.in_ok-check_groups.ensures.stands in (
      held.0,
      record {
        front = front;
        meta = file_meta_view c.in_ok-front.record;
        file = c.in_ok-front.ensures.stands;
        schema = subst (λ xs. IsSchemaOf (elements_view xs) fs) c.as_slice.ensures.value c.in_ok-schema.ensures.stands;
        held = hold_means front fs (map group_meta_view c.in_ok-front.record.row_groups.items) held.0 held.1;
      },
      held.1,
    )

pub returns-clause-alone : goal.returns-clause-alone
returns-clause-alone c = λ gs rows p.
    let front = c.in_ok-front.front.now in
    let fs = c.in_ok-schema.schema in
    let held : (rows : List ValueTrees) × GroupsHold front fs (map group_meta_view c.in_ok-front.record.row_groups.items) rows =
    subst (λ gs. (rows : List ValueTrees) × GroupsHold front fs (map group_meta_view gs) rows) c.as_slice-2.ensures.value c.in_ok-check_groups.ensures.stands in
    let same = seen c.args.bytes.now front (file_meta_view c.in_ok-front.record) fs c.in_ok-front.ensures.alone c.a_list_means_one_schema.ensures
    (subst (λ xs. IsSchemaOf (elements_view xs) fs) c.as_slice.ensures.value c.in_ok-schema.ensures.stands) gs rows p in
    (same.0, mean_holds front fs (map group_meta_view c.in_ok-front.record.row_groups.items) held.0 rows held.1 same.1)

pub returns-clause-within_limits : goal.returns-clause-within_limits
returns-clause-within_limits c =
    let front = c.in_ok-front.front.now in
    let fs = c.in_ok-schema.schema in
    let held : (rows : List ValueTrees) × GroupsHold front fs (map group_meta_view c.in_ok-front.record.row_groups.items) rows =
    subst (λ gs. (rows : List ValueTrees) × GroupsHold front fs (map group_meta_view gs) rows) c.as_slice-2.ensures.value c.in_ok-check_groups.ensures.stands in
    not_over c.args.bytes.now front (file_meta_view c.in_ok-front.record) fs c.in_ok-front.ensures.alone c.a_list_means_one_schema.ensures
    (subst (λ xs. IsSchemaOf (elements_view xs) fs) c.as_slice.ensures.value c.in_ok-schema.ensures.stands) c.in_ok-front.ensures.within_limits
    (subst (λ xs. IsTooLarge (elements_view xs) → ⊥) c.as_slice.ensures.value c.in_ok-schema.ensures.within_limits)
    (none_over front fs (map group_meta_view c.in_ok-front.record.row_groups.items) held.0 held.1)
