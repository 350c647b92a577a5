use Rattle.std.proofs.Common.{List, [], map, refl, sym, subst, Err, ap}
use Rattle.std.proofs.Math.ListN.{drop_of_length-le}
use Rattle.std.proofs.lemmas.Bool.{false≢true}
use Rattle.lists.proofs.Slices.{contains_mapped as among}
use Rattle.bits.proofs.Passing.{passes}
use Rattle.bits.specs.Refusals.{IsFault}
use Rattle.schema.specs.Values.{ValueTrees}
use Rattle.metadata.specs.Views.{group_meta_view}
use Rattle.footer.specs.File.{GroupsMean}
use Rattle.footer.specs.Faults.{HasGroupsFault}
use Rattle.footer.specs.Left.{GroupsHold}
use Rattle.footer.proofs.GroupRows.{faulty, has_rows, one_more}
use Rattle.footer.proofs.groups.check_groups.Goals as goal

pub returns-then-not-lies_here-clause-only : goal.returns-then-not-lies_here-clause-only
returns-then-not-lies_here-clause-only c = λ fault rows p.
    let found = among group_meta_view c.args.groups.now c.loop-group.group-index c.group-item.result c.loop-group-test.true c.group-item.is in
    let lies = has_rows c.args.front.now c.args.schema.now (map group_meta_view c.args.groups.now) rows p (group_meta_view c.group-item.result) found in
    false≢true (c.if-not-lies_here.ensures.1 lies.0)

pub returns-in_err-check_group-clause-only : goal.returns-in_err-check_group-clause-only
returns-in_err-check_group-clause-only c =
    let gs = map group_meta_view c.args.groups.now in
    let found = among group_meta_view c.args.groups.now c.loop-group.group-index c.group-item.result c.loop-group-test.true c.group-item.is in
    passes (λ e. IsFault e → (rows : List ValueTrees) → GroupsMean c.args.front.now c.args.schema.now gs rows → ⊥) c.from_residual.result c.in_err-check_group.field-0.0 c.from_residual.ensures.1
    (λ fault rows p.
    let group = has_rows c.args.front.now c.args.schema.now gs rows p (group_meta_view c.group-item.result) found in
    c.in_err-check_group.ensures.only fault group.1.0 group.1.1)

pub returns-in_err-check_group-clause-which : goal.returns-in_err-check_group-clause-which
returns-in_err-check_group-clause-which c =
    let gs = map group_meta_view c.args.groups.now in
    let found = among group_meta_view c.args.groups.now c.loop-group.group-index c.group-item.result c.loop-group-test.true c.group-item.is in
    passes (HasGroupsFault c.args.front.now c.args.schema.now gs) c.from_residual.result c.in_err-check_group.field-0.0 c.from_residual.ensures.1
    (faulty c.args.front.now c.args.schema.now (group_meta_view c.group-item.result) gs c.in_err-check_group.field-0.0 found
    (λ is. c.in_err-check_group.ensures.limit (ap Err is)) (λ is. c.in_err-check_group.ensures.codec (ap Err is)) c.in_err-check_group.ensures.which)

pub loop-group-preserved : goal.loop-group-preserved
loop-group-preserved c = record {
  hold = λ rest held.
      let more = one_more group_meta_view c.args.front.now c.args.schema.now c.args.groups.now c.loop-group.group-index c.group-item.result c.loop-group-test.true c.group-item.is
      (c.if-not-lies_here.ensures.0 refl) c.in_ok-check_group.ensures.stands rest held in
      c.loop-group.invariant.hold more.0 more.1;
}

pub returns-clause-stands : goal.returns-clause-stands
returns-clause-stands c =
    c.loop-group.invariant.hold []
    (subst (λ t. GroupsHold c.args.front.now c.args.schema.now (map group_meta_view t) []) (sym (drop_of_length-le c.args.groups.now c.loop-group-test.false)) refl)
