use Rattle.std.proofs.Common.{Some, ◌∙◌, ap, arith}
use Rattle.manifest.specs.declared.group.Group.{Group as CodeGroup}
use Rattle.manifest.specs.Groups.{group_view}
use Rattle.table_reads.proofs.SourcePlaces.{source_here, source_later}
use Rattle.table_reads.proofs.sources.source_at.Goals as goal

pub returns-then-left-groups : goal.returns-then-left-groups
returns-then-left-groups c =
    ap (λ (x : CodeGroup). Some (group_view x)) c.deref.ensures
    ∙ source_here c.args.runs.now c.loop-run.run-index c.run-item.result c.loop-run-test.true c.run-item.is c.as_slice-groups.result.now c.as_slice-groups.ensures.value c.loop-run.left c.index-groups-left.result (omega (arith, c.if-left-groups.true)) c.index-groups-left.is
    ∙ c.loop-run.invariant

pub loop-run-preserved : goal.loop-run-preserved
loop-run-preserved c =
    source_later c.args.runs.now c.loop-run.run-index c.run-item.result c.loop-run-test.true c.run-item.is c.as_slice-groups.result.now c.as_slice-groups.ensures.value c.loop-run.left (omega (arith, c.if-left-groups.false))
    ∙ c.loop-run.invariant
