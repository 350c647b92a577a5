use Rattle.std.proofs.Common.{◌∙◌, arith, map, length}
use Rattle.schema.specs.Views.{leaf_view}
use Rattle.schema.proofs.Ways.{push_way, tall_rest}
use Rattle.schema.proofs.leaves.+leaves.Goals as goal

pub push_each-loop-place-preserved : goal.push_each-loop-place-preserved
push_each-loop-place-preserved t c = record {
  all = push_way (map leaf_view c.loop-place.out.items) (map leaf_view c.push_leaves.new.out.items) c.args.path.now c.in_ok-down.down.items c.args.steps.now c.in_ok-steps.steps.items c.name.result.now c.repetition.result c.args.fields.now c.loop-place.place
      c.index-fields-place.result (omega arith) c.index-fields-place.is c.name.ensures c.repetition.ensures c.in_ok-down.ensures.path_is c.in_ok-steps.ensures.steps_are c.in_ok-push_leaves.ensures.adds
      ∙ c.loop-place.invariant.all;
  deep = tall_rest (length c.args.steps.now) c.args.fields.now c.loop-place.place c.index-fields-place.result (omega arith) c.index-fields-place.is c.loop-place.invariant.deep;
}
