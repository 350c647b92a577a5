use Rattle.std.proofs.Common.{◌∙◌, arith, option_map}
use Rattle.schema.specs.Cutting.{is_marked}
use Rattle.schema.specs.Views.{field_view, field_views}
use Rattle.schema.proofs.CutSteps.{push_step, next_count, all_done}
use Rattle.schema.proofs.cutting.+cutting.Goals as goal

pub cut_each-loop-field-preserved : goal.cut_each-loop-field-preserved
cut_each-loop-field-preserved t c =
    let n = next_count c.args.fields.now c.loop-field.field-index c.field-item.result (omega arith) c.field-item.is in
    let all = c.loop-field.invariant.count in
    let on = c.in_ok-field.ensures.behind in
    record {
      all = push_step (is_marked c.args.wanted.now) c.loop-field.next c.in_ok-field.behind c.args.fields.now c.loop-field.field-index c.field-item.result (option_map field_view c.in_ok-field.field)
          (field_views c.loop-field.out.items) (field_views c.push_kept.new.out.items) (omega arith) c.field-item.is c.in_ok-field.ensures.cut_is on c.in_ok-push_kept.ensures.adds
          ∙ c.loop-field.invariant.all;
      count = omega (arith, n, all, on);
    }

pub cut_each-returns-clause-fields_are : goal.cut_each-returns-clause-fields_are
cut_each-returns-clause-fields_are t c = all_done (is_marked c.args.wanted.now) c.loop-field.next c.args.fields.now c.loop-field.field-index (field_views c.loop-field.out.items) _ c.loop-field-test.false c.loop-field.invariant.all
