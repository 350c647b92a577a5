use Rattle.std.proofs.Common.{rules, ◌≡◌, ◌+◌, ◌<◌, ◌≤◌, ◌^◌, ◌++◌, List, [], drop, length, map, refl, ap, sym, subst, ◌∙◌, arith, drop_of_length-le}
use Rattle.std.specs.Result.{IfErr}
use Rattle.schema.specs.Values.{ValueTree, no_values, view, views, group, each}
use Rattle.schema.specs.Views.{field_view, field_views}
use Rattle.schema.specs.Fits.{fits, fits_inside}
use Rattle.schema.specs.Shape.{repetition_of}
use Rattle.schema.specs.Stripe.{Entry, Leaf, leaves, stripe, stripe_as, later_items}
use Rattle.schema.specs.Reading.{tallest}
use Rattle.schema.proofs.Forest.{field_place}
use Rattle.schema.proofs.CutSteps.{next_count}
use Rattle.schema.proofs.Views.{fits_each-lengths}
use Rattle.shred.specs.Columns.{column_refs_view}
use Rattle.shred.specs.inner.Growing.{grown, nils, stripes_each, stripes_later, IsMisfit}
use Rattle.shred.proofs.Growing.{grown_whole, grown_same}
use Rattle.schema.proofs.OneLevel.{view_list}
use Rattle.shred.proofs.Turns.{field_given, member_is, fit_given, item_given, items_given, item_fits, list_fits}
use Rattle.shred.proofs.field.+push.Goals as goal

pub push_field-returns-in-List-clause-refused : goal.push_field-returns-in-List-clause-refused
push_field-returns-in-List-clause-refused t c =
    let f = field_view c.args.field.now in
    let repeated : repetition_of f ≡ _ = sym c.repetition.ensures ∙ c.in-Repeated.is in
    let same : each (fits_inside f) (views c.as_slice.result.now) ≡ fits f (view c.args.value.now) =
    ap (λ (vs : List _). each (fits_inside f) (views vs)) c.as_slice.ensures.value ∙ list_fits f repeated (views c.in-List.items.items) ∙ ap (fits f) (sym (ap view c.in-List.is ∙ view_list c.in-List.items)) in
    subst (λ b. IfErr c.push_items.result (IsMisfit b)) same c.push_items.ensures.refused

pub push_fields-returns-then-fields-values-clause-refused : goal.push_fields-returns-then-fields-values-clause-refused
push_fields-returns-then-fields-values-clause-refused t c = fits_each-lengths c.args.fields.now c.args.values.now c.if-fields-values.true

pub push_fields-loop-i-preserved : goal.push_fields-loop-i-preserved
push_fields-loop-i-preserved t c =
    let fs = c.args.fields.now in
    let vs = c.args.values.now in
    let i = c.loop-i.i in
    let f = c.index-fields-i.result in
    let v = c.index-values-i.result in
    let xs = c.loop-i.columns in
    let u = c.loop-i.used in
    let r = c.args.levels.repetition in
    let d = c.args.levels.definition in
    let k = c.args.levels.repeated in
    let g : Leaf → List Entry = λ (l : Leaf). stripe l.steps (group (views vs)) r d k in
    let h : Leaf → List Entry = λ (l : Leaf). stripe_as (repetition_of (field_view f)) (stripe l.steps) (view v) r d k in
    let next = next_count fs i f (omega arith) c.index-fields-i.is in
    let counts = c.loop-i.invariant.counts in
    let used = c.in_ok-used.ensures.used in
    let room : u ≤ length xs = omega arith in
    let deep = subst (λ gs. d + tallest gs < 2 ^ 32) (field_place fs i f (omega arith) c.index-fields-i.is) c.loop-i.invariant.deep in
    record {
      grown = field_given g h fs i f u c.in_ok-used.field-0 xs c.push_field.new.columns _ (omega arith) c.index-fields-i.is room c.loop-i.invariant.grown
          (ap (λ (w : ValueTree). map (λ (l : Leaf). stripe_as (repetition_of (field_view f)) (stripe l.steps) w r d k) (leaves (field_view f))) (member_is vs i v (omega arith) c.index-values-i.is))
          c.in_ok-used.ensures.grown used;
      fit = fit_given fs vs i f v (omega arith) (omega arith) c.index-fields-i.is c.index-values-i.is c.in_ok-used.ensures.fit ∙ c.loop-i.invariant.fit;
      counts = omega (arith, next, counts, used);
      deep = omega (arith, deep);
      size = search rules;
    }

pub push_fields-returns-clause-grown : goal.push_fields-returns-clause-grown
push_fields-returns-clause-grown t c =
    let fs = c.args.fields.now in
    let i = c.loop-i.i in
    let cs = column_refs_view c.loop-i.columns in
    let u = c.loop-i.used in
    let vs = views c.args.values.now in
    let none : drop i fs ≡ [] = drop_of_length-le fs {i = i} (omega arith) in
    sym (grown_whole u cs) ∙ subst (λ gs. grown cs (nils u ++ stripes_each i (field_views gs) vs c.args.levels) ≡ grown (column_refs_view c.args.columns.now) (stripes_each 0 (field_views fs) vs c.args.levels)) none c.loop-i.invariant.grown

pub push_items-loop-item-preserved : goal.push_items-loop-item-preserved
push_items-loop-item-preserved t c =
    let f = field_view c.args.field.now in
    let vs = c.in-Some.others.now in
    let i = c.loop-item.item-index in
    let v = c.item-item.result in
    let d = c.args.levels.definition + 1 in
    let k = c.args.levels.repeated + 1 in
    record {
      grown = item_given f vs i v d k (column_refs_view c.loop-item.columns) (column_refs_view c.push_inside-in-loop-item.new.columns) _ (omega arith) c.item-item.is c.loop-item.invariant.grown c.in_ok-push_inside-in-Some.ensures.grown;
      fit = item_fits (fits_inside f) vs i v (omega arith) c.item-item.is c.in_ok-push_inside-in-Some.ensures.fit ∙ c.loop-item.invariant.fit;
      size = search rules;
    }

pub push_items-returns-after-loop-item-clause-grown : goal.push_items-returns-after-loop-item-clause-grown
push_items-returns-after-loop-item-clause-grown t c =
    let f = field_view c.args.field.now in
    let others = c.in-Some.others.now in
    let cs = column_refs_view c.loop-item.columns in
    let d = c.args.levels.definition + 1 in
    let k = c.args.levels.repeated + 1 in
    let first = column_refs_view c.push_inside.new.columns in
    let none : drop c.loop-item.item-index others ≡ [] = drop_of_length-le others {i = c.loop-item.item-index} (omega arith) in
    let later : cs ≡ grown first (stripes_later f (views others) d k) =
    sym (grown_same (λ (l : Leaf). later_items (stripe l.steps) no_values d k) (leaves f) cs (λ l. refl))
    ∙ subst (λ vs. grown cs (stripes_later f (views vs) d k) ≡ grown first (stripes_later f (views others) d k)) none c.loop-item.invariant.grown in
    items_given f c.args.items.now others c.in-Some.first.now c.args.levels.repetition c.args.levels.definition c.args.levels.repeated (column_refs_view c.args.columns.now) first cs c.in-Some.ensures.cases.0 c.in_ok-used-in-Some.ensures.grown later
