use Rattle.std.proofs.Common.{◌≡◌, ◌∙◌, ap, sym, subst, arith, length}
use Rattle.std.specs.Prelude.{IfOk}
use Rattle.lists.proofs.Lists.{length_map as length-each}
use Rattle.schema.specs.Shape.{Fields}
use Rattle.schema.specs.Law.{IsSchema, IsWithinLimits}
use Rattle.schema.specs.Reading.{tallest, count_leaves_each}
use Rattle.schema.specs.Cutting.{ArePlaces, IsCutTo, cut_to, is_among}
use Rattle.schema.specs.Views.{field_views, leaf_view}
use Rattle.schema.proofs.Marks.{cut_by_marks}
use Rattle.schema.proofs.CutSteps.{counts_are, places_there, ok_more}
use Rattle.schema.proofs.CutFits.{cut_schema, cut_within, each_cut_short}
use Rattle.schema.proofs.schema.Schema.cut.Goals as goal

pub cut_each-requires : goal.cut_each-requires
cut_each-requires c =
    let n = counts_are 0 (field_views c.self.inside.fields.items) in
    let size = sym (length-each leaf_view c.self.inside.leaves.items) ∙ ap length c.self.invariant.2 in
    let marks = ap length c.as_slice.ensures.value ∙ c.in_ok-wanted.ensures.marked.size in
    let same = ap (λ xs. count_leaves_each (field_views xs)) c.as_slice-2.ensures.value in
    record { few = omega (arith, n, size, marks, same, c.len.ensures) }

there : (c : goal.In_ok-fields) → ArePlaces (field_views c.self.inside.fields.items) c.args.places.now
there c = places_there (field_views c.self.inside.fields.items) c.self.inside.leaves.items c.len.result c.args.places.now c.self.invariant.2 (grind (arith, c.len.ensures)) (grind (arith, c.is_empty.ensures, c.if-is_empty.false)) (c.are_below.ensures.0 c.if-not-are_below.false)

made : (c : goal.In_ok-fields) → field_views c.in_ok-fields.fields.items ≡ cut_to c.args.places.now (field_views c.self.inside.fields.items)
made c = cut_by_marks c.args.places.now _ c.in_ok-wanted.wanted.items c.as_slice.result.now (field_views c.as_slice-2.result.now) (field_views c.self.inside.fields.items) _ c.in_ok-wanted.ensures.marked c.as_slice.ensures.value (ap field_views c.as_slice-2.ensures.value) c.in_ok-fields.ensures.fields_are

pub of_fields-requires-clause-valid : goal.of_fields-requires-clause-valid
of_fields-requires-clause-valid c = subst IsSchema (sym (made c)) (cut_schema c.args.places.now (field_views c.self.inside.fields.items) c.self.invariant.0 (there c))

pub of_fields-requires-clause-within : goal.of_fields-requires-clause-within
of_fields-requires-clause-within c = subst IsWithinLimits (sym (made c)) (cut_within c.args.places.now (field_views c.self.inside.fields.items) c.self.invariant.1)

pub of_fields-requires-clause-shallow : goal.of_fields-requires-clause-shallow
of_fields-requires-clause-shallow c =
    let less = each_cut_short (is_among c.args.places.now) 0 (field_views c.self.inside.fields.items) in
    let short = c.self.invariant.4 in
    let same = ap tallest (made c) in
    omega (arith, less, short, same)

pub returns-clause-stands : goal.returns-clause-stands
returns-clause-stands c =
    let whole : Fields = field_views c.self.inside.fields.items in
    let places : ArePlaces whole c.args.places.now =
    places_there whole c.self.inside.leaves.items c.len.result c.args.places.now c.self.invariant.2 (grind (arith, c.len.ensures)) (grind (arith, c.is_empty.ensures, c.if-is_empty.false)) (c.are_below.ensures.0 c.if-not-are_below.false) in
    let is : field_views c.in_ok-fields.fields.items ≡ cut_to c.args.places.now whole =
    cut_by_marks c.args.places.now _ c.in_ok-wanted.wanted.items c.as_slice.result.now (field_views c.as_slice-2.result.now) whole _ c.in_ok-wanted.ensures.marked c.as_slice.ensures.value (ap field_views c.as_slice-2.ensures.value) c.in_ok-fields.ensures.fields_are in
    subst (λ fs. IfOk c.of_fields.result (IsCutTo c.args.places.now fs)) c.self.view_is
    (ok_more c.of_fields.result (λ gs. gs ≡ field_views c.in_ok-fields.fields.items) (IsCutTo c.args.places.now whole) (λ gs e. record { places_are = places; is = e ∙ is }) c.of_fields.ensures.fields_are)
