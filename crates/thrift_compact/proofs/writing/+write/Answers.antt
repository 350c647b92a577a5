use Rattle.std.proofs.Common.{rules, ◌≡◌, ◌+◌, ◌<◌, length, take, refl, sym, ap, subst, ◌∙◌, arith, to_z, of_z}
use Rattle.std.specs.Prelude.{ℤ, pos, OnOk, FitsSigned, ◌&&◌, false}
use Rattle.std.specs.Int.{w16, w32}
use Rattle.bits.specs.Codec.{Appends}
use Rattle.bits.specs.Refusals.{RefusedOnly}
use Rattle.thrift_compact.specs.declared.tree.Node.TheFolds.{the_lemmas}
use Rattle.thrift_compact.proofs.Steps.{wide_is, wide_int}
use Rattle.thrift_compact.specs.Tree.{Node, list, set, map, binary, double, i16, i32}
use Rattle.std.proofs.lemmas.Int.{to_z-of_z}
use Rattle.thrift_compact.specs.declared.tree.Field.{Field}
use Rattle.thrift_compact.specs.Compact.{IsFieldHead}
use Rattle.thrift_compact.specs.View.{view, views, pair_views, field_view, field_views}
use Rattle.thrift_compact.specs.Length.{size_i64, size_value, size_field_head}
use Rattle.thrift_compact.specs.Piecewise.{AreBegun, size_begun}
use Rattle.thrift_compact.specs.inner.Writing.{SpellsValue, SpellsElement, SpellsElements, SpellsPair, SpellsPairs, SpellsField, SpellsFields, IsWithoutBytes, IsShortestSigned}
use Rattle.thrift_compact.proofs.Appending.{ok_then, appends_so, appends_then, keeps_then, pushed}
use Rattle.thrift_compact.proofs.Writes as writes
use Rattle.thrift_compact.proofs.Writes.{HasPart}
use Rattle.thrift_compact.proofs.Shapes as shapes
use Rattle.thrift_compact.specs.Shapes.{is_of_type, is_member, has_shape, each_has_shape, pairs_have_shape, pair_has_shape, fields_have_shape, IsShapeless}
use Rattle.thrift_compact.proofs.writing.+write.Goals as goal

-- ---- elements

pub put_element-returns-clause-stands : goal.put_element-returns-clause-stands
put_element-returns-clause-stands t c =
    let x = view c.args.value.now in
    ok_then c.put_value.result
    (appends_so (SpellsValue c.args.left x) (SpellsElement c.args.code c.args.left x) (size_value x) c.args.out.now.items c.put_value.new.out.items (λ bytes used s. (c.if-not-is_element.ensures.0 refl, s.0, s.1))) c.put_value.ensures.stands

pub put_elements-returns-in_err-put_element-clause-which : goal.put_elements-returns-in_err-put_element-clause-which
put_elements-returns-in_err-put_element-clause-which t c =
    let part = subst (λ y. HasPart (SpellsElements c.args.code c.args.left (views c.args.values.now)) (SpellsElement c.args.code c.args.left (view y))) (sym c.value-item.is)
    (writes.element_of c.args.values.now c.loop-value.value-index c.value-item.result c.args.code c.args.left c.loop-value-test.true) in
    writes.refused_by (SpellsElement c.args.code c.args.left (view c.value-item.result)) (SpellsElements c.args.code c.args.left (views c.args.values.now)) c.from_residual.result c.in_err-put_element.field-0.0 part c.from_residual.ensures.1 c.in_err-put_element.ensures.which

pub put_elements-loop-value-preserved : goal.put_elements-loop-value-preserved
put_elements-loop-value-preserved t c =
    let one = subst (λ y. Appends (SpellsElement c.args.code c.args.left (view y)) (size_value (view y)) c.loop-value.out.items c.put_element.new.out.items) c.value-item.is c.in_ok-put_element.ensures.stands in
    writes.elements_more c.args.values.now c.loop-value.value-index c.value-item.result c.args.code c.args.left c.args.out.now.items c.loop-value.out.items c.put_element.new.out.items c.loop-value-test.true c.loop-value.invariant one

-- ---- lists and sets

pub put_list-returns-clause-kept : goal.put_list-returns-clause-kept
put_list-returns-clause-kept t c = keeps_then c.args.out.now.items c.put_list_head.new.out.items c.put_elements.new.out.items c.in_ok-put_list_head.ensures.kept c.put_elements.ensures.kept

pub put_list-returns-clause-stands : goal.put_list-returns-clause-stands
put_list-returns-clause-stands t c =
    let some : 0 < c.args.left = omega arith in
    ok_then c.put_elements.result (writes.list_all c.args.code c.args.values.now c.args.left c.args.out.now.items c.put_list_head.new.out.items c.put_elements.new.out.items some c.in_ok-put_list_head.ensures.stands) c.put_elements.ensures.stands

-- ---- maps

pub put_map-returns-clause-stands : goal.put_map-returns-clause-stands
put_map-returns-clause-stands t c =
    let some : 0 < c.args.left = omega arith in
    ok_then c.put_pairs.result (writes.map_all c.args.keys c.args.values c.args.pairs.now c.args.left c.args.out.now.items c.put_map_head.new.out.items c.put_pairs.new.out.items some c.in_ok-put_map_head.ensures.stands) c.put_pairs.ensures.stands

pub put_pair-returns-clause-stands : goal.put_pair-returns-clause-stands
put_pair-returns-clause-stands t c =
    let x = view c.args.pair.now.0 in
    let y = view c.args.pair.now.1 in
    ok_then c.put_element-2.result
    (appends_then (SpellsElement c.args.keys c.args.left x) (SpellsElement c.args.values c.args.left y) (SpellsPair c.args.keys c.args.values c.args.left x y) (size_value x) (size_value y) c.args.out.now.items c.put_element.new.out.items c.put_element-2.new.out.items
    (λ bytes u v a b. (u, v, a, b, refl)) c.in_ok-put_element.ensures.stands) c.put_element-2.ensures.stands

pub put_pairs-returns-in_err-put_pair-clause-which : goal.put_pairs-returns-in_err-put_pair-clause-which
put_pairs-returns-in_err-put_pair-clause-which t c =
    let part = subst (λ y. HasPart (SpellsPairs c.args.keys c.args.values c.args.left (pair_views c.args.pairs.now)) (SpellsPair c.args.keys c.args.values c.args.left (view y.0) (view y.1))) (sym c.pair-item.is)
    (writes.pair_of c.args.pairs.now c.loop-pair.pair-index c.pair-item.result c.args.keys c.args.values c.args.left c.loop-pair-test.true) in
    writes.refused_by (SpellsPair c.args.keys c.args.values c.args.left (view c.pair-item.result.0) (view c.pair-item.result.1)) (SpellsPairs c.args.keys c.args.values c.args.left (pair_views c.args.pairs.now)) c.from_residual.result c.in_err-put_pair.field-0.0 part c.from_residual.ensures.1 c.in_err-put_pair.ensures.which

pub put_pairs-loop-pair-preserved : goal.put_pairs-loop-pair-preserved
put_pairs-loop-pair-preserved t c =
    let one = subst (λ y. Appends (SpellsPair c.args.keys c.args.values c.args.left (view y.0) (view y.1)) (size_value (view y.0) + size_value (view y.1)) c.loop-pair.out.items c.put_pair.new.out.items) c.pair-item.is c.in_ok-put_pair.ensures.stands in
    writes.pairs_more c.args.pairs.now c.loop-pair.pair-index c.pair-item.result c.args.keys c.args.values c.args.left c.args.out.now.items c.loop-pair.out.items c.put_pair.new.out.items c.loop-pair-test.true c.loop-pair.invariant one

-- ---- fields

pub put_field-returns-clause-stands : goal.put_field-returns-clause-stands
put_field-returns-clause-stands t c =
    let f = c.args.field.now in
    let k = c.type_code-code.result in
    let old = c.args.out.now.items in
    let mid = c.put_field_head.new.out.items in
    let new = c.put_value.new.out.items in
    let e : field_view f ≡ (f.id, view f.value) = search (rules, the_lemmas) in
    let fits : FitsSigned w16 f.id = search rules in
    let h1 = subst (λ (z : ℤ). Appends (λ bytes. IsFieldHead z bytes (to_z w16 (of_z w16 f.id)) k) (size_field_head z (to_z w16 (of_z w16 f.id))) old mid) (to_z-of_z w16 c.args.previous c.ranges.previous) c.in_ok-put_field_head.ensures.stands in
    let h2 = subst (λ (z : ℤ). Appends (λ bytes. IsFieldHead c.args.previous bytes z k) (size_field_head c.args.previous z) old mid) (to_z-of_z w16 f.id fits) h1 in
    let all = ok_then c.put_value.result (writes.field_all c.args.previous f.id (view f.value) k c.args.left old mid new c.type_code-code.ensures h2) c.put_value.ensures.stands in
    subst (λ (p : ℤ × Node). OnOk c.put_value.result (Appends (SpellsField c.args.previous c.args.left p.0 p.1) (size_field_head c.args.previous p.0 + size_value p.1) old new)) (sym e) all

pub put_fields-returns-in_err-put_field-clause-which : goal.put_fields-returns-in_err-put_field-clause-which
put_fields-returns-in_err-put_field-clause-which t c =
    let last = to_z w16 c.loop-field.previous-bits in
    let now = c.field-item.result in
    let part = subst (λ y. HasPart (SpellsFields c.args.left (field_views c.args.fields.now)) (SpellsField last c.args.left (field_view y).0 (field_view y).1)) (sym c.field-item.is)
    (writes.field_of c.args.fields.now c.loop-field.field-index now c.args.left last c.loop-field-test.true (writes.begun_last c.args.fields.now c.loop-field.field-index c.args.left last c.args.out.now.items c.loop-field.out.items c.loop-field.invariant)) in
    writes.refused_by (SpellsField last c.args.left (field_view now).0 (field_view now).1) (SpellsFields c.args.left (field_views c.args.fields.now)) c.from_residual.result c.in_err-put_field.field-0.0 part c.from_residual.ensures.1 c.in_err-put_field.ensures.which

pub put_fields-loop-field-preserved : goal.put_fields-loop-field-preserved
put_fields-loop-field-preserved t c =
    let last = to_z w16 c.loop-field.previous-bits in
    let one = subst (λ y. Appends (SpellsField last c.args.left (field_view y).0 (field_view y).1) (size_field_head last (field_view y).0 + size_value (field_view y).1) c.loop-field.out.items c.put_field.new.out.items) c.field-item.is c.in_ok-put_field.ensures.stands in
    let m = writes.fields_more c.args.fields.now c.loop-field.field-index c.field-item.result c.args.left (pos 0) last c.args.out.now.items c.loop-field.out.items c.put_field.new.out.items c.loop-field-test.true c.loop-field.invariant one in
    let f = c.field-item.result in
    let e : field_view f ≡ (f.id, view f.value) = search (rules, the_lemmas) in
    let fits : FitsSigned w16 f.id = search rules in
    let last_is = ap (λ (y : Field). (field_view y).0) (sym c.field-item.is) ∙ ap (λ (p : ℤ × Node). p.0) e ∙ sym (to_z-of_z w16 f.id fits) in
    let front = field_views (take (c.loop-field.field-index + 1) c.args.fields.now) in
    subst (λ (z : ℤ). Appends (AreBegun c.args.left front (pos 0) z) (size_begun front (pos 0)) c.args.out.now.items c.put_field.new.out.items) last_is m

pub put_fields-returns-clause-stands : goal.put_fields-returns-clause-stands
put_fields-returns-clause-stands t c =
    writes.fields_all c.args.fields.now c.loop-field.field-index c.args.left (pos 0) (to_z w16 c.loop-field.previous-bits) c.args.out.now.items c.loop-field.out.items c.push.new.self.items c.loop-field-test.false c.loop-field.invariant (pushed c.loop-field.out.items c.push.new.self.items 0 c.in_ok-push.ensures.items)

pub put_struct-returns-clause-stands : goal.put_struct-returns-clause-stands
put_struct-returns-clause-stands t c =
    let some : 0 < c.args.left = omega arith in
    ok_then c.put_fields.result (writes.struct_all (field_views c.args.fields.now) c.args.left c.args.out.now.items c.put_fields.new.out.items some) c.put_fields.ensures.stands

-- ---- values

pub put_value-returns-in-List-clause-which : goal.put_value-returns-in-List-clause-which
put_value-returns-in-List-clause-which t c =
    let e : view c.args.value.now ≡ list c.code.result (views c.deref-in-List.result.now) = search (rules, the_lemmas) in
    subst (λ y. RefusedOnly (IsWithoutBytes (SpellsValue c.args.left y)) c.put_list.result) (sym e) c.put_list.ensures.which

pub put_value-returns-in-Set-clause-stands : goal.put_value-returns-in-Set-clause-stands
put_value-returns-in-Set-clause-stands t c =
    let e : view c.args.value.now ≡ set c.code-in-Set.result (views c.deref-in-Set.result.now) = grind (arith, the_lemmas) in
    subst (λ y. OnOk c.put_list-in-Set.result (Appends (SpellsValue c.args.left y) (size_value y) c.args.out.now.items c.put_list-in-Set.new.out.items)) (sym e) c.put_list-in-Set.ensures.stands

pub put_value-returns-in-Set-clause-which : goal.put_value-returns-in-Set-clause-which
put_value-returns-in-Set-clause-which t c =
    let e : view c.args.value.now ≡ set c.code-in-Set.result (views c.deref-in-Set.result.now) = search (rules, the_lemmas) in
    subst (λ y. RefusedOnly (IsWithoutBytes (SpellsValue c.args.left y)) c.put_list-in-Set.result) (sym e) c.put_list-in-Set.ensures.which

pub put_value-returns-in-Map-clause-stands : goal.put_value-returns-in-Map-clause-stands
put_value-returns-in-Map-clause-stands t c =
    let e : view c.args.value.now ≡ map c.code-in-Map.result c.code-in-Map-2.result (pair_views c.deref-in-Map.result.now) = grind (arith, the_lemmas) in
    subst (λ y. OnOk c.put_map.result (Appends (SpellsValue c.args.left y) (size_value y) c.args.out.now.items c.put_map.new.out.items)) (sym e) c.put_map.ensures.stands

pub put_value-returns-in-Map-clause-which : goal.put_value-returns-in-Map-clause-which
put_value-returns-in-Map-clause-which t c =
    let e : view c.args.value.now ≡ map c.code-in-Map.result c.code-in-Map-2.result (pair_views c.deref-in-Map.result.now) = search (rules, the_lemmas) in
    subst (λ y. RefusedOnly (IsWithoutBytes (SpellsValue c.args.left y)) c.put_map.result) (sym e) c.put_map.ensures.which

pub put_value-returns-in-Binary-clause-stands : goal.put_value-returns-in-Binary-clause-stands
put_value-returns-in-Binary-clause-stands t c =
    let text = c.deref.result.now in
    let e : view c.args.value.now ≡ binary text = grind (arith, the_lemmas) in
    ok_then c.put_binary.result (writes.binary_stands (view c.args.value.now) text c.args.left c.args.out.now.items c.put_binary.new.out.items e) c.put_binary.ensures.stands

pub put_value-returns-in_ok-extend_from_slice-in-Double-clause-stands : goal.put_value-returns-in_ok-extend_from_slice-in-Double-clause-stands
put_value-returns-in_ok-extend_from_slice-in-Double-clause-stands t c =
    let text = c.in-Double.bytes in
    let e : view c.args.value.now ≡ double text = search (rules, the_lemmas) in
    let size : length text ≡ 8 = grind (arith, the_lemmas) in
    writes.double_stands (view c.args.value.now) text c.args.left c.args.out.now.items c.extend_from_slice.new.self.items e size c.in_ok-extend_from_slice-in-Double.ensures.items

pub put_value-returns-in-I32-clause-stands : goal.put_value-returns-in-I32-clause-stands
put_value-returns-in-I32-clause-stands t c =
    let z = c.in-I32.z in
    let e : view c.args.value.now ≡ i32 z = search (rules, the_lemmas) in
    let fits : FitsSigned w32 z = grind (arith, the_lemmas) in
    let w = wide_int z c.from-in-I32.result fits c.from-in-I32.ensures in
    ok_then c.put_signed-in-I32.result (writes.int_stands (view c.args.value.now) z c.args.left c.args.out.now.items c.put_signed-in-I32.new.out.items e fits)
    (subst (λ y. OnOk c.put_signed-in-I32.result (Appends (IsShortestSigned y) (size_i64 y) c.args.out.now.items c.put_signed-in-I32.new.out.items)) w c.put_signed-in-I32.ensures.stands)

pub put_value-returns-in-I16-clause-stands : goal.put_value-returns-in-I16-clause-stands
put_value-returns-in-I16-clause-stands t c =
    let z = c.in-I16.z in
    let e : view c.args.value.now ≡ i16 z = search (rules, the_lemmas) in
    let fits : FitsSigned w16 z = grind (arith, the_lemmas) in
    let w = wide_is z c.from.result fits c.from.ensures in
    ok_then c.put_signed.result (writes.short_stands (view c.args.value.now) z c.args.left c.args.out.now.items c.put_signed.new.out.items e fits)
    (subst (λ y. OnOk c.put_signed.result (Appends (IsShortestSigned y) (size_i64 y) c.args.out.now.items c.put_signed.new.out.items)) w c.put_signed.ensures.stands)

-- ---- shapes

pub put_elements-returns-in_err-put_element-clause-shape : goal.put_elements-returns-in_err-put_element-clause-shape
put_elements-returns-in_err-put_element-clause-shape t c =
    let all = each_has_shape c.args.left c.args.code (views c.args.values.now) in
    let fails = subst (λ y. (is_of_type c.args.code (view y) && has_shape c.args.left (view y)) ≡ false → all ≡ false) (sym c.value-item.is)
    (shapes.element_fails c.args.values.now c.loop-value.value-index c.value-item.result c.args.code c.args.left c.loop-value-test.true) in
    shapes.shapeless_by (is_of_type c.args.code (view c.value-item.result) && has_shape c.args.left (view c.value-item.result)) all c.from_residual.result c.in_err-put_element.field-0.0 fails c.from_residual.ensures.1 c.in_err-put_element.ensures.shape

pub put_fields-returns-in_err-put_field-clause-shape : goal.put_fields-returns-in_err-put_field-clause-shape
put_fields-returns-in_err-put_field-clause-shape t c =
    let all = fields_have_shape c.args.left (field_views c.args.fields.now) in
    let f = c.field-item.result in
    let e : field_view f ≡ (f.id, view f.value) = search (rules, the_lemmas) in
    let there = subst (λ (y : Field). (is_member (field_view y).1 && has_shape c.args.left (field_view y).1) ≡ false → all ≡ false) (sym c.field-item.is)
    (shapes.field_fails c.args.fields.now c.loop-field.field-index c.field-item.result c.args.left c.loop-field-test.true) in
    let fails = subst (λ (p : ℤ × Node). (is_member p.1 && has_shape c.args.left p.1) ≡ false → all ≡ false) e there in
    shapes.shapeless_by (is_member (view c.field-item.result.value) && has_shape c.args.left (view c.field-item.result.value)) all c.from_residual.result c.in_err-put_field.field-0.0 fails c.from_residual.ensures.1 c.in_err-put_field.ensures.shape

pub put_pair-returns-clause-shape : goal.put_pair-returns-clause-shape
put_pair-returns-clause-shape t c =
    let key = is_of_type c.args.keys (view c.args.pair.now.0) && has_shape c.args.left (view c.args.pair.now.0) in
    let value = is_of_type c.args.values (view c.args.pair.now.1) && has_shape c.args.left (view c.args.pair.now.1) in
    shapes.shapeless_as value (key && value) c.put_element-2.result (shapes.second_fails key value) c.put_element-2.ensures.shape

pub put_pairs-returns-in_err-put_pair-clause-shape : goal.put_pairs-returns-in_err-put_pair-clause-shape
put_pairs-returns-in_err-put_pair-clause-shape t c =
    let all = pairs_have_shape c.args.left c.args.keys c.args.values (pair_views c.args.pairs.now) in
    let fails = subst (λ y. pair_has_shape c.args.left c.args.keys c.args.values (view y.0) (view y.1) ≡ false → all ≡ false) (sym c.pair-item.is)
    (shapes.pair_fails c.args.pairs.now c.loop-pair.pair-index c.pair-item.result c.args.keys c.args.values c.args.left c.loop-pair-test.true) in
    shapes.shapeless_by (pair_has_shape c.args.left c.args.keys c.args.values (view c.pair-item.result.0) (view c.pair-item.result.1)) all c.from_residual.result c.in_err-put_pair.field-0.0 fails c.from_residual.ensures.1 c.in_err-put_pair.ensures.shape

pub put_value-returns-in-Map-clause-shape : goal.put_value-returns-in-Map-clause-shape
put_value-returns-in-Map-clause-shape t c =
    let e : view c.args.value.now ≡ map c.code-in-Map.result c.code-in-Map-2.result (pair_views c.deref-in-Map.result.now) = search (rules, the_lemmas) in
    subst (λ y. RefusedOnly (IsShapeless (has_shape c.args.left y)) c.put_map.result) (sym e) c.put_map.ensures.shape
