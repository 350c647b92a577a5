use Rattle.std.proofs.Common.{◌≡◌, ◌+◌, ◌∷◌, drop, sym, ap, subst, ◌∙◌, arith}
use Rattle.schema.specs.Law.{AreValid}
use Rattle.schema.specs.Views.{annotation_view, field_views}
use Rattle.jsonrows.specs.inner.SchemaPrinting.{AreStructBytes}
use Rattle.std.proofs.lemmas.List.{drop_more, drop_all}
use Rattle.jsonrows.proofs.SchemaObjects.{leaf_printed, group_printed, one_more_printed, all_printed}
use Rattle.jsonrows.proofs.schema_printing.+fields.Goals as goal

pub field_json-returns-in_ok-members-in-Leaf-clause-printed : goal.field_json-returns-in_ok-members-in-Leaf-clause-printed
field_json-returns-in_ok-members-in-Leaf-clause-printed t c =
    leaf_printed c.args.field.now c.in-Leaf.name c.in-Leaf.repetition c.in-Leaf.leaf_type c.as_str.result.now c.as_slice.result.now c.in_ok-members-in-Leaf.members c.in-Leaf.is c.as_str.ensures.value c.in_ok-members-in-Leaf.ensures.shown
    (subst (AreStructBytes (annotation_view c.in-Leaf.leaf_type.annotation)) (sym c.as_slice.ensures.value) c.in_ok-bytes-in-Leaf.ensures.stands) c.in_ok-members-in-Leaf.ensures.bytes c.in_ok-members-in-Leaf.ensures.short

pub field_json-returns-in_ok-members-in-Group-clause-printed : goal.field_json-returns-in_ok-members-in-Group-clause-printed
field_json-returns-in_ok-members-in-Group-clause-printed t c =
    group_printed c.args.field.now c.in-Group.name c.in-Group.repetition c.in-Group.annotation c.in-Group.fields c.as_str-in-Group.result.now c.as_slice-in-Group.result.now c.in_ok-below-in-Group.below.items c.in_ok-members-in-Group.members
    c.in-Group.is c.as_str-in-Group.ensures.value c.as_slice-in-Group.ensures.value c.in_ok-members-in-Group.ensures c.in_ok-below-in-Group.ensures.printed

pub fields_json-loop-field-preserved : goal.fields_json-loop-field-preserved
fields_json-loop-field-preserved t c =
    let l = c.loop-field in
    let f = c.field-item.result in
    let xs = c.args.fields.now in
    let here : drop l.field-index xs ≡ f ∷ drop (l.field-index + 1) xs = drop_more xs l.field-index f (omega arith) ∙ ap (λ y. y ∷ drop (l.field-index + 1) xs) (sym c.field-item.is) in
    record {
      all = one_more_printed xs (drop l.field-index xs) (drop (l.field-index + 1) xs) f l.all.items c.push.new.self.items c.in_ok-field_json.field-0 here c.in_ok-push.ensures.items c.in_ok-field_json.ensures.printed l.invariant.all;
      valid = (subst (λ ys. AreValid (field_views ys)) here l.invariant.valid).1;
    }

pub fields_json-returns-clause-printed : goal.fields_json-returns-clause-printed
fields_json-returns-clause-printed t c =
    let l = c.loop-field in
    all_printed c.args.fields.now (drop l.field-index c.args.fields.now) l.all.items (drop_all l.field-index c.args.fields.now (omega arith)) l.invariant.all
