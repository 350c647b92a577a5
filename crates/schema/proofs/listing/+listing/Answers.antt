use Rattle.std.proofs.Common.{◌∙◌, ap, arith, length, Some, string_bytes}
use Rattle.std.specs.Prelude.{pos}
use Rattle.schema.specs.Views.{leaf_type_view}
use Rattle.schema.specs.Listed.{leaf_element, group_element, repetition_number}
use Rattle.schema.proofs.Few.{few_here, leaf_added, group_added, on_ok}
use Rattle.schema.proofs.listing.+listing.Goals as goal

pub push_listing-group_element-requires : goal.push_listing-group_element-requires
push_listing-group_element-requires t c =
    let few = few_here c.args.field.now c.in-Group.name c.in-Group.repetition c.in-Group.annotation c.in-Group.fields c.in-Group.is c.requires.few in
    let same = ap length c.as_slice-fields.ensures.value in
    omega (arith, few, same)

pub push_listing-returns-in_ok-push-in-Leaf-clause-adds : goal.push_listing-returns-in_ok-push-in-Leaf-clause-adds
push_listing-returns-in_ok-push-in-Leaf-clause-adds t c =
    leaf_added _ _ c.in_ok-element-in-Leaf.element c.args.field.now c.in-Leaf.name c.in-Leaf.repetition c.in-Leaf.leaf_type c.in_ok-push-in-Leaf.ensures.items
    (c.in_ok-element-in-Leaf.ensures.element_is ∙ ap (λ n. leaf_element n c.in-Leaf.repetition (leaf_type_view c.in-Leaf.leaf_type)) c.as_str.ensures.value) c.in-Leaf.is

pub push_listing-returns-in_ok-push-in-Group-clause-adds : goal.push_listing-returns-in_ok-push-in-Group-clause-adds
push_listing-returns-in_ok-push-in-Group-clause-adds t c =
    on_ok c.push_listings.result _ _
    (group_added _ _ _ c.in_ok-element-in-Group.element c.args.field.now c.in-Group.name c.in-Group.repetition c.in-Group.annotation c.in-Group.fields c.as_slice-fields.result.now c.in_ok-push-in-Group.ensures.items
    (c.in_ok-element-in-Group.ensures.element_is
    ∙ ap (λ n. group_element n c.repetition_type-stated.result c.group_converted-converted_type.result (length c.as_slice-fields.result.now)) c.as_str-in-Group.ensures.value
    ∙ ap (λ z. group_element (string_bytes c.in-Group.name) z c.group_converted-converted_type.result (length c.as_slice-fields.result.now)) c.repetition_type-stated.ensures
    ∙ ap (λ a. group_element (string_bytes c.in-Group.name) (Some (pos (repetition_number c.in-Group.repetition))) a (length c.as_slice-fields.result.now)) c.group_converted-converted_type.ensures)
    c.in-Group.is c.as_slice-fields.ensures.value)
    c.push_listings.ensures.adds
