use Rattle.std.proofs.Common.{◌≡◌, ◌∙◌, sym, ap, subst, refl, Some, string_bytes}
use Rattle.std.specs.Int.{w32}
use borrow.Author.Rules.{sfits_of}
use Rattle.std.proofs.Math.Facts.{to_z-of_z}
use Rattle.schema.specs.declared.building.Typed.TheVariants.{Stored}
use Rattle.schema.specs.Views.{leaf_type_view}
use Rattle.schema.specs.Elements.{element_view}
use Rattle.schema.specs.Listing.{typed}
use Rattle.schema.specs.inner.Reading.{HasTypedLength, IsLeafOf}
use Rattle.schema.proofs.Seen.{view-Leaf}
use Rattle.schema.proofs.Typed.{typed_leaf}
use Rattle.schema.proofs.building.leaf.Goals as goal

pub returns-in_ok-leaf_type-in-Some-Stored-clause-stands : goal.returns-in_ok-leaf_type-in-Some-Stored-clause-stands
returns-in_ok-leaf_type-in-Some-Stored-clause-stands c =
    let t = leaf_type_view c.in_ok-leaf_type-in-Some-Stored.leaf_type in
    let number = ap (λ z. typed z c.args.element.now.type_length) (to_z-of_z {w = w32} {z = c.args.number} (sfits_of {w = w32} {z = c.args.number} c.ranges.number.sfits)) in
    let is : c.type_of.result ≡ Some (Stored c.in-Some-Stored.kind) = cc in
    let both = typed_leaf (element_view c.args.element.now) t c.in-Some-Stored.kind c.args.number c.requires (sym number ∙ sym c.type_of.ensures.type_is ∙ is) (subst HasTypedLength is c.type_of.ensures.length)
    c.in_ok-leaf_type-in-Some-Stored.ensures.stands.0 (sym c.is_float16.ensures ∙ c.if-is_float16.false) c.in_ok-leaf_type-in-Some-Stored.ensures.stands.1 in
    subst (IsLeafOf (element_view c.args.element.now) (string_bytes c.args.name) c.args.repetition) (sym (view-Leaf c.args.name c.args.repetition c.in_ok-leaf_type-in-Some-Stored.leaf_type)) (refl, refl, both.0, both.1)
