use Rattle.std.proofs.Common.{◌≡◌, ◌++◌, ℕ, List, [], take, refl, ap, sym, subst, ◌∙◌, append_assoc, take-append-drop}
use Rattle.schema.specs.Keys.{key_columns_view, places_of}
use Rattle.schema.specs.Views.{key_view}
use Rattle.filter.specs.Test.{tests_in}
use Rattle.scan.specs.inner.Parts.{Making, AreAlike, ArePartsOf}
use Rattle.scan.proofs.PartsMade.{one_part_more}
use Rattle.scan.proofs.parts.parts_of.Goals as goal

pub parts-init : goal.parts-init
parts-init c =
    let m : Making = record { tests = tests_in c.args.filter.now; keys = places_of (key_columns_view c.args.keys.now); fields = c.args.schema.now; key = key_view c.args.group.now.key; width = c.args.group.now.width } in
    ([], subst (ArePartsOf m []) (sym c.new-parts.ensures.items) refl, c.as_slice-rest.ensures.value ∙ c.in_ok-wanted.ensures.stands)

pub parts-preserved : goal.parts-preserved
parts-preserved c =
    let m : Making = record { tests = tests_in c.args.filter.now; keys = places_of (key_columns_view c.args.keys.now); fields = c.args.schema.now; key = key_view c.args.group.now.key; width = c.args.group.now.width } in
    let held = c.parts.invariant in
    let here = c.split_at.result.0.now in
    let later = c.split_at.result.1.now in
    let alike : AreAlike m.keys m.width here = subst (AreAlike m.keys m.width) (sym c.split_at.ensures.front) c.alike.ensures.alike in
    let joined : here ++ later ≡ c.parts.rest.now =
    ap (λ (xs : List ℕ). xs ++ later) c.split_at.ensures.front ∙ ap (λ (xs : List ℕ). take c.alike.result c.parts.rest.now ++ xs) c.split_at.ensures.back ∙ take-append-drop c.alike.result c.parts.rest.now in (
      held.0 ++ here,
      subst (ArePartsOf m (held.0 ++ here)) (sym c.in_ok-push.ensures.items) (one_part_more m here c.in_ok-part_of.field-0 alike c.in_ok-part_of.ensures.stands held.0 c.parts.parts.items held.1),
      append_assoc held.0 here later ∙ ap (λ (xs : List ℕ). held.0 ++ xs) joined ∙ held.2,
    )
