use Rattle.std.proofs.Common.{◌++◌, List, drop, refl, ap, sym, arith}
use Rattle.std.proofs.lemmas.List.{drop_all}
use Rattle.schema.specs.declared.element.Element.{Element as CodeElement}
use Rattle.schema.specs.Elements.{elements_view}
use Rattle.schema.proofs.fronts.begins_with.Goals as goal

pub returns : goal.returns
returns c =
    let xs = c.args.first.now in
    let i = c.loop-i.i in
    let later = elements_view (drop i c.args.elements.now) in
    let none = drop_all i xs (omega arith) in (
      (λ h. (later, c.loop-i.invariant.whole later (ap (λ (es : List CodeElement). elements_view es ++ later) (sym none)))),
      (λ h. refl),
    )
