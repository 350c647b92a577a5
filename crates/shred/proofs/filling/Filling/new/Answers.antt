use Rattle.std.proofs.Common.{List, [], ◌∷◌, ◌++◌, map, ap, sym, ◌∙◌}
use Rattle.std.proofs.lemmas.List.{map-append}
use Rattle.schema.specs.Stripe.{Entry}
use Rattle.shred.specs.Kept.{kept_view}
use Rattle.shred.proofs.Growing.{nils_more}
use Rattle.shred.proofs.filling.Filling.new.Goals as goal

pub loop-leaf-preserved : goal.loop-leaf-preserved
loop-leaf-preserved c =
    let cs = c.loop-leaf.columns.items in
    ap (map kept_view) c.in_ok-push.ensures.items
    ∙ map-append kept_view cs (_ ∷ [])
    ∙ ap (λ (e : List Entry). map kept_view cs ++ e ∷ []) c.new.ensures.empty
    ∙ ap (λ (t : List (List Entry)). t ++ [] ∷ []) c.loop-leaf.invariant
    ∙ sym (nils_more c.loop-leaf.leaf-index)
