use Rattle.std.proofs.Common.{◌∷◌, ◌++◌, [], ap, map, sym, ◌∙◌}
use Rattle.std.proofs.lemmas.List.{map-append}
use Rattle.schema.specs.Borrowed.{entry_ref_view}
use Rattle.shred.specs.Columns.{column_ref_view, column_refs_view}
use Rattle.shred.proofs.Growing.{nils_more}
use Rattle.shred.proofs.rows.empty_columns.Goals as goal

pub loop-preserved : goal.loop-preserved
loop-preserved c =
    let cs = c.loop.columns.items in
    ap column_refs_view c.in_ok-push.ensures.items
    ∙ map-append column_ref_view cs (record { entries = c.in_ok-entries.entries } ∷ [])
    ∙ ap (λ es. column_refs_view cs ++ map entry_ref_view es ∷ []) c.in_ok-entries.ensures.items
    ∙ ap (λ t. t ++ [] ∷ []) c.loop.invariant
    ∙ sym (nils_more c.loop.counter)
