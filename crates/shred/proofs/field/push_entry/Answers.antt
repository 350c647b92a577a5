use Rattle.std.proofs.Common.{◌∷◌, [], ap, map, get_or, ◌∙◌}
use Rattle.std.proofs.lemmas.List.{map-append}
use Rattle.schema.specs.declared.borrowed.EntryRef.{EntryRef}
use Rattle.schema.specs.Borrowed.{entry_ref_view}
use Rattle.shred.proofs.Growing.{grown_first}
use Rattle.shred.proofs.field.push_entry.Goals as goal

pub returns-clause-grown : goal.returns-clause-grown
returns-clause-grown c =
    let xs = c.args.columns.now in
    let x = c.index-columns-0.result in
    let e : EntryRef = record { repetition = c.args.levels.repetition; definition = c.args.levels.definition; value = c.args.value } in
    grown_first (entry_ref_view e ∷ []) x (record { entries = c.push.new.self }) xs c.requires
    (ap (map entry_ref_view) c.in_ok-push.ensures.items ∙ map-append entry_ref_view (get_or xs 0 x).entries.items (e ∷ []))
