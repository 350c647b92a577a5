use Rattle.std.proofs.Common.{refl, ◌∙◌}
use Rattle.std.specs.Vec.{with_items}
use Rattle.std.proofs.lemmas.List.{with_items_is}
use Rattle.scan.specs.declared.run_reader.RunReader.{RunReader}
use Rattle.scan.proofs.RunTaken.{nested_next, ok_map}
use Rattle.scan.proofs.run_reader.RunReader.show_next.Goals as goal

pub returns-else-self-clause-shows : goal.returns-else-self-clause-shows
returns-else-self-clause-shows g c =
    let old = c.args.self.now in
    let later = c.next_known_row_to.new.sources in
    let mid = c.as_mut_slice-else-self.result.now in
    let new : RunReader = record { schema = old.schema; readers = with_items old.readers later; is_flat = old.is_flat } in
    ok_map c.next_known_row_to.result
    (nested_next (g.K.RowSink.shows c.args.sink.now) (g.K.RowSink.shows c.next_known_row_to.new.sink) old new mid later c.as_mut_slice-else-self.ensures.value
    (record { schema = refl; readers = with_items_is old.readers later (c.next_known_row_to.auto.sources ∙ c.as_mut_slice-else-self.ensures.len); flat = refl }))
    c.next_known_row_to.ensures.row
