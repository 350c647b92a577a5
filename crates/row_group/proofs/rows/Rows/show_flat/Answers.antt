use Rattle.std.proofs.Common.{◌-◌, ◌∙◌, refl, sym}
use Rattle.std.specs.Vec.{with_items}
use Rattle.std.proofs.lemmas.List.{with_items_is}
use Rattle.row_group.specs.declared.rows.Rows.{Rows}
use Rattle.row_group.proofs.RowsTaken.{takes_flat, only_memory}
use Rattle.row_group.proofs.rows.Rows.show_flat.Goals as goal

pub returns-in-Ok-clause-takes : goal.returns-in-Ok-clause-takes
returns-in-Ok-clause-takes g c =
    let old = c.args.self.now in
    let later = c.next_flat_row_to.new.sources in
    let new : Rows = record { alloc = old.alloc; schema = old.schema; readers = with_items old.readers later; left = old.left - 1; is_broken = old.is_broken; is_flat = old.is_flat } in
    takes_flat (g.K.RowSink.shows c.args.sink.now) (g.K.RowSink.shows c.next_flat_row_to.new.sink) old new c.as_mut_slice.result.now later c.requires.some c.requires.flat c.as_mut_slice.ensures.value
    (record { schema = refl; readers = with_items_is old.readers later (c.next_flat_row_to.auto.sources ∙ c.as_mut_slice.ensures.len); left = refl; whole = refl; flat = refl }) c.in-Ok.ensures.row

pub returns-in-Err-clause-takes : goal.returns-in-Err-clause-takes
returns-in-Err-clause-takes g c = λ rows s.
    let old = c.args.self.now in
    only_memory old c.as_mut_slice.result.now c.in-Err.fault c.requires.some c.as_mut_slice.ensures.value (λ any. c.in-Err.ensures.known old.schema.now any (sym s.flat ∙ c.requires.flat)) rows s
