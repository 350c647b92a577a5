use Rattle.std.proofs.Common.{arith, map}
use Rattle.std.proofs.lemmas.List.{length-map}
use Rattle.shred.specs.Kept.{kept_view, marked_view}
use Rattle.shred.proofs.Growing.{grown_at, grown_beyond, same_at}
use Rattle.shred.proofs.kept_columns.take_column.Goals as goal

pub returns-in_err-take_over-clause-marked : goal.returns-in_err-take_over-clause-marked
returns-in_err-take_over-clause-marked c = same_at marked_view c.index-columns-at.result c.take_over.new.self c.args.columns.now c.args.at (omega arith) c.in_err-take_over.ensures.marked

pub returns-in_ok-take_over-clause-grown : goal.returns-in_ok-take_over-clause-grown
returns-in_ok-take_over-clause-grown c = grown_at kept_view _ c.index-columns-at.result c.take_over.new.self c.args.columns.now c.args.at (omega arith) c.in_ok-take_over.ensures.taken

pub returns-in_ok-take_over-clause-marked : goal.returns-in_ok-take_over-clause-marked
returns-in_ok-take_over-clause-marked c = same_at marked_view c.index-columns-at.result c.take_over.new.self c.args.columns.now c.args.at (omega arith) c.in_ok-take_over.ensures.marked

pub returns-else-at-columns-clause-grown : goal.returns-else-at-columns-clause-grown
returns-else-at-columns-clause-grown c =
    let many = length-map c.args.columns.now kept_view in
    grown_beyond (map kept_view c.args.columns.now) _ c.args.at (omega (arith, many))
