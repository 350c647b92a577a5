use Rattle.std.proofs.Common.{arith, map}
use Rattle.std.proofs.lemmas.List.{length-map}
use Rattle.shred.specs.Kept.{kept_view, marked_view}
use Rattle.shred.proofs.Growing.{grown_at, grown_beyond, same_at}
use Rattle.shred.proofs.kept_columns.put_entry.Goals as goal

pub returns-in_err-put-clause-marked : goal.returns-in_err-put-clause-marked
returns-in_err-put-clause-marked g c = same_at marked_view c.index-columns-at.result c.put.new.self c.args.columns.now c.args.at (omega arith) c.in_err-put.ensures.marked

pub returns-in_ok-put-clause-grown : goal.returns-in_ok-put-clause-grown
returns-in_ok-put-clause-grown g c = grown_at kept_view _ c.index-columns-at.result c.put.new.self c.args.columns.now c.args.at (omega arith) c.in_ok-put.ensures.put

pub returns-in_ok-put-clause-marked : goal.returns-in_ok-put-clause-marked
returns-in_ok-put-clause-marked g c = same_at marked_view c.index-columns-at.result c.put.new.self c.args.columns.now c.args.at (omega arith) c.in_ok-put.ensures.marked

pub returns-else-at-columns-clause-grown : goal.returns-else-at-columns-clause-grown
returns-else-at-columns-clause-grown g c =
    let many = length-map c.args.columns.now kept_view in
    grown_beyond (map kept_view c.args.columns.now) _ c.args.at (omega (arith, many))
