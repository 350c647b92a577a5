use Rattle.std.proofs.Common.{arith}
use Rattle.assemble.proofs.Standing.{same_set, causes_set}
use Rattle.assemble.proofs.missing.is_missing.Goals as goal

pub returns-in_err-peek-clause-same : goal.returns-in_err-peek-clause-same
returns-in_err-peek-clause-same g c = same_set g.S.EntrySource.stands c.args.sources.now 0 c.index-sources-0.result c.peek.new.self (omega (arith, c.requires)) c.in_err-peek.ensures.stays.0

pub returns-in-None-clause-same : goal.returns-in-None-clause-same
returns-in-None-clause-same g c = same_set g.S.EntrySource.stands c.args.sources.now 0 c.index-sources-0.result c.peek.new.self (omega (arith, c.requires)) c.in_ok-peek.ensures.stays.0

pub returns-in-Some-clause-same : goal.returns-in-Some-clause-same
returns-in-Some-clause-same g c = same_set g.S.EntrySource.stands c.args.sources.now 0 c.index-sources-0.result c.peek.new.self (omega (arith, c.requires)) c.in_ok-peek.ensures.stays.0

pub returns-in_err-peek-clause-causes_stay : goal.returns-in_err-peek-clause-causes_stay
returns-in_err-peek-clause-causes_stay g c = causes_set g.S.EntrySource.cause c.args.sources.now 0 c.index-sources-0.result c.peek.new.self (omega (arith, c.requires)) c.peek.ensures.causes_stay

pub returns-in-None-clause-causes_stay : goal.returns-in-None-clause-causes_stay
returns-in-None-clause-causes_stay g c = causes_set g.S.EntrySource.cause c.args.sources.now 0 c.index-sources-0.result c.peek.new.self (omega (arith, c.requires)) c.peek.ensures.causes_stay

pub returns-in-Some-clause-causes_stay : goal.returns-in-Some-clause-causes_stay
returns-in-Some-clause-causes_stay g c = causes_set g.S.EntrySource.cause c.args.sources.now 0 c.index-sources-0.result c.peek.new.self (omega (arith, c.requires)) c.peek.ensures.causes_stay
