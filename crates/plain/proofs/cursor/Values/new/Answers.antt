use Rattle.plain.specs.ValuesFrom.{values_from}
use Rattle.plain.proofs.Lists.{plain_of_kind, plain_within}
use Rattle.plain.proofs.Places.{count_from}
use Rattle.plain.proofs.cursor.Values.new.Goals as goal

pub returns-clause-count : goal.returns-clause-count
returns-clause-count c = count_from c.args.kind c.args.n 0 c.args.bytes.now

pub returns-clause-of_kind : goal.returns-clause-of_kind
returns-clause-of_kind c =
    let body = c.args.bytes.now in
    plain_of_kind c.args.kind c.args.n body (values_from c.args.kind c.args.n 0 body) c.in_ok-used.used c.in_ok-used.ensures.stands

pub returns-clause-within : goal.returns-clause-within
returns-clause-within c =
    let body = c.args.bytes.now in
    plain_within c.args.kind c.args.n body (values_from c.args.kind c.args.n 0 body) c.in_ok-used.used c.in_ok-used.ensures.stands
