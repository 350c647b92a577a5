use Rattle.plain.specs.ValuesFrom.{values_from}
use Rattle.plain.proofs.Known.{known_there, there_stand}
use Rattle.plain.proofs.Lists.{plain_of_kind}
use Rattle.plain.proofs.Places.{count_from}
use Rattle.plain.proofs.cursor.Values.known.Goals as goal

pub invariant_of-result : goal.invariant_of-result
invariant_of-result c = record { there = known_there c.args.kind c.args.n c.args.bytes.now c.ranges.n.fits c.requires.stood }

pub returns-clause-stands : goal.returns-clause-stands
returns-clause-stands c =
    let body = c.args.bytes.now in
    there_stand c.args.kind c.args.n body c.type_inv.bytes (known_there c.args.kind c.args.n body c.ranges.n.fits c.requires.stood)

pub returns-clause-count : goal.returns-clause-count
returns-clause-count c = count_from c.args.kind c.args.n 0 c.args.bytes.now

pub returns-clause-of_kind : goal.returns-clause-of_kind
returns-clause-of_kind c =
    let body = c.args.bytes.now in
    let all = there_stand c.args.kind c.args.n body c.type_inv.bytes (known_there c.args.kind c.args.n body c.ranges.n.fits c.requires.stood) in
    plain_of_kind c.args.kind c.args.n body (values_from c.args.kind c.args.n 0 body) all.0 all.1
