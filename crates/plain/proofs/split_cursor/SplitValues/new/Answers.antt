use Rattle.std.proofs.Common.{◌*◌}
use Rattle.plain.specs.ValuesFrom.{values_from}
use Rattle.plain.proofs.Streams.{joined_fits, joined_plain, joined_split, split_of_kind}
use Rattle.plain.proofs.Places.{count_from}
use Rattle.plain.proofs.NextValue.{sized_there}
use Rattle.plain.proofs.split_cursor.SplitValues.new.Goals as goal

pub invariant_of-values : goal.invariant_of-values
invariant_of-values c = record {
  there = sized_there c.args.kind c.in-Some.k c.args.n c.in_ok-text-in-Some.text.items c.in-Some.ensures c.in_ok-text-in-Some.ensures.stands.count;
  taken_there = λ x is. absurd cc;
}

pub returns-in_ok-text-in-Some-clause-stands : goal.returns-in_ok-text-in-Some-clause-stands
returns-in_ok-text-in-Some-clause-stands c =
    let a = c.args in
    let k = c.in-Some.k in
    let text = c.in_ok-text-in-Some.text.items in
    let used = c.in_ok-text-in-Some.used in
    let joined = c.in_ok-text-in-Some.ensures.stands in
    joined_split a.kind k a.n a.bytes.now text (values_from a.kind a.n 0 text) used (a.n * k) c.in-Some.ensures joined (joined_plain a.kind k a.n text c.in-Some.ensures joined.count (joined_fits k a.n a.bytes.now text used joined c.type_inv.bytes))

pub returns-in_ok-text-in-Some-clause-count : goal.returns-in_ok-text-in-Some-clause-count
returns-in_ok-text-in-Some-clause-count c = count_from c.args.kind c.args.n 0 c.in_ok-text-in-Some.text.items

pub returns-in_ok-text-in-Some-clause-of_kind : goal.returns-in_ok-text-in-Some-clause-of_kind
returns-in_ok-text-in-Some-clause-of_kind c =
    split_of_kind c.args.kind c.args.n c.args.bytes.now (values_from c.args.kind c.args.n 0 c.in_ok-text-in-Some.text.items) c.in_ok-text-in-Some.used (returns-in_ok-text-in-Some-clause-stands c)
