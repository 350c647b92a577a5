use Rattle.std.proofs.Common.{arith}
use Rattle.plain.specs.ValuesFrom.{greatest_end}
use Rattle.plain.proofs.Places.{first_there}
use Rattle.plain.proofs.cursor.Values.next.Goals as goal

pub value_at-size-requires : goal.value_at-size-requires
value_at-size-requires c =
    let s = c.args.self.now in
    first_there s.kind s.left s.at (greatest_end s.kind s.bytes.now) s.bytes.now (omega (arith, c.if-self-eq0.false)) s.there
