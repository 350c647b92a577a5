use Rattle.std.proofs.Common.{arith}
use Rattle.plain.proofs.Places.{count_from, sized_end, sized_in_turn}
use Rattle.plain.proofs.Spelled.{are_bytes}
use Rattle.plain.proofs.Turned.{sized_fails}
use Rattle.plain.proofs.measuring.size_of_sized.Goals as goal

pub returns-then-n-size-clause-only : goal.returns-then-n-size-clause-only
returns-then-n-size-clause-only c = λ _. sized_fails c.args.kind c.args.size c.args.n c.args.bytes.now c.requires (omega (arith, c.if-n-size.true))

pub returns-clause-stands : goal.returns-clause-stands
returns-clause-stands c =
    let body = c.args.bytes.now in
    (count_from c.args.kind c.args.n 0 body, sized_in_turn c.args.kind c.args.size c.args.n 0 body c.requires (are_bytes body c.type_inv.bytes) (omega (arith, c.if-n-size.false)))

pub returns-clause-there : goal.returns-clause-there
returns-clause-there c = omega (arith, sized_end c.args.kind c.args.size c.args.n 0 c.args.bytes.now c.requires, c.if-n-size.false)
