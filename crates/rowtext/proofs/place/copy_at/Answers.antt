use Rattle.std.proofs.Common.{◌≡◌, ◌+◌, ◌≤◌, length, take, drop, arith, length-take-le, length-drop}
use Rattle.std.proofs.lemmas.Simd.{take_more_put_chunk}
use Rattle.rowtext.proofs.place.copy_at.Goals as goal

pub returns : goal.returns
returns g c =
    let rest = drop c.args.from c.args.buffer.now in
    let room : g.row.N ≤ length rest = rw length-drop (omega (arith, c.requires.0)) in
    let long : length (take g.row.N rest) ≡ g.row.N = length-take-le g.row.N rest room in
    take_more_put_chunk c.args.at c.args.buffer.now (take g.row.N rest) (c.args.at + g.row.N) (omega arith) (omega (arith, c.requires.0, c.requires.1))
