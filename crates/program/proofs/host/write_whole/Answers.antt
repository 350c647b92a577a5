use Rattle.std.proofs.KnownBytes.{Appends-kept}
use Rattle.program.proofs.Printed.{when_ok}
use Rattle.program.proofs.host.write_whole.Goals as goal

pub returns-clause-stands : goal.returns-clause-stands
returns-clause-stands g c =
    when_ok _ c.map_err.result (Appends-kept (g.W.Write.contents c.args.out.now) (g.W.Write.contents c.write_text.new.out) (g.W.Write.contents c.flush.new.self) c.args.text.now c.in_ok-write_text.ensures.stands c.flush.ensures.bytes)
