use Rattle.std.proofs.Common.{refl}
use Rattle.commands.specs.Calls.{made}
use Rattle.places.proofs.PlacesKept.{stays_so}
use Rattle.commands.proofs.CallMade.{no_memory_of}
use Rattle.commands.proofs.making.Folders.make_call.Goals as goal

pub returns-in_err-notes-clause-comes : goal.returns-in_err-notes-clause-comes
returns-in_err-notes-clause-comes g c =
    no_memory_of c.from_residual.result c.in_err-notes.field-0.0 c.from_residual.ensures.1 c.in_err-notes.ensures.memory (stays_so (g.P.Places.known c.args.self.now.places)) refl

pub returns-clause-comes : goal.returns-clause-comes
returns-clause-comes g c =
    made (g.W.Write.contents c.make_filtered-made.new.out) c.make_filtered-made.result c.make_filtered-made.ensures.comes c.flush-flushed.ensures.bytes c.passed_on-passed.ensures
