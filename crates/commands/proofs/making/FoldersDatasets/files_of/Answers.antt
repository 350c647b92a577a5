use Rattle.std.proofs.Common.{Result, Some}
use Rattle.std.specs.Prelude.{⊤}
use Rattle.std.proofs.lemmas.Result.{on_ok_weaker}
use Rattle.bits.specs.declared.refusal.Refusal.{Refusal}
use Rattle.commands.specs.Calls.{GivesCall}
use Rattle.commands.proofs.CallMade.{done_of}
use Rattle.commands.proofs.making.FoldersDatasets.files_of.Goals as goal

pub returns-clause-gives : goal.returns-clause-gives
returns-clause-gives g c =
    let known = g.P.Places.known in
    let taken = g.K.FileSink.taken in
    let most = Some c.args.self.now.part_bytes in
    let Gives = λ (r : Result ⊤ Refusal). GivesCall g.row.S.Denot g.P.Disk.Disk.state (known c.args.self.now.places) (known c.give_files.new.self.places) c.args.call.now most (taken c.args.sink.now) (taken c.give_files.new.sink) r in
    on_ok_weaker c.give_files.result (λ gives. (most, gives)) (done_of Gives c.give_files.result c.give_files.ensures.gives)
