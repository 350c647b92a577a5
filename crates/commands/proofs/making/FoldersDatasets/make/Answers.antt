use Rattle.std.proofs.Common.{Result}
use Rattle.std.specs.Prelude.{⊤}
use Rattle.bits.specs.declared.refusal.Refusal.{Refusal}
use Rattle.commands.specs.Calls.{CallComes}
use Rattle.commands.proofs.CallMade.{done_of, refused_of}
use Rattle.commands.proofs.making.FoldersDatasets.make.Goals as goal

pub returns-clause-done : goal.returns-clause-done
returns-clause-done g c =
    let known = g.P.Places.known in
    let contents = g.W.Write.contents in
    done_of (λ (r : Result ⊤ Refusal). CallComes g.row.S.Denot g.P.Disk.Disk.state known (known c.args.self.now.places) (known c.make_call.new.self.places) c.args.call.now (contents c.args.out.now) (contents c.make_call.new.out) r)
    c.make_call.result c.make_call.ensures.comes

pub returns-clause-refused : goal.returns-clause-refused
returns-clause-refused g c =
    let known = g.P.Places.known in
    let contents = g.W.Write.contents in
    refused_of (λ (r : Result ⊤ Refusal). CallComes g.row.S.Denot g.P.Disk.Disk.state known (known c.args.self.now.places) (known c.make_call.new.self.places) c.args.call.now (contents c.args.out.now) (contents c.make_call.new.out) r)
    c.make_call.result c.make_call.ensures.comes
