use Rattle.std.proofs.Common.{inl}
use Rattle.program.specs.Asked.{AreAsking}
use Rattle.program.proofs.calls.ended.Goals as goal

pub returns-clause-refused : goal.returns-clause-refused
returns-clause-refused g c =
    let asked : AreAsking c.args.words.now c.in-Ok-Ok.request = rw c.in-Ok-Ok.field-0-is at c.in-Ok-Ok.ensures.asking in
    λ _. record {
      refusal = c.in-Err-make.refusal;
      why = inl (record { request = c.in-Ok-Ok.request; asked = asked; refused = c.in-Err-make.ensures.refused; kept = c.make.ensures.kept });
      before = _;
      told = c.refuse-in-Err-make.ensures.told;
    }
