use Rattle.std.proofs.Common.{subst}
use Rattle.schema.specs.Elements.{elements_view}
use Rattle.schema.specs.Faults.{HasFault}
use Rattle.schema.proofs.TableLeaves.{is_fault}
use Rattle.schema.proofs.keyed.schema_of.Goals as goal

pub returns-in-Err-clause-only : goal.returns-in-Err-clause-only
returns-in-Err-clause-only c = λ other fs s small.
    let e = c.in-Err.refusal in
    c.in-Err.ensures.only (is_fault e (λ limit. small (subst (HasFault (elements_view c.args.elements.now)) limit c.in-Err.ensures.which)) (λ memory. other (c.as_key.ensures.memory memory))) fs s
