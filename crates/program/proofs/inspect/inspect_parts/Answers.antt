use Rattle.std.proofs.Common.{◌≡◌, inl}
use Rattle.bits.specs.Refusals.{HasCause}
use Rattle.bits.specs.declared.refusal.Refusal.TheVariants.{Device}
use Rattle.bits.proofs.Passing.{passes}
use Rattle.program.specs.Program.{IsPartsRefusal}
use Rattle.program.proofs.Endings.{err_weaker, memory_or, unwritten}
use Rattle.program.proofs.inspect.inspect_parts.Goals as goal

pub returns-in_err-text-clause-which : goal.returns-in_err-text-clause-which
returns-in_err-text-clause-which g c = passes IsPartsRefusal c.from_residual.result c.in_err-text.field-0.0 c.from_residual.ensures.1 c.in_err-text.ensures.which

pub returns-clause-which : goal.returns-clause-which
returns-clause-which g c = err_weaker (HasCause (λ x. x ≡ Device)) IsPartsRefusal
    (λ e h. inl (memory_or (λ x. x ≡ Device) e h)) c.write_whole.result c.write_whole.ensures.which

pub returns-clause-unwritten : goal.returns-clause-unwritten
returns-clause-unwritten g c = unwritten _ _ c.write_whole.result c.write_whole.ensures.which
