use Rattle.std.proofs.Common.{List, sym, subst, ◌∙◌}
use Rattle.std.specs.List.{AllByRecursion}
use Rattle.schema.specs.Elements.{Element}
use Rattle.metadata.specs.Kept.{KeepsWritten}
use Rattle.schema.specs.Listed.{elements_of}
use Rattle.schema.proofs.Limits.{not_too_large}
use Rattle.footer.proofs.Writable.{elements_writable}
use Rattle.footer.proofs.footer_record.record_of.Goals as goal

pub returns-clause-writable : goal.returns-clause-writable
returns-clause-writable c =
    subst (λ (es : List Element). AllByRecursion KeepsWritten es) (sym (c.in_ok-elements.ensures.copies ∙ c.elements.ensures)) (elements_writable c.args.schema.now c.leaves-leaves.ensures.valid)

pub returns-clause-within_limits : goal.returns-clause-within_limits
returns-clause-within_limits c =
    let fs = c.args.schema.now in
    not_too_large (elements_of fs) fs (c.a_schema_is_its_elements.ensures fs c.leaves-leaves.ensures.valid) c.leaves-leaves.ensures.shallow c.leaves-leaves.ensures.within
