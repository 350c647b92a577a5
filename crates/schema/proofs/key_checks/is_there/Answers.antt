use Rattle.std.proofs.Common.{Some, ap, sym, ◌∙◌, arith}
use Rattle.schema.specs.Shape.{Field}
use Rattle.std.proofs.lemmas.Bool.{false≢true}
use Rattle.schema.proofs.KeyChecks.{field_here, none_past, one_field_here}
use Rattle.schema.proofs.key_checks.is_there.Goals as goal

pub returns-then-key-fields : goal.returns-then-key-fields
returns-then-key-fields c = ((λ h. absurd (false≢true h)), (λ h. absurd (none_past c.args.fields.now _ _ (omega arith) h.there)))

pub returns : goal.returns
returns c =
    let here = field_here c.args.fields.now c.args.key.now.at c.index-fields-key.result (omega arith) c.index-fields-key.is in (
      (λ h. record { named = c.has_name.ensures.0 c.if-not-has_name.false; there = here ∙ ap (λ (f : Field). Some f) (c.is_field_of.ensures.0 h) }),
      (λ h. c.is_field_of.ensures.1 (one_field_here _ _ (sym here ∙ h.there))),
    )
