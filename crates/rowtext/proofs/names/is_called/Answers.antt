use Rattle.std.proofs.Common.{sym, subst, ◌∙◌}
use Rattle.std.proofs.lemmas.Slice.Eq.{bytes_eq-Decides}
use Rattle.schema.specs.Views.{field_views}
use Rattle.rowtext.specs.inner.Fill.{IsCalled}
use Rattle.rowtext.proofs.Filling.{called_there}
use Rattle.rowtext.proofs.names.is_called.Goals as goal

pub returns-in-Some : goal.returns-in-Some
returns-in-Some c same =
    let called = sym c.name.ensures ∙ (bytes_eq-Decides _ _).0 (sym c.eq.ensures ∙ same) in
    subst (IsCalled (field_views c.args.fields.now) c.args.index) called (called_there c.args.fields.now c.args.index c.in-Some.field.now c.in-Some.ensures.lookup.3.0 c.in-Some.ensures.lookup.1)
