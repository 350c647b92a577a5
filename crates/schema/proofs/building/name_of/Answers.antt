use Rattle.std.proofs.Common.{◌∙◌, sym, subst}
use Rattle.std.specs.Str.{IsUtf8}
use Rattle.std.proofs.lemmas.Str.{IsUtf8-from_is_utf8, is_utf8-from_IsUtf8}
use Rattle.std.proofs.lemmas.Bool.{false_from_ne_true as not_true}
use Rattle.schema.proofs.building.name_of.Goals as goal

pub returns-in_default-clause-which : goal.returns-in_default-clause-which
returns-in_default-clause-which c = not_true _ (λ h. c.in_default.ensures.cases.0 (subst IsUtf8 (sym c.as_slice.ensures.value) (IsUtf8-from_is_utf8 _ h)))

pub returns-clause-stands : goal.returns-clause-stands
returns-clause-stands c = (c.in_ok-from_str.ensures.ok ∙ c.in-Ok.ensures.cases.0 ∙ c.as_slice.ensures.value, is_utf8-from_IsUtf8 _ (subst IsUtf8 c.as_slice.ensures.value c.in-Ok.ensures.cases.1))
