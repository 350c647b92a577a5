use Rattle.std.proofs.Common.{◌∙◌, sym, ap}
use Rattle.schema.specs.Borrowed.{value_ref_view}
use Rattle.schema.specs.declared.borrowed.ValueRef.{ValueRef}
use Rattle.schema.specs.Values.{view}
use Rattle.filter.specs.Same.{is_listed}
use Rattle.filter.proofs.operand.Operand.lists.Goals as goal

pub returns-in-Bytes : goal.returns-in-Bytes
returns-in-Bytes c = c.contains-in-Bytes.ensures ∙ c.args.self.now.texts_are c.in-Bytes.text.now ∙ ap (λ (v : ValueRef). is_listed (value_ref_view v) (view c.args.self.now.value)) (sym c.in-Bytes.is)
