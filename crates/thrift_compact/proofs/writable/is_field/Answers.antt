use Rattle.std.proofs.Common.{rules, ◌∙◌, ap}
use Rattle.std.specs.Prelude.{FitsSigned, nat_lt}
use Rattle.std.specs.Int.{w16}
use Rattle.thrift_compact.specs.View.{view}
use Rattle.thrift_compact.proofs.Passed.{field_told}
use Rattle.thrift_compact.proofs.writable.is_field.Goals as goal

pub returns : goal.returns
returns c =
    let fits : FitsSigned w16 c.args.field.now.id = search rules in
    ap (λ k. nat_lt k 16) c.type_code.ensures ∙ field_told c.args.field.now.id (view c.args.field.now.value) fits
