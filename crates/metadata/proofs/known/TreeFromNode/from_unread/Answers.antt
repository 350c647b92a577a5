use Rattle.std.proofs.Common.{refl}
use Rattle.thrift_compact.specs.Tree.{struct}
use Rattle.thrift_compact.specs.View.{code_of, tree_view}
use Rattle.thrift_compact.specs.Values.{ValueOf, ReadAs}
use Rattle.metadata.specs.FieldValues.{tree}
use Rattle.metadata.proofs.Readings.{refused, form_read, form_refused, tree_is}
use Rattle.metadata.proofs.known.TreeFromNode.from_unread.Goals as goal

pub returns-clause-stands : goal.returns-clause-stands
returns-clause-stands c = let v = c.args.value in form_read tree struct (code_of v.kind) v.left v.bytes.now (tree_view c.in_ok-found.found) c.in_ok-found.used (λ z. refl) c.in_ok-found.ensures.stands

pub returns-in_err-found-clause-which : goal.returns-in_err-found-clause-which
returns-in_err-found-clause-which c =
    let v = c.args.value in
    refused (λ b y. ValueOf (code_of v.kind) v.left b (struct y)) (ReadAs tree (code_of v.kind) v.left) v.bytes.now c.from_residual.result c.in_err-found.field-0.0 c.from_residual.ensures.1 c.in_err-found.ensures.which
    (form_refused tree struct (code_of v.kind) v.left tree_is)
