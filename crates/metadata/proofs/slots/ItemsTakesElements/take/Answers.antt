use Rattle.std.specs.Prelude.{map}
use Rattle.thrift_compact.specs.View.{code_of}
use Rattle.thrift_compact.specs.Values.{ReadAs}
use Rattle.metadata.specs.inner.Slots.{item_step}
use Rattle.metadata.proofs.Readings.{refused, item_refused}
use Rattle.metadata.proofs.slots.ItemsTakesElements.take.Goals as goal

pub returns-in_err-item-clause-which : goal.returns-in_err-item-clause-which
returns-in_err-item-clause-which g c =
    let v = c.args.value in
    let T = g.T.FromNode in
    let done = map T.shown c.args.self.now.items.items in
    refused (ReadAs T.read (code_of v.kind) v.left) (ReadAs (item_step T.read done) (code_of v.kind) v.left) v.bytes.now c.from_residual.result c.in_err-item.field-0.0 c.from_residual.ensures.1 c.in_err-item.ensures.which
    (item_refused T.read done (code_of v.kind) v.left)
