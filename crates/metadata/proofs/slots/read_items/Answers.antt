use Rattle.std.proofs.Common.{[], subst, sym}
use Rattle.std.specs.Prelude.{map}
use Rattle.bits.specs.Codec.{NothingStands}
use Rattle.thrift_compact.specs.View.{code_of}
use Rattle.thrift_compact.specs.Values.{ReadAs, elements_by}
use Rattle.metadata.specs.FieldValues.{list_by}
use Rattle.metadata.specs.inner.Slots.{item_step}
use Rattle.metadata.proofs.Readings.{refused, same_read, same_refused, items_are}
use Rattle.metadata.proofs.slots.read_items.Goals as goal

pub returns-clause-stands : goal.returns-clause-stands
returns-clause-stands g c =
    let T = g.T.FromNode in
    let v = c.args.value in
    let held = map T.shown c.take_elements.new.taker.items.items in
    let s = subst (λ xs. ReadAs (elements_by (item_step T.read) (map T.shown xs)) (code_of v.kind) v.left v.bytes.now held c.in_ok-used.used) c.new.ensures.items c.in_ok-used.ensures.stands in
    subst (λ xs. ReadAs (list_by T.read) (code_of v.kind) v.left v.bytes.now (map T.shown xs) c.in_ok-used.used) (sym c.shrink_to_fit.ensures.items)
    (same_read (elements_by (item_step T.read) []) (list_by T.read) (code_of v.kind) v.left v.bytes.now held c.in_ok-used.used (items_are T.read) s)

pub returns-in_err-used-clause-which : goal.returns-in_err-used-clause-which
returns-in_err-used-clause-which g c =
    let T = g.T.FromNode in
    let v = c.args.value in
    refused (ReadAs (elements_by (item_step T.read) (map T.shown c.new.result.items)) (code_of v.kind) v.left) (ReadAs (list_by T.read) (code_of v.kind) v.left) v.bytes.now c.from_residual.result c.in_err-used.field-0.0 c.from_residual.ensures.1 c.in_err-used.ensures.which
    (λ b nothing. same_refused (elements_by (item_step T.read) []) (list_by T.read) (code_of v.kind) v.left (items_are T.read) b
    (subst (λ xs. NothingStands (ReadAs (elements_by (item_step T.read) (map T.shown xs)) (code_of v.kind) v.left b)) c.new.ensures.items nothing))
