use Rattle.schema.proofs.Texts.{all_bytes}
use Rattle.rowtext.proofs.Unescaping.{begun, quote_found, escape_found}
use Rattle.rowtext.proofs.escapes.printed_end.Goals as goal

pub bytes-init : goal.bytes-init
bytes-init c = begun c.args.text.now c.utf8.text

pub returns-then-bytes-at-eq34 : goal.returns-then-bytes-at-eq34
returns-then-bytes-at-eq34 c =
    let d = c.args.text.now in
    quote_found d c.as_bytes-bytes.result.now c.as_bytes-bytes.ensures.value c.utf8.text c.bytes.at c.plain_front.result c.bytes.invariant c.plain_front.ensures.plain (all_bytes d c.type_inv.text) c.if-at-bytes.true c.if-bytes-at-eq34.true

pub bytes-preserved : goal.bytes-preserved
bytes-preserved c =
    escape_found c.args.text.now c.as_bytes-bytes.result.now c.as_bytes-bytes.ensures.value c.utf8.text c.bytes.at c.plain_front.result c.bytes.invariant c.plain_front.ensures.plain c.in_ok-at.field-0 c.in_ok-at.ensures
