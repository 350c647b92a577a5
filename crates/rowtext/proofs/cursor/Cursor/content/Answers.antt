use Rattle.std.proofs.Common.{◌+◌, subst, arith}
use Rattle.json.specs.Written.{PlainBetween}
use Rattle.rowtext.proofs.Lines.{content_taken}
use Rattle.rowtext.proofs.cursor.Cursor.content.Goals as goal

pub returns : goal.returns
returns c =
    let text = c.args.self.now.text.now in
    let at = c.args.self.now.at in
    let count = c.plain_front-count.result in
    let got = c.in_ok-content.ensures.cases in
    content_taken text c.in_ok-content.content.now at count (at + count) got.0 got.1 (omega arith) (subst (λ r. PlainBetween r 0 count) c.rest.ensures c.plain_front-count.ensures.plain)
