use Rattle.std.proofs.Common.{◌≡◌, ◌-◌, ◌++◌, length, drop, sym, ap, ◌∙◌, arith}
use Rattle.std.proofs.lemmas.Bool.Decides.{Decides-eqb}
use Rattle.std.proofs.lemmas.List.{length-drop}
use Rattle.std.proofs.lemmas.Slice.Eq.{starts_is}
use Rattle.rowtext.proofs.Lines.{taken}
use Rattle.rowtext.proofs.cursor.Cursor.skip.Goals as goal

pub returns-then-starts_with-clause-taken : goal.returns-then-starts_with-clause-taken
returns-then-starts_with-clause-taken c held =
    let text = c.args.self.now.text.now in
    let at = c.args.self.now.at in
    let s = c.args.bytes.now in
    let r = c.rest.result.now in
    let split : r ≡ s ++ drop (length s) r = (starts_is Decides-eqb r s c.starts_with.result c.starts_with.ensures.value).0 c.if-starts_with.true in
    let same : r ≡ drop at text = c.rest.ensures in
    let long : length r ≡ length text - at = ap length same ∙ length-drop at text in
    taken text s at (length s) _ (omega (arith, c.if-starts_with.ensures.bound, long)) (sym same ∙ split ∙ ap (λ x. s ++ drop (length s) x) same)
