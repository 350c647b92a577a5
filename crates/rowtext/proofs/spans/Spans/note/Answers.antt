use Rattle.std.proofs.Common.{◌≡◌, ◌<◌, length, get_or, slice_set, Some, None, sym, subst, ◌∙◌, arith}
use Rattle.rowtext.specs.inner.PieceLists.{held}
use Rattle.rowtext.specs.inner.SpanLists.{SpanList}
use Rattle.rowtext.proofs.PieceLists.{few_noted}
use Rattle.rowtext.proofs.spans.Spans.note.Goals as goal

pub returns : goal.returns
returns c =
    let s = c.self.inside in
    let i = c.args.index in
    let new = held s.count (slice_set s.few i (Some c.args.span)) s.many.items in
    let noted = few_noted s.count i s.few s.many.items c.args.span (omega arith) (omega arith) (omega arith) (sym c.is_some.ensures ∙ c.if-is_some.false) in
    subst (λ (v : SpanList). (i < length v.items) × ((get_or v.items i None ≡ None) × (new ≡ slice_set v.items i (Some c.args.span)))) c.self.view_is noted
