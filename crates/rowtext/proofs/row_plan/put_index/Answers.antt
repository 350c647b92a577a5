use Rattle.std.proofs.Common.{◌≡◌, string_bytes, ap, ◌∙◌, rules}
use Rattle.rowtext.specs.inner.Slots.{entries_view, put_index}
use Rattle.rowtext.proofs.RowPlans.{entries_put}
use Rattle.rowtext.proofs.row_plan.put_index.Goals as goal

pub returns : goal.returns
returns c =
    let old = c.args.indices.now.entries in
    let copied : string_bytes c.in_ok-name.name ≡ c.args.name.now = search rules in
    ap entries_view c.in_ok-insert.ensures.entries ∙ entries_put old c.in_ok-name.name c.args.index ∙ ap (λ k. put_index k c.args.index (entries_view old)) copied
