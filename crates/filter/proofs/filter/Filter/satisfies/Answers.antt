use Rattle.std.proofs.Common.{◌≡◌, ℕ, vec_len, ◌==◌, ap, ◌∙◌}
use Rattle.std.proofs.lemmas.Bool.{false≢true}
use Rattle.schema.specs.Views.{row_view}
use Rattle.filter.specs.Test.{tests_in}
use Rattle.filter.proofs.Relations.{satisfied_when, no_ands}
use Rattle.filter.proofs.filter.Filter.satisfies.Goals as goal

pub returns-else-is_empty : goal.returns-else-is_empty
returns-else-is_empty c = satisfied_when (tests_in c.args.self.now) (row_view c.args.row.now) c.some_holds.result
    (λ e. let none = no_ands c.args.self.now.ands.items e in
    let zero : vec_len c.args.self.now.ands ≡ 0 = cc in
    false≢true (c.if-is_empty.ensures ∙ ap (λ (n : ℕ). n == 0) zero))
    (rw (c.as_slice.ensures.value, c.as_slice-else-is_empty.ensures.value) at c.some_holds.ensures)
