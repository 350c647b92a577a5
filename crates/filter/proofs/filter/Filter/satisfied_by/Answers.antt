use Rattle.std.proofs.Common.{◌≡◌, ℕ, vec_len, ◌==◌, ap, ◌∙◌}
use Rattle.std.proofs.lemmas.Bool.{false≢true}
use Rattle.schema.specs.Values.{views}
use Rattle.filter.specs.Test.{tests_in}
use Rattle.filter.proofs.Relations.{satisfied_when, no_ands}
use Rattle.filter.proofs.LeafValues.{same_tests}
use Rattle.filter.proofs.filter.Filter.satisfied_by.Goals as goal

pub returns-else-is_empty : goal.returns-else-is_empty
returns-else-is_empty c = λ row at. satisfied_when (tests_in c.args.self.now) row c.some_holds_at.result
    (λ e. let none = no_ands c.args.self.now.ands.items e in
    let zero : vec_len c.args.self.now.ands ≡ 0 = cc in
    false≢true (c.if-is_empty.ensures ∙ ap (λ (n : ℕ). n == 0) zero))
    ((rw (c.as_slice.ensures.value) at c.some_holds_at.ensures) ∙ same_tests (tests_in c.args.self.now) (views c.args.leaves.now) row at)
