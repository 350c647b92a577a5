use Rattle.std.proofs.Common.{◌≡◌, ℕ, Vec, Bool, Global, List, vec_len, ◌==◌, ap, ◌∙◌}
use Rattle.std.specs.List.{list_any, list_all}
use Rattle.std.proofs.lemmas.Bool.{false≢true}
use Rattle.filter.specs.Test.{tests_in}
use Rattle.filter.specs.Verdicts.{verdicts_view}
use Rattle.filter.proofs.Relations.{satisfied_when, no_ands}
use Rattle.filter.proofs.LeafValues.{same_tests}
use Rattle.filter.proofs.Renewing.{some_true}
use Rattle.filter.proofs.filter.Filter.satisfied_in.Goals as goal

pub returns-else-is_empty : goal.returns-else-is_empty
returns-else-is_empty c = λ leaves row judged at. satisfied_when (tests_in c.args.self.now) row c.some_are_true.result
    (λ e. let none = no_ands c.args.self.now.ands.items e in
    let zero : vec_len c.args.self.now.ands ≡ 0 = cc in
    false≢true (c.if-is_empty.ensures ∙ ap (λ (n : ℕ). n == 0) zero))
    (c.some_are_true.ensures
    ∙ ap (λ (vs : List (Vec Bool Global)). list_any (λ (terms : List Bool). list_all (λ b. b) terms) (verdicts_view vs)) c.as_slice.ensures.value
    ∙ ap (λ (vs : List (List Bool)). list_any (λ (terms : List Bool). list_all (λ b. b) terms) vs) judged
    ∙ some_true (tests_in c.args.self.now) leaves ∙ same_tests (tests_in c.args.self.now) leaves row at)
