use Rattle.std.proofs.Common.{Vec, Global, Bool, List, ap, ◌∙◌}
use Rattle.std.proofs.lemmas.List.{with_items_is}
use Rattle.schema.specs.Borrowed.{value_ref_view}
use Rattle.filter.specs.declared.test.Test.{Test as CodeTest}
use Rattle.filter.specs.Test.{tests_in, ands_view}
use Rattle.filter.specs.Verdicts.{verdicts_view}
use Rattle.filter.specs.inner.Judging.{judged}
use Rattle.filter.proofs.Renewing.{tests_put}
use Rattle.filter.proofs.filter.Filter.look.Goals as goal

pub returns : goal.returns
returns c = λ before after known put.
    let n = c.args.leaf in
    let v = value_ref_view c.args.value in
    ap verdicts_view (with_items_is c.args.verdicts.now.ands c.look_in_all.new.verdicts (c.look_in_all.auto.verdicts ∙ c.as_mut_slice.ensures.len))
    ∙ c.look_in_all.ensures
    ∙ ap (λ (ands : List (Vec CodeTest Global)). judged n v (ands_view ands) (verdicts_view c.as_mut_slice.result.now)) c.as_slice.ensures.value
    ∙ ap (λ (vs : List (Vec Bool Global)). judged n v (tests_in c.args.self.now) (verdicts_view vs)) c.as_mut_slice.ensures.value
    ∙ ap (λ (vs : List (List Bool)). judged n v (tests_in c.args.self.now) vs) known
    ∙ tests_put n v before after put (tests_in c.args.self.now)
