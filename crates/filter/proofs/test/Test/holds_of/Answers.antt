use Rattle.std.proofs.Common.{sym, ◌∙◌, ap}
use Rattle.schema.specs.Values.{ValueTree}
use Rattle.filter.specs.Test.{way_view}
use Rattle.filter.specs.Test.{test_view, value_at}
use Rattle.filter.specs.Deciding.{holds}
use Rattle.filter.proofs.Members.{value_at_null}
use Rattle.filter.proofs.test.Test.holds_of.Goals as goal

-- a way that ends early ends at null
pub returns-in-None : goal.returns-in-None
returns-in-None c = sym (ap (λ (m : ValueTree). holds (test_view c.args.self.now) (value_at (way_view c.args.self.now.rest.items) m)) c.in-None.ensures
    ∙ ap (holds (test_view c.args.self.now)) (value_at_null (way_view c.args.self.now.rest.items)))
