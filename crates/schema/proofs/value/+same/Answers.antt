use Rattle.schema.proofs.Sameness.{views-length}
use Rattle.schema.proofs.value.+same.Goals as goal

pub same_all-returns-then-a-b : goal.same_all-returns-then-a-b
same_all-returns-then-a-b t c = ((λ h. cc), (λ h. absurd (c.if-a-b.true (views-length _ _ h))))
