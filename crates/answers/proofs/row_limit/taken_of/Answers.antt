use Rattle.std.proofs.Common.{◌≡◌, ◌∙◌, ℕ, Option, length, ap, sym, subst, arith, take_all as all_taken}
use Rattle.answers.specs.QueryFile.{first_of}
use Rattle.answers.proofs.FirstOf.{few_taken}
use Rattle.answers.proofs.row_limit.taken_of.Goals as goal

pub returns-then-limit-count : goal.returns-then-limit-count
returns-then-limit-count c = λ rows many.
    subst (λ (l : Option ℕ). c.in-Some.limit ≡ length (first_of l rows)) (sym c.in-Some.is) (sym (few_taken c.in-Some.limit rows (omega (arith, many, c.if-limit-count.true))))

pub returns-else-limit-count : goal.returns-else-limit-count
returns-else-limit-count c = λ rows many.
    subst (λ (l : Option ℕ). c.args.count ≡ length (first_of l rows)) (sym c.in-Some.is) (many ∙ sym (ap length (all_taken c.in-Some.limit rows (omega (arith, many, c.if-limit-count.false)))))

pub returns-in-None : goal.returns-in-None
returns-in-None c = λ rows many. subst (λ (l : Option ℕ). c.args.count ≡ length (first_of l rows)) (sym c.in-None.is) many
