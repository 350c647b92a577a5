use Rattle.std.proofs.Common.{ℕ, List, length, sym, subst}
use Rattle.commands.specs.inner.LineCuts.{IsLineLength}
use Rattle.commands.proofs.line_cuts.line_at.Goals as goal

pub returns-clause-is : goal.returns-clause-is
returns-clause-is c =
    let line = c.split_at-2.result.0.now in
    subst (λ (rest : List ℕ). IsLineLength rest (length line)) c.split_at.ensures.back
    (subst (IsLineLength c.split_at.result.1.now) (sym c.split_at-2.ensures.front_len) c.line_length.ensures.is)
