use Rattle.std.proofs.Common.{◌⊎◌, ◌≤◌, length, inl, inr, refl, arith}
use Rattle.delta.proofs.Completing.{completed_none}
use Rattle.delta.proofs.prefixes.Prefixed.advance.Goals as goal
use Rattle.delta.proofs.prefixes.Prefixed.advance.Goals.{then-self-len-via-then-self-len, then-self-len-via-else-self-len+then-self-len-2}

pub returns-then-self-len : goal.returns-then-self-len
returns-then-self-len c =
    let s = c.args.self.now in
    let end : (length s.prefixes.items ≤ s.index) ⊎ (length s.lengths.items ≤ s.index) = elim c.then-self-len.branch [
      | then-self-len-via-then-self-len w ↦ inl (omega (arith, w.if-self-len.true, c.len.ensures))
      | then-self-len-via-else-self-len+then-self-len-2 w ↦ inr (omega (arith, w.if-self-len-2.true, w.len-else-self-len.ensures))
    ] in
    let none = completed_none s.value.items s.prefixes.items s.lengths.items s.rest.now s.index end in
    (none, none, refl)
