use Rattle.std.proofs.Common.{arith, ap, sym, ◌∙◌, ◌^◌, ◌-◌, Some, List, ℕ, ◌≡◌}
use Rattle.std.proofs.lemmas.List.{take_all}
use Rattle.vault.proofs.Steps.{reads_only}
use Rattle.vault.proofs.vault.Vault.root.Goals as goal

pub returns-in-Ok-clause-stands : goal.returns-in-Ok-clause-stands
returns-in-Ok-clause-stands g c honest =
    let read = (c.in-Ok.ensures.effect honest).done in
    let all : c.in-Ok.bytes.items ≡ read.0 = read.3 ∙ take_all (2 ^ 64 - 1) read.0 (omega (arith, read.2)) in
    read.1 ∙ ap (λ (l : List ℕ). Some l) (sym all)

pub returns-in-Ok-clause-unchanged : goal.returns-in-Ok-clause-unchanged
returns-in-Ok-clause-unchanged g c honest = reads_only _ _ (c.read_whole.ensures.effect honest).still

pub returns-in-Err-clause-unchanged : goal.returns-in-Err-clause-unchanged
returns-in-Err-clause-unchanged g c honest = reads_only _ _ (c.read_whole.ensures.effect honest).still
