use Rattle.std.proofs.Common.{◌≢◌, ℕ, List, Option, sym, subst}
use Rattle.std.specs.Prelude.{IfErr}
use Rattle.bits.specs.Refusals.{IsFault}
use Rattle.bits.specs.declared.refusal.Refusal.TheVariants.{Device}
use Rattle.schema.specs.Values.{ValueTrees}
use Rattle.schema.specs.Shape.{Fields}
use Rattle.program.specs.Program.{MeansUpTo}
use Rattle.program.proofs.first_rows.decode_up_to.Goals as goal

pub returns-in-None-clause-only : goal.returns-in-None-clause-only
returns-in-None-clause-only g c =
    subst (λ (limit : Option ℕ). IfErr c.decode.result (λ e. IsFault e → e ≢ Device → (fs : Fields) (rows : List ValueTrees) → MeansUpTo limit c.args.bytes.now fs rows → ⊥)) (sym c.in-None.is) c.decode.ensures.only

pub returns-in-Some-clause-only : goal.returns-in-Some-clause-only
returns-in-Some-clause-only g c =
    subst (λ (limit : Option ℕ). IfErr c.decode_first.result (λ e. IsFault e → e ≢ Device → (fs : Fields) (rows : List ValueTrees) → MeansUpTo limit c.args.bytes.now fs rows → ⊥)) (sym c.in-Some.is) c.decode_first.ensures.only
