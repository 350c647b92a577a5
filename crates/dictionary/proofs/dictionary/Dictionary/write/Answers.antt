use Rattle.std.proofs.Common.{List, map, subst}
use Rattle.std.specs.Prelude.{All}
use Rattle.bits.specs.Refusals.{OnFault}
use Rattle.schema.specs.declared.value.Value.{Value}
use Rattle.schema.specs.Values.{view}
use Rattle.plain.specs.Plain.{IsOfKind}
use Rattle.dictionary.proofs.dictionary.Dictionary.write.Goals as goal

pub returns-clause-unfit : goal.returns-clause-unfit
returns-clause-unfit c = subst (λ (vs : List Value). OnFault c.encode.result (All (IsOfKind c.args.kind) (map view vs) → ⊥)) c.as_slice.ensures.value c.encode.ensures.unfit
