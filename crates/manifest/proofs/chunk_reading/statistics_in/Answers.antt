use Rattle.std.proofs.Common.{◌≡◌, sym, subst}
use Rattle.bits.specs.declared.refusal.Refusal.TheVariants.{Memory}
use Rattle.bits.specs.Refusals.{IsFault}
use Rattle.bits.proofs.Passing.{passes}
use Rattle.schema.specs.Views.{leaf_view}
use Rattle.metadata.specs.Views.{chunk_meta_view}
use Rattle.statistics.specs.Bounds.{Statistics}
use Rattle.manifest.specs.Records.{IsChunkRecord}
use Rattle.manifest.specs.KeptChunks.{unplaced}
use Rattle.manifest.proofs.chunk_reading.statistics_in.Goals as goal

pub returns-in_err-_start-clause-only : goal.returns-in_err-_start-clause-only
returns-in_err-_start-clause-only c =
    passes (λ e. (e ≡ Memory → ⊥) → (s : Statistics) → IsChunkRecord (leaf_view c.args.leaf.now) (unplaced (chunk_meta_view c.args.chunk.now)) s → ⊥)
    c.from_residual-in_err-_start.result c.in_err-_start.field-0.0 c.from_residual-in_err-_start.ensures.1
    (λ other s r. c.in_err-_start.ensures.only (subst IsFault (sym c.in_err-_start.ensures.cause) tt) r.start r.starts)
