use Rattle.std.proofs.Common.{List, ℕ, subst}
use Rattle.metadata.specs.Begun.{BeginsChunk}
use Rattle.manifest.proofs.chunk_records.start_of.Goals as goal

pub returns-clause-stands : goal.returns-clause-stands
returns-clause-stands c = subst (λ (old : List ℕ). BeginsChunk c.args.path.now old c.begin_chunk.new.out.items) c.new-start.ensures.items c.in_ok-begin_chunk.ensures.stands
