use Rattle.std.proofs.Common.{◌≡◌, ◌++◌, [], ℕ, List, length, ap, sym, subst, ◌∙◌}
use Rattle.bits.specs.Refusals.{HasCause}
use Rattle.bits.specs.Codec.{NothingStands}
use Rattle.bits.proofs.Passing.{passes}
use Rattle.metadata.specs.Records.{ChunkMeta}
use Rattle.metadata.specs.FromTree.{chunk_meta}
use Rattle.metadata.specs.Views.{chunk_meta_view}
use Rattle.metadata.specs.Answers.{StandsFor}
use Rattle.manifest.specs.KeptChunks.{placed}
use Rattle.manifest.proofs.KeptRecords.{memory_left, stands_behind, without_path}
use Rattle.manifest.proofs.chunk_records.chunk_in.Goals as goal

-- where a record stands, it is not refused for a fault
pub returns-in_err-chunk-clause-which : goal.returns-in_err-chunk-clause-which
returns-in_err-chunk-clause-which c = λ x begun is.
    let bytes = c.extend_from_slice.new.self.items in
    let joined : bytes ≡ c.args.start.now ++ c.args.rest.now = c.in_ok-extend_from_slice.ensures.items ∙ ap (λ (t : List ℕ). t ++ c.args.rest.now) c.in_ok-bytes.ensures.items in
    let here = stands_behind c.footers_are_written_in_pieces.ensures.chunks c.records_again.ensures.chunk_meta c.args.start.now c.args.rest.now bytes x begun is joined in
    let e = c.in_err-chunk.field-0.0 in
    passes (HasCause (λ f. ⊥)) c.from_residual-in_err-chunk.result e c.from_residual-in_err-chunk.ensures.1
    (memory_left e c.in_err-chunk.ensures.which
    (λ fault.
    let none : NothingStands (StandsFor chunk_meta bytes) = subst (λ (t : List ℕ). NothingStands (StandsFor chunk_meta t)) c.as_slice.ensures.value (c.in_err-chunk.ensures.only fault) in
    none (placed [] x) (length bytes) here))

pub returns-clause-stands : goal.returns-clause-stands
returns-clause-stands c = λ x begun is.
    let bytes = c.extend_from_slice.new.self.items in
    let joined : bytes ≡ c.args.start.now ++ c.args.rest.now = c.in_ok-extend_from_slice.ensures.items ∙ ap (λ (t : List ℕ). t ++ c.args.rest.now) c.in_ok-bytes.ensures.items in
    let here = stands_behind c.footers_are_written_in_pieces.ensures.chunks c.records_again.ensures.chunk_meta c.args.start.now c.args.rest.now bytes x begun is joined in
    let seen = chunk_meta_view c.in_ok-chunk.chunk in
    let read = subst (λ (t : List ℕ). StandsFor chunk_meta t seen c.in_ok-chunk._used) c.as_slice.ensures.value c.in_ok-chunk.ensures.stands in
    without_path x seen is.here (c.one_chunk.ensures bytes seen (placed [] x) c.in_ok-chunk._used (length bytes) read here).0
