use Rattle.std.proofs.Common.{◌≡◌, ◌∙◌, ◌+◌, ◌-◌, ◌++◌, ◌∷◌, [], ℕ, List, map, take, drop, slice_index_or, ap, sym, subst, arith, append_assoc}
use Rattle.std.proofs.lemmas.List.{append-nil, drop_all, map_push}
use Rattle.bits.specs.Refusals.{HasCause}
use Rattle.bits.proofs.Passing.{passes}
use Rattle.metadata.specs.Begun.{BeginsChunk}
use Rattle.metadata.specs.Records.{ChunkMeta}
use Rattle.metadata.specs.Views.{chunk_meta_view}
use Rattle.manifest.specs.KeptChunks.{IsRestOf}
use Rattle.manifest.proofs.KeptRecords.{taken_at, none_left}
use Rattle.manifest.proofs.chunk_records.ChunkRecords.to_chunks.Goals as goal

pub returns-in_err-chunk-clause-which : goal.returns-in_err-chunk-clause-which
returns-in_err-chunk-clause-which c =
    let ends = c.as_slice-end-items.result.now in
    let i = c.loop-end.end-index in
    let at = c.loop-end.at in
    let end = slice_index_or ends i 0 in
    let was = c.loop-end.invariant in
    let n = taken_at c.args.self.now.bytes.items at ends i was.0 (omega arith) was.2 in
    let begun = subst (λ (t : List ℕ). BeginsChunk [] [] t) (sym c.as_slice.ensures.value) c.in_ok-start.ensures.stands in
    let here = subst (λ (t : List ℕ). IsRestOf (take (end - at) (drop at t)) n.first) (sym c.deref.ensures.value) n.here in
    passes (HasCause (λ f. ⊥)) c.from_residual-in_err-chunk.result c.in_err-chunk.field-0.0 c.from_residual-in_err-chunk.ensures.1 (c.in_err-chunk.ensures.which n.first begun here)

pub loop-end-preserved : goal.loop-end-preserved
loop-end-preserved c =
    let ends = c.as_slice-end-items.result.now in
    let i = c.loop-end.end-index in
    let at = c.loop-end.at in
    let end = slice_index_or ends i 0 in
    let was = c.loop-end.invariant in
    let before = c.loop-end.chunks.items in
    let n = taken_at c.args.self.now.bytes.items at ends i was.0 (omega arith) was.2 in
    let begun = subst (λ (t : List ℕ). BeginsChunk [] [] t) (sym c.as_slice.ensures.value) c.in_ok-start.ensures.stands in
    let here = subst (λ (t : List ℕ). IsRestOf (take (end - at) (drop at t)) n.first) (sym c.deref.ensures.value) n.here in
    let chunk = c.in_ok-chunk.chunk in
    let seen : chunk_meta_view chunk ≡ n.first = c.in_ok-chunk.ensures.stands n.first begun here in
    let pushed : map chunk_meta_view c.push.new.self.items ≡ map chunk_meta_view before ++ n.first ∷ []
    = ap (map chunk_meta_view) c.in_ok-push.ensures.items ∙ map_push chunk_meta_view before chunk ∙ ap (λ (x : ChunkMeta). map chunk_meta_view before ++ x ∷ []) seen in (
      n.rest,
      ap (λ (xs : List ChunkMeta). xs ++ n.rest) pushed ∙ append_assoc (map chunk_meta_view before) (n.first ∷ []) n.rest ∙ ap (λ (xs : List ChunkMeta). map chunk_meta_view before ++ xs) (sym n.are) ∙ was.1,
      n.left,
    )

pub returns-clause-are : goal.returns-clause-are
returns-clause-are c =
    let ends = c.as_slice-end-items.result.now in
    let i = c.loop-end.end-index in
    let was = c.loop-end.invariant in
    let all = map chunk_meta_view c.loop-end.chunks.items in
    let none = none_left c.args.self.now.bytes.items c.loop-end.at (drop i ends) was.0 (drop_all i ends (omega arith)) was.2 in
    sym (append-nil all) ∙ ap (λ (xs : List ChunkMeta). all ++ xs) (sym none) ∙ was.1
