use Rattle.std.proofs.Common.{◌≡◌, ◌+◌, ◌++◌, ◌∷◌, [], ℕ, List, length, map, take, refl, ap, sym, subst, ◌∙◌, arith}
use Rattle.std.proofs.lemmas.List.{take_all, map_push}
use Rattle.lists.proofs.Slices.{take_next}
use Rattle.metadata.specs.Records.{ChunkMeta}
use Rattle.metadata.specs.declared.chunk_meta.ChunkMeta.{ChunkMeta as CodeChunkMeta}
use Rattle.metadata.specs.Views.{chunk_meta_view}
use Rattle.manifest.specs.KeptChunks.{AreRestsOf, unplaced}
use Rattle.manifest.proofs.KeptRecords.{AreWritten, none_written, written_more}
use Rattle.manifest.proofs.chunk_records.rests_of.Goals as goal

pub loop-chunk-init : goal.loop-chunk-init
loop-chunk-init c = none_written c.new-bytes.result.items c.in_ok-ends.ends.items c.new-bytes.ensures.items c.in_ok-ends.ensures.items

pub loop-chunk-preserved : goal.loop-chunk-preserved
loop-chunk-preserved c =
    let cs = c.args.chunks.now in
    let i = c.loop-chunk.chunk-index in
    let x = c.chunk-item.result in
    let seen = unplaced (chunk_meta_view x) in
    let front = map unplaced (map chunk_meta_view (take i cs)) in
    let longer : map unplaced (map chunk_meta_view (take (i + 1) cs)) ≡ front ++ seen ∷ []
    = ap (λ (xs : List CodeChunkMeta). map unplaced (map chunk_meta_view xs)) (take_next cs i x (omega arith) c.chunk-item.is)
    ∙ ap (map unplaced) (map_push chunk_meta_view (take i cs) x) ∙ map_push unplaced (map chunk_meta_view (take i cs)) (chunk_meta_view x) in
    let more = written_more c.loop-chunk.bytes.items c.put_rest.new.out.items c.loop-chunk.ends.items front seen refl c.in_ok-put_rest.ensures.stands c.loop-chunk.invariant in
    subst (λ (ends : List ℕ). AreWritten c.put_rest.new.out.items ends (map unplaced (map chunk_meta_view (take (i + 1) cs)))) (sym (c.in_ok-push.ensures.items ∙ ap (λ (n : ℕ). c.loop-chunk.ends.items ++ n ∷ []) (let end : c.len.result ≡ length c.put_rest.new.out.items = omega (arith, c.len.ensures, c.put_rest.new.out.ok) in end)))
    (subst (λ (ys : List ChunkMeta). AreWritten c.put_rest.new.out.items (c.loop-chunk.ends.items ++ length c.put_rest.new.out.items ∷ []) ys) (sym longer) more)

pub returns-clause-stands : goal.returns-clause-stands
returns-clause-stands c =
    let cs = c.args.chunks.now in
    let all : take c.loop-chunk.chunk-index cs ≡ cs = take_all c.loop-chunk.chunk-index cs (omega arith) in
    subst (λ (bytes : List ℕ). AreRestsOf bytes 0 c.loop-chunk.ends.items (map unplaced (map chunk_meta_view cs))) (sym c.shrink_to_fit.ensures.items)
    (subst (λ (xs : List CodeChunkMeta). AreRestsOf c.loop-chunk.bytes.items 0 c.loop-chunk.ends.items (map unplaced (map chunk_meta_view xs))) all c.loop-chunk.invariant.rests)
