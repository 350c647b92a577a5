use Rattle.std.proofs.Common.{[], ◌∷◌, ◌+◌, drop, sym, subst, arith, List}
use Rattle.std.proofs.lemmas.List.{drop_all}
use Rattle.lists.proofs.Slices.{drop_here as rest_is}
use Rattle.schema.specs.Stripe.{Entry}
use Rattle.schema.specs.Views.{leaf_view}
use Rattle.schema.specs.declared.field.Leaf.{Leaf as CodeLeaf}
use Rattle.metadata.specs.Views.{chunk_meta_view}
use Rattle.metadata.specs.declared.chunk_meta.ChunkMeta.{ChunkMeta as CodeChunk}
use Rattle.statistics.specs.Bounds.{statistics_of}
use Rattle.statistics.specs.declared.stats.Stats.{Stats}
use Rattle.upkeep.specs.inner.Columns.{AreColumns, IsColumn}
use Rattle.upkeep.proofs.Filling.{none_left, one_more_column, none_holds}
use Rattle.upkeep.proofs.columns.fault_of_columns.Goals as goal

pub loop-i-preserved : goal.loop-i-preserved
loop-i-preserved c = λ rest.
    let i = c.loop-i.i in
    let front = c.args.front.now in
    let leaves = c.args.leaves.now in
    let chunks = c.args.chunks.now in
    let stats = c.args.stats.now in
    let leaf = c.index-leaves-i.result in
    let chunk = c.index-chunks-i.result in
    let known = c.index-stats-i.result in
    let one = none_holds ((es : List Entry) × IsColumn front (leaf_view leaf) (chunk_meta_view chunk).meta_data (statistics_of known) es) c.in_ok-fault.fault c.if-is_some.ensures c.in_ok-fault.ensures.found in
    c.loop-i.invariant
    (subst (λ (xs : List CodeLeaf). AreColumns front xs (drop i chunks) (drop i stats)) (sym (rest_is leaves i c.index-leaves-i.result (omega arith) c.index-leaves-i.is))
    (subst (λ (xs : List CodeChunk). AreColumns front (leaf ∷ drop (i + 1) leaves) xs (drop i stats)) (sym (rest_is chunks i c.index-chunks-i.result (omega arith) c.index-chunks-i.is))
    (subst (λ (xs : List Stats). AreColumns front (leaf ∷ drop (i + 1) leaves) (chunk ∷ drop (i + 1) chunks) xs) (sym (rest_is stats i c.index-stats-i.result (omega arith) c.index-stats-i.is))
    (one_more_column front leaf chunk known (drop (i + 1) leaves) (drop (i + 1) chunks) (drop (i + 1) stats) one rest))))

pub returns-clause-found : goal.returns-clause-found
returns-clause-found c =
    let i = c.loop-i.i in
    let front = c.args.front.now in
    let leaves = c.args.leaves.now in
    let chunks = c.args.chunks.now in
    let stats = c.args.stats.now in
    c.loop-i.invariant
    (subst (λ (xs : List CodeLeaf). AreColumns front xs (drop i chunks) (drop i stats)) (sym (drop_all i leaves (omega arith)))
    (subst (λ (xs : List CodeChunk). AreColumns front [] xs (drop i stats)) (sym (drop_all i chunks (omega arith)))
    (subst (λ (xs : List Stats). AreColumns front [] [] xs) (sym (drop_all i stats (omega arith))) (none_left front))))
