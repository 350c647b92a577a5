use Rattle.std.proofs.Common.{◌∙◌, ℕ, List, map, ap, subst}
use Rattle.std.proofs.lemmas.Option.{MatchOption-at_none}
use Rattle.schema.specs.Stripe.{Leaf, leaves_of}
use Rattle.schema.specs.Views.{leaf_view}
use Rattle.metadata.specs.Records.{ChunkMeta}
use Rattle.metadata.specs.Views.{chunk_meta_view}
use Rattle.statistics.specs.Bounds.{Statistics, statistics_of}
use Rattle.manifest.specs.Groups.{group_view}
use Rattle.manifest.specs.Parts.{AreFullChunks}
use Rattle.upkeep.specs.inner.Columns.{AreColumns}
use Rattle.upkeep.proofs.part.fault_in_columns.Goals as goal

pub returns-clause-fills : goal.returns-clause-fills
returns-clause-fills c = λ front meta file.
    let g = group_view c.args.group.now in
    let fs = c.args.schema.now in
    let chunks = c.as_slice-chunks.result.now in
    let stats = c.as_slice-stats.result.now in
    let leaves = c.leaves-leaves.result.now in
    let are = MatchOption-at_none (AreColumns c.front_of-front.result.now leaves chunks stats) (λ _. Unit {0}) c.in-None.is c.in_ok-fault.ensures.found in (
      are.0,
      subst (λ (f : List ℕ). AreFullChunks f (leaves_of fs) g.chunks g.known.leaves are.0) (c.front_of-front.ensures front meta file)
          (subst (λ (ls : List Leaf). AreFullChunks c.front_of-front.result.now ls g.chunks g.known.leaves are.0) c.leaves-leaves.ensures.leaves_are
          (subst (λ (cs : List ChunkMeta). AreFullChunks c.front_of-front.result.now (map leaf_view leaves) cs g.known.leaves are.0) (ap (map chunk_meta_view) c.as_slice-chunks.ensures.value ∙ c.in_ok-told.ensures.are)
          (subst (λ (ss : List Statistics). AreFullChunks c.front_of-front.result.now (map leaf_view leaves) (map chunk_meta_view chunks) ss are.0) (ap (map statistics_of) c.as_slice-stats.ensures.value) are.1))),
    )
