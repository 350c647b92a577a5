use Rattle.std.proofs.Common.{◌∙◌, List, map, ap, sym, subst}
use Rattle.std.proofs.lemmas.Result.{on_ok_weaker}
use Rattle.metadata.specs.Records.{ChunkMeta}
use Rattle.metadata.specs.Views.{chunk_meta_view}
use Rattle.scan.specs.declared.leaf_uses.LeafUse.{LeafUse}
use Rattle.scan.specs.inner.Texts.{AreCounted}
use Rattle.scan.proofs.FlatRuns.{run_flat}
use Rattle.scan.proofs.run_reader.check_run.Goals as goal

pub returns-then-have_counts-clause-accepts : goal.returns-then-have_counts-clause-accepts
returns-then-have_counts-clause-accepts c =
    let h = c.args.held.now in
    let run = c.args.run.now in
    let counts = subst (λ (us : List LeafUse). AreCounted (map chunk_meta_view h.chunks.items) c.args.count us) c.as_slice-then-is_flat.ensures.value
    (subst (λ (cs : List ChunkMeta). AreCounted cs c.args.count c.as_slice-then-is_flat.result.now) (ap (map chunk_meta_view) c.as_slice.ensures.value) (c.have_counts.ensures c.if-have_counts.true)) in
    on_ok_weaker c.check_held.result
    (λ held. run_flat c.flat_columns_have_rows.ensures c.a_cut_has_the_wanted_leaves.ensures h run c.args.count c.leaves.ensures.valid c.requires.cut (sym c.is_flat.ensures ∙ c.if-is_flat.true) counts held)
    c.check_held.ensures.accepts

pub returns-then-have_counts-clause-only : goal.returns-then-have_counts-clause-only
returns-then-have_counts-clause-only c pieces held size = c.check_held.ensures.only pieces held
