use Rattle.std.proofs.Common.{◌<◌, List, [], ◌∷◌, ◌++◌, length, map, sym, ap, subst, ◌∙◌, arith}
use Rattle.std.specs.List.{slice_get}
use Rattle.std.proofs.lemmas.List.{length-map, get_or-map}
use Rattle.lists.proofs.Slices.{slice_get_map as gets_here}
use Rattle.bits.specs.Refusals.{IsFault}
use Rattle.bits.proofs.Passing.{passes}
use Rattle.schema.specs.Stripe.{Leaf, Entry, leaves_of}
use Rattle.schema.specs.Views.{leaf_view}
use Rattle.metadata.specs.Views.{chunk_meta_view}
use Rattle.row_group.specs.Chunks.{AreChunks}
use Rattle.row_group.specs.inner.Readers.{IsSound, EachChunk}
use Rattle.row_group.proofs.Passed.{passed}
use Rattle.row_group.proofs.InOrder.{none_done, one_done, at_place, at_end, column_at, as_many}
use Rattle.row_group.proofs.group_chunks.check_chunks.Goals as goal

pub returns-then-len-leaves-clause-only : goal.returns-then-len-leaves-clause-only
returns-then-len-leaves-clause-only c = λ fault columns h.
    let chunks = c.args.meta.now.columns in
    let same = as_many c.args.front.now (map chunk_meta_view chunks.items) (leaves_of c.args.schema.now) columns h in
    let shown = ap length c.leaves-leaves.ensures.leaves_are in
    c.if-len-leaves.true (c.len.ensures ∙ chunks.ok.0 ∙ sym (length-map chunks.items chunk_meta_view) ∙ same ∙ sym shown ∙ length-map c.leaves-leaves.result.now leaf_view)

pub returns-in_err-check_column-clause-only : goal.returns-in_err-check_column-clause-only
returns-in_err-check_column-clause-only c =
    let chunks = c.args.meta.now.columns in
    let leaves = c.leaves-leaves.result.now in
    let i = c.loop-place.place in
    passes (λ e. IsFault e → (columns : List (List Entry)) → AreChunks c.args.front.now (map chunk_meta_view chunks.items) (leaves_of c.args.schema.now) columns → ⊥)
    c.from_residual.result c.in_err-check_column.field-0.0 c.from_residual.ensures.1
    (λ fault columns h.
    let w = column_at c.args.front.now chunk_meta_view leaf_view chunks.items leaves i c.index.result.now c.index-leaves-place.result (omega (arith, chunks.ok.0)) (omega arith) c.index.ensures c.index-leaves-place.is columns
    (subst (λ (t : List Leaf). AreChunks c.args.front.now (map chunk_meta_view chunks.items) t columns) (sym c.leaves-leaves.ensures.leaves_are) h) in
    c.in_err-check_column.ensures.only fault w.0 w.1)

pub returns-in_err-check_column-clause-limit : goal.returns-in_err-check_column-clause-limit
returns-in_err-check_column-clause-limit c = λ limit.
    let chunks = c.args.meta.now.columns in
    let leaves = c.leaves-leaves.result.now in
    let i = c.loop-place.place in
    record {
      k = i;
      chunk = chunk_meta_view c.index.result.now;
      leaf = leaf_view c.index-leaves-place.result;
      of_group = gets_here chunk_meta_view chunks.items i c.index.result.now (omega (arith, chunks.ok.0)) c.index.ensures;
      of_schema = ap (λ (t : List Leaf). slice_get t i) (sym c.leaves-leaves.ensures.leaves_are) ∙ gets_here leaf_view leaves i c.index-leaves-place.result (omega arith) c.index-leaves-place.is;
      is = c.in_err-check_column.ensures.limit (passed c.from_residual.result c.in_err-check_column.field-0.0 _ c.from_residual.ensures.1 limit);
    }

pub returns-in_err-check_column-clause-codec : goal.returns-in_err-check_column-clause-codec
returns-in_err-check_column-clause-codec c = λ codec.
    let chunks = c.args.meta.now.columns in
    let i = c.loop-place.place in
    let x = c.index.result.now in
    let lt : i < length chunks.items = omega (arith, chunks.ok.0) in (
      chunk_meta_view x,
      (i, omega (arith, lt, length-map chunks.items chunk_meta_view), get_or-map chunk_meta_view chunks.items i x (chunk_meta_view x) lt ∙ ap chunk_meta_view (sym c.index.ensures)),
      c.in_err-check_column.ensures.codec (passed c.from_residual.result c.in_err-check_column.field-0.0 _ c.from_residual.ensures.1 codec),
    )

pub loop-place-init : goal.loop-place-init
loop-place-init c = ([], none_done (IsSound c.args.front.now) _ _)

pub loop-place-preserved : goal.loop-place-preserved
loop-place-preserved c =
    let chunks = c.args.meta.now.columns in
    let leaves = c.leaves-leaves.result.now in
    let i = c.loop-place.place in
    let P = IsSound c.args.front.now in
    let done = c.loop-place.invariant.0 in
    let so_far = at_place P chunk_meta_view leaf_view chunks.items leaves i c.index.result.now c.index-leaves-place.result done (omega (arith, chunks.ok.0)) (omega arith) c.index.ensures c.index-leaves-place.is c.loop-place.invariant.1 in
    let s = c.in_ok-check_column.ensures.stands in
    (done ++ s.0 ∷ [], one_done P (map chunk_meta_view chunks.items) (map leaf_view leaves) (chunk_meta_view c.index.result.now) (leaf_view c.index-leaves-place.result) _ _ done s.0 (s.1, c.in_ok-check_column.ensures.within_limits) so_far)

pub returns-clause-stands : goal.returns-clause-stands
returns-clause-stands c =
    let chunks = c.args.meta.now.columns in
    let leaves = c.leaves-leaves.result.now in
    let P = IsSound c.args.front.now in
    let done = c.loop-place.invariant.0 in (
      done,
      subst (λ (t : List Leaf). EachChunk P (map chunk_meta_view chunks.items) t done) c.leaves-leaves.ensures.leaves_are
          (at_end P chunk_meta_view leaf_view chunks.items leaves c.loop-place.place done (omega (arith, chunks.ok.0)) (omega arith) c.loop-place.invariant.1),
    )
