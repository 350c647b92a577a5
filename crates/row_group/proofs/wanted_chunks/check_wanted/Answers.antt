use Rattle.std.proofs.Common.{◌≡◌, List, [], ◌∷◌, ◌++◌, length, map, true, sym, ap, subst, ◌∙◌, arith}
use Rattle.std.specs.List.{slice_get}
use Rattle.std.proofs.lemmas.List.{length-map}
use Rattle.lists.proofs.Slices.{slice_get_map as gets_here}
use Rattle.bits.specs.Refusals.{IsFault}
use Rattle.bits.proofs.Passing.{passes}
use Rattle.schema.specs.Stripe.{Leaf, Entry, leaves_of}
use Rattle.schema.specs.Views.{leaf_view}
use Rattle.schema.specs.Cutting.{is_among, at_places}
use Rattle.metadata.specs.Views.{chunk_meta_view, group_meta_view}
use Rattle.row_group.specs.Chunks.{ColumnMeans}
use Rattle.row_group.specs.Wanted.{AreWantedChunks}
use Rattle.row_group.specs.inner.Readers.{IsSound, EachChunk}
use Rattle.row_group.proofs.Passed.{passed}
use Rattle.row_group.proofs.InOrder.{none_done}
use Rattle.row_group.proofs.WantedChunks.{wanted_one, not_wanted, wanted_all, wanted_at, each_chunk}
use Rattle.row_group.proofs.wanted_chunks.check_wanted.Goals as goal

pub returns-then-len-leaves-clause-only : goal.returns-then-len-leaves-clause-only
returns-then-len-leaves-clause-only c = λ fault columns h.
    let chunks = c.args.meta.now.columns in
    let shown = ap length c.leaves-leaves.ensures.leaves_are in
    c.if-len-leaves.true (c.len.ensures ∙ chunks.ok.0 ∙ sym (length-map chunks.items chunk_meta_view) ∙ h.as_many ∙ sym shown ∙ length-map c.leaves-leaves.result.now leaf_view)

pub returns-in_err-check_column-clause-only : goal.returns-in_err-check_column-clause-only
returns-in_err-check_column-clause-only c =
    let chunks = c.args.meta.now.columns in
    let leaves = c.leaves-leaves.result.now in
    let i = c.loop-place.place-counter in
    let x = c.index.result.now in
    let y = c.index-leaves-place.result in
    let front = c.args.front.now in
    let wanted = c.args.wanted.now in
    let on : is_among wanted i ≡ true = sym c.contains.ensures.value ∙ c.if-not-contains.false in
    let of_schema = ap (λ (t : List Leaf). slice_get t i) (sym c.leaves-leaves.ensures.leaves_are) ∙ gets_here leaf_view leaves i y (omega arith) c.index-leaves-place.is in
    passes (λ e. IsFault e → (columns : List (List Entry)) → AreWantedChunks front wanted c.args.schema.now (group_meta_view c.args.meta.now) columns → ⊥) c.from_residual.result c.in_err-check_column.field-0.0 c.from_residual.ensures.1
    (λ fault columns h.
    let all = each_chunk front (at_places wanted (map chunk_meta_view chunks.items)) (at_places wanted (leaves_of c.args.schema.now)) columns h.hold in
    let w = wanted_at (ColumnMeans front) (is_among wanted) (map chunk_meta_view chunks.items) (leaves_of c.args.schema.now) 0 i i (chunk_meta_view x) (leaf_view y) columns all
    (gets_here chunk_meta_view chunks.items i x (omega (arith, chunks.ok.0)) c.index.ensures) of_schema (omega arith) on in
    c.in_err-check_column.ensures.only fault w.0 w.1)

pub returns-in_err-check_column-clause-limit : goal.returns-in_err-check_column-clause-limit
returns-in_err-check_column-clause-limit c = λ limit.
    let chunks = c.args.meta.now.columns in
    let leaves = c.leaves-leaves.result.now in
    let i = c.loop-place.place-counter in
    record {
      column = record {
        k = i;
        chunk = chunk_meta_view c.index.result.now;
        leaf = leaf_view c.index-leaves-place.result;
        of_group = gets_here chunk_meta_view chunks.items i c.index.result.now (omega (arith, chunks.ok.0)) c.index.ensures;
        of_schema = ap (λ (t : List Leaf). slice_get t i) (sym c.leaves-leaves.ensures.leaves_are) ∙ gets_here leaf_view leaves i c.index-leaves-place.result (omega arith) c.index-leaves-place.is;
        is = c.in_err-check_column.ensures.limit (passed c.from_residual.result c.in_err-check_column.field-0.0 _ c.from_residual.ensures.1 limit);
      };
      wanted = sym c.contains.ensures.value ∙ c.if-not-contains.false;
    }

pub returns-in_err-check_column-clause-codec : goal.returns-in_err-check_column-clause-codec
returns-in_err-check_column-clause-codec c = λ codec.
    let chunks = c.args.meta.now.columns in
    let leaves = c.leaves-leaves.result.now in
    let i = c.loop-place.place-counter in
    record {
      column = record {
        k = i;
        chunk = chunk_meta_view c.index.result.now;
        leaf = leaf_view c.index-leaves-place.result;
        of_group = gets_here chunk_meta_view chunks.items i c.index.result.now (omega (arith, chunks.ok.0)) c.index.ensures;
        of_schema = ap (λ (t : List Leaf). slice_get t i) (sym c.leaves-leaves.ensures.leaves_are) ∙ gets_here leaf_view leaves i c.index-leaves-place.result (omega arith) c.index-leaves-place.is;
        is = c.in_err-check_column.ensures.codec (passed c.from_residual.result c.in_err-check_column.field-0.0 _ c.from_residual.ensures.1 codec);
      };
      wanted = sym c.contains.ensures.value ∙ c.if-not-contains.false;
    }

pub loop-place-init : goal.loop-place-init
loop-place-init c = ([], none_done (IsSound c.args.front.now) _ _)

pub loop-place-preserved-then-not-contains : goal.loop-place-preserved-then-not-contains
loop-place-preserved-then-not-contains c =
    let chunks = c.args.meta.now.columns in
    let leaves = c.leaves-leaves.result.now in
    let wanted = c.args.wanted.now in (
      c.loop-place.invariant.0,
      not_wanted (IsSound c.args.front.now) (is_among wanted) chunk_meta_view leaf_view chunks.items leaves c.loop-place.place-counter
          (at_places wanted (map chunk_meta_view chunks.items)) (at_places wanted (map leaf_view leaves)) c.loop-place.invariant.0
          (omega (arith, chunks.ok.0)) (omega arith) (sym c.contains.ensures.value ∙ c.if-not-contains.true) c.loop-place.invariant.1,
    )

pub loop-place-preserved : goal.loop-place-preserved
loop-place-preserved c =
    let chunks = c.args.meta.now.columns in
    let leaves = c.leaves-leaves.result.now in
    let i = c.loop-place.place-counter in
    let wanted = c.args.wanted.now in
    let done = c.loop-place.invariant.0 in
    let s = c.in_ok-check_column.ensures.stands in (
      done ++ s.0 ∷ [],
      wanted_one (IsSound c.args.front.now) (is_among wanted) chunk_meta_view leaf_view chunks.items leaves i c.index.result.now c.index-leaves-place.result
          (at_places wanted (map chunk_meta_view chunks.items)) (at_places wanted (map leaf_view leaves)) done s.0 (omega (arith, chunks.ok.0)) (omega arith) c.index.ensures c.index-leaves-place.is
          (sym c.contains.ensures.value ∙ c.if-not-contains.false) (s.1, c.in_ok-check_column.ensures.within_limits) c.loop-place.invariant.1,
    )

pub returns-clause-stands : goal.returns-clause-stands
returns-clause-stands c =
    let chunks = c.args.meta.now.columns in
    let leaves = c.leaves-leaves.result.now in
    let wanted = c.args.wanted.now in
    let P = IsSound c.args.front.now in
    let done = c.loop-place.invariant.0 in (
      done,
      subst (λ (t : List Leaf). EachChunk P (at_places wanted (map chunk_meta_view chunks.items)) (at_places wanted t) done) c.leaves-leaves.ensures.leaves_are
          (wanted_all P (is_among wanted) chunk_meta_view leaf_view chunks.items leaves c.loop-place.place-counter (at_places wanted (map chunk_meta_view chunks.items)) (at_places wanted (map leaf_view leaves)) done
          (omega (arith, chunks.ok.0)) (omega arith) c.loop-place.invariant.1),
    )
