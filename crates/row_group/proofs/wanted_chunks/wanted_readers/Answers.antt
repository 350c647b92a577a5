use Rattle.std.proofs.Common.{◌≡◌, ◌+◌, List, length, map, true, sym, ap, subst, ◌∙◌, arith}
use Rattle.std.specs.List.{slice_get}
use Rattle.std.proofs.lemmas.List.{length-map}
use Rattle.lists.proofs.Slices.{slice_get_map as gets_here}
use Rattle.bits.specs.Refusals.{IsFault}
use Rattle.bits.proofs.Passing.{passes}
use Rattle.schema.specs.Stripe.{Leaf, Entry, leaves_of}
use Rattle.schema.specs.Views.{leaf_view}
use Rattle.schema.specs.Cutting.{is_among, at_places}
use Rattle.metadata.specs.Views.{chunk_meta_view, group_meta_view}
use Rattle.row_group.specs.Chunks.{ColumnMeans}
use Rattle.row_group.specs.Wanted.{AreWantedChunks}
use Rattle.row_group.specs.inner.Readers.{IsReaderOf, EachChunk}
use Rattle.row_group.proofs.Passed.{passed}
use Rattle.row_group.proofs.InOrder.{UpTo, none_done}
use Rattle.row_group.proofs.WantedChunks.{left_at, wanted_one, not_wanted, wanted_all, wanted_at, each_chunk}
use Rattle.row_group.proofs.wanted_chunks.wanted_readers.Goals as goal

pub returns-then-len-leaves-clause-only : goal.returns-then-len-leaves-clause-only
returns-then-len-leaves-clause-only c = λ fault columns h.
    let chunks = c.args.meta.now.columns in
    let shown = ap length c.leaves-leaves.ensures.leaves_are in
    c.if-len-leaves.true (c.len.ensures ∙ chunks.ok.0 ∙ sym (length-map chunks.items chunk_meta_view) ∙ h.as_many ∙ sym shown ∙ length-map c.leaves-leaves.result.now leaf_view)

pub returns-in_err-reader-clause-only : goal.returns-in_err-reader-clause-only
returns-in_err-reader-clause-only c =
    let chunks = c.args.meta.now.columns in
    let leaves = c.leaves-leaves.result.now in
    let i = c.loop-place.place-counter in
    let x = c.index.result.now in
    let y = c.index-leaves-place.result in
    let front = c.args.front.now in
    let wanted = c.args.wanted.now in
    let on : is_among wanted i ≡ true = sym c.contains.ensures.value ∙ c.if-not-contains.false in
    let of_schema = ap (λ (t : List Leaf). slice_get t i) (sym c.leaves-leaves.ensures.leaves_are) ∙ gets_here leaf_view leaves i y (omega arith) c.index-leaves-place.is in
    passes (λ e. IsFault e → (columns : List (List Entry)) → AreWantedChunks front wanted c.args.schema.now (group_meta_view c.args.meta.now) columns → ⊥) c.from_residual.result c.in_err-reader.field-0.0 c.from_residual.ensures.1
    (λ fault columns h.
    let all = each_chunk front (at_places wanted (map chunk_meta_view chunks.items)) (at_places wanted (leaves_of c.args.schema.now)) columns h.hold in
    let w = wanted_at (ColumnMeans front) (is_among wanted) (map chunk_meta_view chunks.items) (leaves_of c.args.schema.now) 0 i i (chunk_meta_view x) (leaf_view y) columns all
    (gets_here chunk_meta_view chunks.items i x (omega (arith, chunks.ok.0)) c.index.ensures) of_schema (omega arith) on in
    c.in_err-reader.ensures.only fault w.0 w.1)

pub returns-in_err-reader-clause-limit : goal.returns-in_err-reader-clause-limit
returns-in_err-reader-clause-limit c = λ limit.
    let chunks = c.args.meta.now.columns in
    let leaves = c.leaves-leaves.result.now in
    let i = c.loop-place.place-counter in
    record {
      column = record {
        k = i;
        chunk = chunk_meta_view c.index.result.now;
        leaf = leaf_view c.index-leaves-place.result;
        of_group = gets_here chunk_meta_view chunks.items i c.index.result.now (omega (arith, chunks.ok.0)) c.index.ensures;
        of_schema = ap (λ (t : List Leaf). slice_get t i) (sym c.leaves-leaves.ensures.leaves_are) ∙ gets_here leaf_view leaves i c.index-leaves-place.result (omega arith) c.index-leaves-place.is;
        is = c.in_err-reader.ensures.limit (passed c.from_residual.result c.in_err-reader.field-0.0 _ c.from_residual.ensures.1 limit);
      };
      wanted = sym c.contains.ensures.value ∙ c.if-not-contains.false;
    }

pub returns-in_err-reader-clause-codec : goal.returns-in_err-reader-clause-codec
returns-in_err-reader-clause-codec c = λ codec.
    let chunks = c.args.meta.now.columns in
    let leaves = c.leaves-leaves.result.now in
    let i = c.loop-place.place-counter in
    record {
      column = record {
        k = i;
        chunk = chunk_meta_view c.index.result.now;
        leaf = leaf_view c.index-leaves-place.result;
        of_group = gets_here chunk_meta_view chunks.items i c.index.result.now (omega (arith, chunks.ok.0)) c.index.ensures;
        of_schema = ap (λ (t : List Leaf). slice_get t i) (sym c.leaves-leaves.ensures.leaves_are) ∙ gets_here leaf_view leaves i c.index-leaves-place.result (omega arith) c.index-leaves-place.is;
        is = c.in_err-reader.ensures.codec (passed c.from_residual.result c.in_err-reader.field-0.0 _ c.from_residual.ensures.1 codec);
      };
      wanted = sym c.contains.ensures.value ∙ c.if-not-contains.false;
    }

pub loop-place-init : goal.loop-place-init
loop-place-init c =
    let wanted = c.args.wanted.now in
    subst (UpTo (IsReaderOf c.args.front.now) (at_places wanted (map chunk_meta_view c.args.meta.now.columns.items)) (at_places wanted (map leaf_view c.leaves-leaves.result.now)) _ _) (sym c.new-readers.ensures.items) (none_done _ _ _)

pub loop-place-preserved-then-not-contains : goal.loop-place-preserved-then-not-contains
loop-place-preserved-then-not-contains c =
    let chunks = c.args.meta.now.columns in
    let leaves = c.leaves-leaves.result.now in
    let wanted = c.args.wanted.now in
    not_wanted (IsReaderOf c.args.front.now) (is_among wanted) chunk_meta_view leaf_view chunks.items leaves c.loop-place.place-counter
    (at_places wanted (map chunk_meta_view chunks.items)) (at_places wanted (map leaf_view leaves)) c.loop-place.readers.items
    (omega (arith, chunks.ok.0)) (omega arith) (sym c.contains.ensures.value ∙ c.if-not-contains.true) c.loop-place.invariant

pub loop-place-preserved : goal.loop-place-preserved
loop-place-preserved c =
    let chunks = c.args.meta.now.columns in
    let leaves = c.leaves-leaves.result.now in
    let i = c.loop-place.place-counter in
    let wanted = c.args.wanted.now in
    let w = is_among wanted in
    let P = IsReaderOf c.args.front.now in
    let cs = at_places wanted (map chunk_meta_view chunks.items) in
    let ls = at_places wanted (map leaf_view leaves) in
    subst (UpTo P cs ls (left_at w chunk_meta_view chunks.items (i + 1)) (left_at w leaf_view leaves (i + 1))) (sym c.in_ok-push.ensures.items)
    (wanted_one P w chunk_meta_view leaf_view chunks.items leaves i c.index.result.now c.index-leaves-place.result cs ls c.loop-place.readers.items c.in_ok-reader.reader
    (omega (arith, chunks.ok.0)) (omega arith) c.index.ensures c.index-leaves-place.is (sym c.contains.ensures.value ∙ c.if-not-contains.false) c.in_ok-reader.ensures.stands c.loop-place.invariant)

pub returns-clause-stands : goal.returns-clause-stands
returns-clause-stands c =
    let chunks = c.args.meta.now.columns in
    let leaves = c.leaves-leaves.result.now in
    let wanted = c.args.wanted.now in
    let P = IsReaderOf c.args.front.now in
    let done = c.loop-place.readers.items in
    subst (λ (t : List Leaf). EachChunk P (at_places wanted (map chunk_meta_view chunks.items)) (at_places wanted t) done) c.leaves-leaves.ensures.leaves_are
    (wanted_all P (is_among wanted) chunk_meta_view leaf_view chunks.items leaves c.loop-place.place-counter (at_places wanted (map chunk_meta_view chunks.items)) (at_places wanted (map leaf_view leaves)) done
    (omega (arith, chunks.ok.0)) (omega arith) c.loop-place.invariant)
