use Rattle.std.proofs.Common.{List}
use Rattle.std.proofs.lemmas.Result.{IfOk-weaker, IfErr-weaker}
use Rattle.bits.specs.declared.refusal.Refusal.{Refusal}
use Rattle.bits.specs.Refusals.{IsFault}
use Rattle.bits.specs.Codec.{NothingStands}
use Rattle.bits.proofs.Passing.{passes}
use Rattle.schema.specs.Stripe.{Entry}
use Rattle.schema.specs.Views.{leaf_view}
use Rattle.metadata.specs.Views.{column_meta_view}
use Rattle.row_group.specs.declared.chunk_reader.ChunkReader.{ChunkReader}
use Rattle.row_group.specs.Chunks.{ChunkMeans, ColumnMeans}
use Rattle.row_group.specs.Limits.{many_entries}
use Rattle.row_group.specs.inner.Readers.{IsReaderOf}
use Rattle.row_group.proofs.Passed.{passed}
use Rattle.row_group.proofs.Starts.{IsStart, at_start, over_there, reader_is}
use Rattle.row_group.proofs.group_chunks.reader_of.Goals as goal

pub returns-in_err-start-clause-only : goal.returns-in_err-start-clause-only
returns-in_err-start-clause-only c =
    passes (λ e. IsFault e → (es : List Entry) → ColumnMeans c.args.front.now (column_meta_view c.args.meta.now) (leaf_view c.args.leaf.now) es → ⊥)
    c.from_residual.result c.in_err-start.field-0.0 c.from_residual.ensures.1 (λ fault es m. c.in_err-start.ensures.only fault m.start m.starts)

pub returns-in_err-start-clause-limit : goal.returns-in_err-start-clause-limit
returns-in_err-start-clause-limit c = λ limit. absurd (c.in_err-start.ensures.limit (passed c.from_residual.result c.in_err-start.field-0.0 _ c.from_residual.ensures.1 limit))

pub returns-clause-stands : goal.returns-clause-stands
returns-clause-stands c =
    let m = column_meta_view c.args.meta.now in
    let leaf = leaf_view c.args.leaf.now in
    let front = c.args.front.now in
    let start = c.in_ok-start.start in
    let bytes = c.from.result.now in
    let i : IsStart front m start bytes = record { starts = c.in_ok-start.ensures.stands; alone = c.in_ok-start.ensures.alone; here = c.from.ensures } in
    IfOk-weaker {X = ChunkReader} {Y = Refusal} c.new.result _ (λ r. IsReaderOf front m leaf r) (λ r h. reader_is front m leaf start bytes r i h) c.new.ensures.stands

pub returns-clause-only : goal.returns-clause-only
returns-clause-only c =
    let m = column_meta_view c.args.meta.now in
    let leaf = leaf_view c.args.leaf.now in
    let front = c.args.front.now in
    let start = c.in_ok-start.start in
    let bytes = c.from.result.now in
    let i : IsStart front m start bytes = record { starts = c.in_ok-start.ensures.stands; alone = c.in_ok-start.ensures.alone; here = c.from.ensures } in
    IfErr-weaker {T = ChunkReader} {E = Refusal} c.new.result (λ e. IsFault e → NothingStands (ChunkMeans m leaf bytes)) (λ e. IsFault e → (es : List Entry) → ColumnMeans front m leaf es → ⊥)
    (λ e h fault es k. let w = at_start front m leaf start bytes i es k in h fault es w.0 w.1) c.new.ensures.only

pub returns-clause-limit : goal.returns-clause-limit
returns-clause-limit c = λ limit.
    let m = column_meta_view c.args.meta.now in
    let leaf = leaf_view c.args.leaf.now in
    let front = c.args.front.now in
    let start = c.in_ok-start.start in
    let bytes = c.from.result.now in
    let i : IsStart front m start bytes = record { starts = c.in_ok-start.ensures.stands; alone = c.in_ok-start.ensures.alone; here = c.from.ensures } in
    over_there front m leaf start bytes i (many_entries (c.new.ensures.limit limit))
