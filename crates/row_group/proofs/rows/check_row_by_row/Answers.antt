use Rattle.std.proofs.Common.{◌≡◌, List, Result, Err, subst}
use Rattle.bits.specs.Refusals.{IsFault}
use Rattle.bits.specs.declared.refusal.Refusal.{Refusal}
use Rattle.bits.proofs.Passing.{passes}
use Rattle.schema.specs.Values.{ValueTrees}
use Rattle.schema.specs.Stripe.{leaves_of}
use Rattle.metadata.specs.Views.{group_meta_view}
use Rattle.assemble.specs.Standing.{IsRefusedFor}
use Rattle.assemble.specs.RowsOf.{HasFault}
use Rattle.row_group.specs.declared.chunk_reader.ChunkReader.{ChunkReader}
use Rattle.row_group.specs.Left.{chunk_stands}
use Rattle.row_group.specs.Causes.{reader_cause}
use Rattle.row_group.specs.inner.Readers.{AreRowsOfGroup, HasRows, CountsRows, refusal_kept}
use Rattle.row_group.proofs.GroupRows.{counted_rows, same_count, no_rows, tells, tells_which, tells_no_limit, tells_no_codec}
use Rattle.row_group.proofs.rows.check_row_by_row.Goals as goal

err_is : {Y : Type 0} (e f : Refusal) → ◌≡◌ {A = Result Y Refusal} (Err e) (Err f) → e ≡ f
err_is e f h = cc

pub returns-in_err-readers-clause-only : goal.returns-in_err-readers-clause-only
returns-in_err-readers-clause-only c =
    let g = group_meta_view c.args.meta.now in
    passes (λ e. IsFault e → (rows : List ValueTrees) → AreRowsOfGroup c.args.front.now c.args.schema.now g c.args.count rows → ⊥) c.from_residual.result c.in_err-readers.field-0.0 c.from_residual.ensures.1
    (λ fault rows k. c.in_err-readers.ensures.only fault _ k.chunks)

pub returns-in-Ok-clause-stands : goal.returns-in-Ok-clause-stands
returns-in-Ok-clause-stands c =
    let fs = c.args.schema.now in
    let g = group_meta_view c.args.meta.now in
    let rs = c.in_ok-readers.readers.items in
    let counts = subst (λ (xs : List ChunkReader). CountsRows fs xs c.in-Ok.rows) c.as_mut_slice.ensures.value c.in-Ok.ensures.stands in
    subst (HasRows c.args.front.now fs g) c.if-rows-count.true (counted_rows c.args.front.now fs g rs c.in-Ok.rows c.in_ok-readers.ensures.stands counts)

pub returns-in-Ok-2-clause-only : goal.returns-in-Ok-2-clause-only
returns-in-Ok-2-clause-only c = λ fault rows k.
    let fs = c.args.schema.now in
    let g = group_meta_view c.args.meta.now in
    let rs = c.in_ok-readers.readers.items in
    let counts = subst (λ (xs : List ChunkReader). CountsRows fs xs c.in-Ok.rows) c.as_mut_slice.ensures.value c.in-Ok.ensures.stands in
    let has = counted_rows c.args.front.now fs g rs c.in-Ok.rows c.in_ok-readers.ensures.stands counts in
    c.if-rows-count.false (same_count c.one_meaning.ensures.column c.columns_determine_rows.ensures c.args.front.now fs g c.in-Ok.rows c.args.count c.in_ok-readers.ensures.valid has rows k)

pub returns-clause-only : goal.returns-clause-only
returns-clause-only c = λ fault rows k.
    let fs = c.args.schema.now in
    let g = group_meta_view c.args.meta.now in
    let rs = c.in_ok-readers.readers.items in
    let new = c.count_rows.new.sources in
    let refused = subst (λ (xs : List ChunkReader). IsRefusedFor chunk_stands refusal_kept reader_cause xs new (HasFault fs) c.in-Err.refusal) c.as_mut_slice.ensures.value c.in-Err.ensures.which in
    let sound = c.in_ok-check_chunks-in-Err.ensures.stands in
    no_rows c.args.front.now fs g c.args.count rs new sound.0 c.in-Err.refusal c.in_ok-readers.ensures.stands sound.1 refused fault rows k

pub returns-clause-limit : goal.returns-clause-limit
returns-clause-limit c = λ limit.
    let fs = c.args.schema.now in
    let g = group_meta_view c.args.meta.now in
    let rs = c.in_ok-readers.readers.items in
    let new = c.count_rows.new.sources in
    let refused = subst (λ (xs : List ChunkReader). IsRefusedFor chunk_stands refusal_kept reader_cause xs new (HasFault fs) c.in-Err.refusal) c.as_mut_slice.ensures.value c.in-Err.ensures.which in
    let sound = c.in_ok-check_chunks-in-Err.ensures.stands in
    absurd (tells_no_limit c.in-Err.refusal (tells c.args.front.now fs g.columns (leaves_of fs) rs new sound.0 c.in-Err.refusal c.in_ok-readers.ensures.stands sound.1 refused) (err_is _ _ limit))

pub returns-clause-codec : goal.returns-clause-codec
returns-clause-codec c = λ codec.
    let fs = c.args.schema.now in
    let g = group_meta_view c.args.meta.now in
    let rs = c.in_ok-readers.readers.items in
    let new = c.count_rows.new.sources in
    let refused = subst (λ (xs : List ChunkReader). IsRefusedFor chunk_stands refusal_kept reader_cause xs new (HasFault fs) c.in-Err.refusal) c.as_mut_slice.ensures.value c.in-Err.ensures.which in
    let sound = c.in_ok-check_chunks-in-Err.ensures.stands in
    absurd (tells_no_codec c.in-Err.refusal (tells c.args.front.now fs g.columns (leaves_of fs) rs new sound.0 c.in-Err.refusal c.in_ok-readers.ensures.stands sound.1 refused) (err_is _ _ codec))

pub returns-clause-which : goal.returns-clause-which
returns-clause-which c =
    let fs = c.args.schema.now in
    let g = group_meta_view c.args.meta.now in
    let rs = c.in_ok-readers.readers.items in
    let new = c.count_rows.new.sources in
    let refused = subst (λ (xs : List ChunkReader). IsRefusedFor chunk_stands refusal_kept reader_cause xs new (HasFault fs) c.in-Err.refusal) c.as_mut_slice.ensures.value c.in-Err.ensures.which in
    let sound = c.in_ok-check_chunks-in-Err.ensures.stands in
    tells_which c.in-Err.refusal (tells c.args.front.now fs g.columns (leaves_of fs) rs new sound.0 c.in-Err.refusal c.in_ok-readers.ensures.stands sound.1 refused)
