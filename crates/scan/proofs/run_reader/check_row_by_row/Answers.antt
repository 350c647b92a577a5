use Rattle.std.proofs.Common.{◌≡◌, ◌∙◌, List, sym, subst}
use Rattle.assemble.specs.RowsOf.{StandForRows, HasFault}
use Rattle.assemble.specs.Standing.{IsRefusedFor}
use Rattle.row_group.specs.declared.chunk_reader.ChunkReader.{ChunkReader}
use Rattle.row_group.specs.Causes.{reader_cause}
use Rattle.row_group.specs.Left.{chunk_stands}
use Rattle.row_group.specs.inner.Readers.{CountsRows, refusal_kept}
use Rattle.scan.proofs.Passages.{only_on}
use Rattle.scan.proofs.RunTaken.{same_many, refused_memory, refused_which}
use Rattle.scan.proofs.run_reader.check_row_by_row.Goals as goal

pub returns-in_err-reader-clause-only : goal.returns-in_err-reader-clause-only
returns-in_err-reader-clause-only c pieces h size = only_on (λ _. ⊥) c.from_residual.result c.in_err-reader.field-0.0 c.from_residual.ensures.1 (c.in_err-reader.ensures.only pieces h)

pub returns-in-Ok-2-clause-only : goal.returns-in-Ok-2-clause-only
returns-in-Ok-2-clause-only c pieces h size =
    let fs = c.args.run.now.schema in
    let rs = c.in_ok-reader.reader.readers.items in
    let counts = subst (λ (xs : List ChunkReader). CountsRows fs xs c.in-Ok.pieces) c.as_mut_slice.ensures.value c.in-Ok.ensures.stands in
    let stands = c.in_ok-reader.ensures.stands pieces h in
    let schema : c.in_ok-reader.reader.schema.now ≡ fs = c.in_ok-reader.ensures.schema in
    let columns = subst (λ gs. StandForRows chunk_stands rs gs pieces) schema stands.columns in
    absurd (c.if-pieces-count.false (sym counts.1.0 ∙ same_many c.one_page.ensures.page c.one_page.ensures.chunk c.columns_determine_rows.ensures fs c.leaves.ensures.valid rs counts.0 pieces counts.1.1 columns ∙ size))

pub returns-in-Ok-clause-accepts : goal.returns-in-Ok-clause-accepts
returns-in-Ok-clause-accepts c =
    let fs = c.args.run.now.schema in
    let counts = subst (λ (xs : List ChunkReader). CountsRows fs xs c.in-Ok.pieces) c.as_mut_slice.ensures.value c.in-Ok.ensures.stands in
    (counts.0, c.in_ok-reader.ensures.holds counts.0 counts.1.1, counts.1.0 ∙ c.if-pieces-count.true)

pub returns-clause-only : goal.returns-clause-only
returns-clause-only c pieces h size =
    let fs = c.args.run.now.schema in
    let rs = c.in_ok-reader.reader.readers.items in
    let new = c.count_rows.new.sources in
    let refused = subst (λ (xs : List ChunkReader). IsRefusedFor chunk_stands refusal_kept reader_cause xs new (HasFault fs) c.in-Err.refusal) c.as_mut_slice.ensures.value c.in-Err.ensures.which in
    let stands = c.in_ok-reader.ensures.stands pieces h in
    let schema : c.in_ok-reader.reader.schema.now ≡ fs = c.in_ok-reader.ensures.schema in
    let columns = subst (λ gs. StandForRows chunk_stands rs gs pieces) schema stands.columns in
    refused_memory fs rs new c.in-Err.refusal refused (λ fault rows s. c.in-Err.ensures.only fault rows (subst (λ (xs : List ChunkReader). StandForRows chunk_stands xs fs rows) (sym c.as_mut_slice.ensures.value) s)) pieces columns

pub returns-clause-which : goal.returns-clause-which
returns-clause-which c =
    let fs = c.args.run.now.schema in
    let rs = c.in_ok-reader.reader.readers.items in
    let new = c.count_rows.new.sources in
    let refused = subst (λ (xs : List ChunkReader). IsRefusedFor chunk_stands refusal_kept reader_cause xs new (HasFault fs) c.in-Err.refusal) c.as_mut_slice.ensures.value c.in-Err.ensures.which in
    refused_which fs rs new c.in-Err.refusal refused
