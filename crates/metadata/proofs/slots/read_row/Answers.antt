use Rattle.thrift_compact.specs.View.{code_of}
use Rattle.thrift_compact.specs.Values.{ReadAs, fields_by}
use Rattle.metadata.specs.FieldValues.{record_by}
use Rattle.metadata.specs.inner.Slots.{row_of}
use Rattle.metadata.proofs.Readings.{refused, record_refused, row_stands, row_absent, row_refused, none_ever}
use Rattle.metadata.proofs.slots.read_row.Goals as goal

pub returns-clause-stands : goal.returns-clause-stands
returns-clause-stands g c =
    let S = g.S.Slots in
    let v = c.args.value in
    row_stands S.step S.contents (S.held c.args.places) (S.held c.take_fields.new.taker.places) (S.seen c.in_ok-row.row) (code_of v.kind) v.left v.bytes.now c.in_ok-used.used c.in_ok-used.ensures.stands c.in_ok-row.ensures.stands

pub returns-in_err-used-clause-which : goal.returns-in_err-used-clause-which
returns-in_err-used-clause-which g c =
    let S = g.S.Slots in
    let v = c.args.value in
    let start = S.held c.args.places in
    refused (ReadAs (fields_by S.step start) (code_of v.kind) v.left) (ReadAs (record_by (row_of S.step S.contents start)) (code_of v.kind) v.left) v.bytes.now c.from_residual.result c.in_err-used.field-0.0 c.from_residual.ensures.1 c.in_err-used.ensures.which
    (row_refused S.step S.contents start (code_of v.kind) v.left)

pub returns-in_err-row-clause-which : goal.returns-in_err-row-clause-which
returns-in_err-row-clause-which g c =
    let S = g.S.Slots in
    let v = c.args.value in
    let start = S.held c.args.places in
    let held = S.held c.take_fields.new.taker.places in
    record_refused S.seen (S.contents held) (ReadAs (record_by (row_of S.step S.contents start)) (code_of v.kind) v.left) v.bytes.now c.from_residual-in_err-row.result c.in_err-row.field-0.0 c.from_residual-in_err-row.ensures.1 c.in_err-row.ensures.stands
    (λ none. none_ever (fields_by S.step start) (record_by (row_of S.step S.contents start)) (code_of v.kind) v.left v.bytes.now held c.in_ok-used.used c.one_value.ensures.one c.one_value.ensures.stays (row_absent S.step S.contents start held none) c.in_ok-used.ensures.stands)
