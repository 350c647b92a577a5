use Rattle.std.proofs.Common.{arith, Some}
use Rattle.schema.specs.Views.{leaf_type_view}
use Rattle.pages.specs.declared.encoding.Encoding.TheVariants.{Plain, DeltaByteArray, ByteStreamSplit}
use Rattle.pages.specs.Left.{values_left}
use Rattle.pages.specs.Views.{dictionary_view}
use Rattle.pages.proofs.SharedValues.{nothing_over}
use Rattle.pages.proofs.ListedValues.{shared_spelled, none_spelled, spelled_some}
use Rattle.pages.proofs.PlainValues.{some_encoding}
use Rattle.pages.proofs.StoodBefore.{rules_out, over_by_encoding}
use Rattle.pages.proofs.value_reading.read_values.Goals as goal

pub returns-then-count-eq0-clause-within_limits : goal.returns-then-count-eq0-clause-within_limits
returns-then-count-eq0-clause-within_limits c = nothing_over c.args.leaf_type.now.kind c.args.encoding c.args.bytes.now c.args.count c.if-count-eq0.true

pub returns-in-Some-Plain-clause-stands : goal.returns-in-Some-Plain-clause-stands
returns-in-Some-Plain-clause-stands c =
    let here = rw c.in-Some-Plain.is at c.in-Some-Plain.field-0-is in
    let is = some_encoding c.args.encoding c.in-Some-Plain.field-0 Plain c.in-Some-Plain.is here in
    shared_spelled c.read_plain.result (λ vs. values_left vs) (dictionary_view c.args.dictionary) (leaf_type_view c.args.leaf_type.now) c.args.encoding Plain c.args.bytes.now c.args.count is c.read_plain.ensures.stands

pub returns-in-Some-Plain-clause-only : goal.returns-in-Some-Plain-clause-only
returns-in-Some-Plain-clause-only c =
    let here = rw c.in-Some-Plain.is at c.in-Some-Plain.field-0-is in
    let is = some_encoding c.args.encoding c.in-Some-Plain.field-0 Plain c.in-Some-Plain.is here in
    none_spelled c.read_plain.result (dictionary_view c.args.dictionary) (leaf_type_view c.args.leaf_type.now) c.args.encoding Plain c.args.bytes.now c.args.count is (omega (arith, c.if-count-eq0.false)) c.read_plain.ensures.only

pub returns-in-Some-DeltaByteArray-clause-stands : goal.returns-in-Some-DeltaByteArray-clause-stands
returns-in-Some-DeltaByteArray-clause-stands c =
    let here = rw c.in-Some-DeltaByteArray.is at c.in-Some-DeltaByteArray.field-0-is in
    let is = some_encoding c.args.encoding c.in-Some-DeltaByteArray.field-0 DeltaByteArray c.in-Some-DeltaByteArray.is here in
    shared_spelled c.read_shared.result (λ vs. values_left vs) (dictionary_view c.args.dictionary) (leaf_type_view c.args.leaf_type.now) c.args.encoding DeltaByteArray c.args.bytes.now c.args.count is c.read_shared.ensures.stands

pub returns-in-Some-DeltaByteArray-clause-only : goal.returns-in-Some-DeltaByteArray-clause-only
returns-in-Some-DeltaByteArray-clause-only c =
    let here = rw c.in-Some-DeltaByteArray.is at c.in-Some-DeltaByteArray.field-0-is in
    let is = some_encoding c.args.encoding c.in-Some-DeltaByteArray.field-0 DeltaByteArray c.in-Some-DeltaByteArray.is here in
    none_spelled c.read_shared.result (dictionary_view c.args.dictionary) (leaf_type_view c.args.leaf_type.now) c.args.encoding DeltaByteArray c.args.bytes.now c.args.count is (omega (arith, c.if-count-eq0.false)) c.read_shared.ensures.only

pub returns-in-Some-ByteStreamSplit-clause-stands : goal.returns-in-Some-ByteStreamSplit-clause-stands
returns-in-Some-ByteStreamSplit-clause-stands c =
    let here = rw c.in-Some-ByteStreamSplit.is at c.in-Some-ByteStreamSplit.field-0-is in
    let is = some_encoding c.args.encoding c.in-Some-ByteStreamSplit.field-0 ByteStreamSplit c.in-Some-ByteStreamSplit.is here in
    shared_spelled c.read_split.result (λ vs. values_left vs) (dictionary_view c.args.dictionary) (leaf_type_view c.args.leaf_type.now) c.args.encoding ByteStreamSplit c.args.bytes.now c.args.count is c.read_split.ensures.stands

pub returns-in-Some-ByteStreamSplit-clause-only : goal.returns-in-Some-ByteStreamSplit-clause-only
returns-in-Some-ByteStreamSplit-clause-only c =
    let here = rw c.in-Some-ByteStreamSplit.is at c.in-Some-ByteStreamSplit.field-0-is in
    let is = some_encoding c.args.encoding c.in-Some-ByteStreamSplit.field-0 ByteStreamSplit c.in-Some-ByteStreamSplit.is here in
    none_spelled c.read_split.result (dictionary_view c.args.dictionary) (leaf_type_view c.args.leaf_type.now) c.args.encoding ByteStreamSplit c.args.bytes.now c.args.count is (omega (arith, c.if-count-eq0.false)) c.read_split.ensures.only

pub read_plain-requires-clause-stood : goal.read_plain-requires-clause-stood
read_plain-requires-clause-stood c =
    let d = dictionary_view c.args.dictionary in
    let t = leaf_type_view c.args.leaf_type.now in
    let here = rw c.in-Some-Plain.is at c.in-Some-Plain.field-0-is in
    let is = some_encoding c.args.encoding c.in-Some-Plain.field-0 Plain c.in-Some-Plain.is here in
    rules_out c.args.standing (λ nothing ws p. nothing d ws (spelled_some d t c.args.encoding Plain c.args.bytes.now c.args.count ws is (omega (arith, c.if-count-eq0.false)) p)) c.requires.stood

pub read_plain-requires-clause-known_within_limits : goal.read_plain-requires-clause-known_within_limits
read_plain-requires-clause-known_within_limits c =
    let here = rw c.in-Some-Plain.is at c.in-Some-Plain.field-0-is in
    let is = some_encoding c.args.encoding c.in-Some-Plain.field-0 Plain c.in-Some-Plain.is here in
    rules_out c.args.standing (over_by_encoding c.args.leaf_type.now.kind c.args.encoding (Some Plain) c.args.bytes.now c.args.count is) c.requires.known_within_limits
