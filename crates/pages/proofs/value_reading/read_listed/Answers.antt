use Rattle.std.proofs.Common.{map}
use Rattle.schema.specs.Borrowed.{value_ref_view}
use Rattle.schema.specs.Views.{leaf_type_view}
use Rattle.pages.specs.declared.encoding.Encoding.TheVariants.{Rle, DeltaBinaryPacked, DeltaLengthByteArray}
use Rattle.pages.specs.Views.{dictionary_view}
use Rattle.pages.proofs.ListedValues.{in_any_chunk, in_no_chunk}
use Rattle.pages.proofs.value_reading.read_listed.Goals as goal

pub returns-in-Rle-clause-stands : goal.returns-in-Rle-clause-stands
returns-in-Rle-clause-stands c =
    in_any_chunk c.read_booleans.result (λ vs. map value_ref_view vs.items) (dictionary_view c.args.dictionary) (leaf_type_view c.args.leaf_type.now) c.args.encoding Rle c.args.bytes.now c.args.count c.in-Rle.is c.read_booleans.ensures.stands

pub returns-in-Rle-clause-only : goal.returns-in-Rle-clause-only
returns-in-Rle-clause-only c =
    in_no_chunk c.read_booleans.result (dictionary_view c.args.dictionary) (leaf_type_view c.args.leaf_type.now) c.args.encoding Rle c.args.bytes.now c.args.count c.in-Rle.is c.read_booleans.ensures.only

pub returns-in-DeltaBinaryPacked-clause-stands : goal.returns-in-DeltaBinaryPacked-clause-stands
returns-in-DeltaBinaryPacked-clause-stands c =
    in_any_chunk c.read_numbers.result (λ vs. map value_ref_view vs.items) (dictionary_view c.args.dictionary) (leaf_type_view c.args.leaf_type.now) c.args.encoding DeltaBinaryPacked c.args.bytes.now c.args.count c.in-DeltaBinaryPacked.is c.read_numbers.ensures.stands

pub returns-in-DeltaBinaryPacked-clause-only : goal.returns-in-DeltaBinaryPacked-clause-only
returns-in-DeltaBinaryPacked-clause-only c =
    in_no_chunk c.read_numbers.result (dictionary_view c.args.dictionary) (leaf_type_view c.args.leaf_type.now) c.args.encoding DeltaBinaryPacked c.args.bytes.now c.args.count c.in-DeltaBinaryPacked.is c.read_numbers.ensures.only

pub returns-in-DeltaLengthByteArray-clause-stands : goal.returns-in-DeltaLengthByteArray-clause-stands
returns-in-DeltaLengthByteArray-clause-stands c =
    in_any_chunk c.read_by_lengths.result (λ vs. map value_ref_view vs.items) (dictionary_view c.args.dictionary) (leaf_type_view c.args.leaf_type.now) c.args.encoding DeltaLengthByteArray c.args.bytes.now c.args.count c.in-DeltaLengthByteArray.is c.read_by_lengths.ensures.stands

pub returns-in-DeltaLengthByteArray-clause-only : goal.returns-in-DeltaLengthByteArray-clause-only
returns-in-DeltaLengthByteArray-clause-only c =
    in_no_chunk c.read_by_lengths.result (dictionary_view c.args.dictionary) (leaf_type_view c.args.leaf_type.now) c.args.encoding DeltaLengthByteArray c.args.bytes.now c.args.count c.in-DeltaLengthByteArray.is c.read_by_lengths.ensures.only
