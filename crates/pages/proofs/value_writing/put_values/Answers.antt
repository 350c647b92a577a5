use Rattle.std.proofs.Common.{◌+◌, ◌*◌, List, length, map, refl, arith, subst}
use Rattle.std.specs.Prelude.{ℤ}
use Rattle.std.specs.Int.{w32, w64}
use Rattle.std.specs.List.{Any}
use Rattle.bits.specs.Codec.{Appends}
use Rattle.delta.specs.Delta.{IsDelta}
use Rattle.delta.specs.Written.{AppendsWrittenDelta}
use Rattle.schema.specs.declared.value.Kind.TheVariants.{Int32, Int64, ByteArray, FixedLenByteArray}
use Rattle.schema.specs.Borrowed.{value_ref_view}
use Rattle.plain.specs.Plain.{IsTooLong, IsWriteOver}
use Rattle.pages.specs.declared.encoding.Encoding.TheVariants.{Plain, DeltaBinaryPacked, DeltaLengthByteArray, DeltaByteArray}
use Rattle.pages.proofs.Passed.{on_ok_both, on_ok_all}
use Rattle.pages.proofs.WrittenValues.{plain_put, deltas_put, lengths_put, prefixes_put, as_written, any_bytes, not_over}
use Rattle.pages.proofs.value_writing.put_values.Goals as goal

pub returns-in-Plain-default-clause-stands : goal.returns-in-Plain-default-clause-stands
returns-in-Plain-default-clause-stands c =
    let vs = map value_ref_view c.args.values.now in
    let old = c.args.out.now.items in
    let new = c.encode.new.out.items in
    on_ok_all c.encode.result (λ p q r. as_written c.args.kind c.args.kind c.args.encoding Plain vs old new refl c.in-Plain-default.is-0 (plain_put c.args.kind vs old new c.requires p q)) c.encode.ensures.stands c.encode.ensures.padding c.encode.ensures.size

pub returns-in_ok-numbers-in-DeltaBinaryPacked-Int32-clause-stands :
    goal.returns-in_ok-numbers-in-DeltaBinaryPacked-Int32-clause-stands
returns-in_ok-numbers-in-DeltaBinaryPacked-Int32-clause-stands c =
    let vs = map value_ref_view c.args.values.now in
    let numbers = c.in_ok-numbers-in-DeltaBinaryPacked-Int32.numbers.items in
    let old = c.args.out.now.items in
    let new = c.encode_i32.new.out.items in
    on_ok_both c.encode_i32.result
    (λ p q. as_written c.args.kind Int32 c.args.encoding DeltaBinaryPacked vs old new c.in-DeltaBinaryPacked-Int32.is-1 c.in-DeltaBinaryPacked-Int32.is-0
    (deltas_put w32 numbers vs (170 + 5 * length numbers) old new c.in_ok-numbers-in-DeltaBinaryPacked-Int32.ensures.are (omega arith) (subst (λ (l : List ℤ). Appends (λ bytes. IsDelta w32 bytes (length l) l) (170 + 5 * length l) old new) c.as_slice.ensures.value p)
    (subst (λ (l : List ℤ). AppendsWrittenDelta w32 l old new) c.as_slice.ensures.value q)))
    c.encode_i32.ensures.stands c.encode_i32.ensures.written

pub returns-in_ok-numbers-in-DeltaBinaryPacked-Int64-clause-stands :
    goal.returns-in_ok-numbers-in-DeltaBinaryPacked-Int64-clause-stands
returns-in_ok-numbers-in-DeltaBinaryPacked-Int64-clause-stands c =
    let vs = map value_ref_view c.args.values.now in
    let numbers = c.in_ok-numbers-in-DeltaBinaryPacked-Int64.numbers.items in
    let old = c.args.out.now.items in
    let new = c.encode_i64.new.out.items in
    on_ok_both c.encode_i64.result
    (λ p q. as_written c.args.kind Int64 c.args.encoding DeltaBinaryPacked vs old new c.in-DeltaBinaryPacked-Int64.is-1 c.in-DeltaBinaryPacked-Int64.is-0
    (deltas_put w64 numbers vs (298 + 9 * length numbers) old new c.in_ok-numbers-in-DeltaBinaryPacked-Int64.ensures.are (omega arith) (subst (λ (l : List ℤ). Appends (λ bytes. IsDelta w64 bytes (length l) l) (298 + 9 * length l) old new) c.as_slice-in-DeltaBinaryPacked-Int64.ensures.value p)
    (subst (λ (l : List ℤ). AppendsWrittenDelta w64 l old new) c.as_slice-in-DeltaBinaryPacked-Int64.ensures.value q)))
    c.encode_i64.ensures.stands c.encode_i64.ensures.written

pub returns-in-DeltaLengthByteArray-ByteArray-clause-stands :
    goal.returns-in-DeltaLengthByteArray-ByteArray-clause-stands
returns-in-DeltaLengthByteArray-ByteArray-clause-stands c =
    let vs = map value_ref_view c.args.values.now in
    let old = c.args.out.now.items in
    let new = c.encode_lengths.new.out.items in
    on_ok_both c.encode_lengths.result
    (λ p q. as_written c.args.kind ByteArray c.args.encoding DeltaLengthByteArray vs old new c.in-DeltaLengthByteArray-ByteArray.is-1 c.in-DeltaLengthByteArray-ByteArray.is-0 (lengths_put vs old new p q))
    c.encode_lengths.ensures.stands c.encode_lengths.ensures.written

pub returns-in-DeltaByteArray-ByteArray-clause-stands :
    goal.returns-in-DeltaByteArray-ByteArray-clause-stands
returns-in-DeltaByteArray-ByteArray-clause-stands c =
    let vs = map value_ref_view c.args.values.now in
    let old = c.args.out.now.items in
    let new = c.encode_prefixes.new.out.items in
    on_ok_both c.encode_prefixes.result
    (λ p q. as_written c.args.kind ByteArray c.args.encoding DeltaByteArray vs old new c.in-DeltaByteArray-ByteArray.is-1 c.in-DeltaByteArray-ByteArray.is-0 (prefixes_put vs old new p q))
    c.encode_prefixes.ensures.stands c.encode_prefixes.ensures.written

pub returns-in-DeltaByteArray-FixedLenByteArray-clause-stands :
    goal.returns-in-DeltaByteArray-FixedLenByteArray-clause-stands
returns-in-DeltaByteArray-FixedLenByteArray-clause-stands c =
    let vs = map value_ref_view c.args.values.now in
    let old = c.args.out.now.items in
    let call = c.encode_prefixes-in-DeltaByteArray-FixedLenByteArray in
    let new = call.new.out.items in
    let known = c.in-DeltaByteArray-FixedLenByteArray in
    let fixed = FixedLenByteArray known.field-0-1 in
    on_ok_both call.result (λ p q. as_written c.args.kind fixed c.args.encoding DeltaByteArray vs old new known.is-1 known.is-0 (prefixes_put vs old new p q)) call.ensures.stands call.ensures.written

pub returns-in-DeltaByteArray-FixedLenByteArray-clause-within_limits :
    goal.returns-in-DeltaByteArray-FixedLenByteArray-clause-within_limits
returns-in-DeltaByteArray-FixedLenByteArray-clause-within_limits c =
    let vs = map value_ref_view c.args.values.now in
    let call = c.encode_prefixes-in-DeltaByteArray-FixedLenByteArray in
    let known = c.in-DeltaByteArray-FixedLenByteArray in
    not_over (IsWriteOver ByteArray vs) (Any IsTooLong vs) call.result (λ long. (any_bytes known.field-0-1 vs (rw known.is-1 at c.requires), long)) call.ensures.limit
