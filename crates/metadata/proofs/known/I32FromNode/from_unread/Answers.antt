use Rattle.std.proofs.Common.{refl}
use Rattle.thrift_compact.specs.Tree.{i32}
use Rattle.thrift_compact.specs.View.{code_of}
use Rattle.metadata.specs.FieldValues.{int32}
use Rattle.metadata.proofs.Readings.{form_returned, form_refusal, int32_is}
use Rattle.metadata.proofs.known.I32FromNode.from_unread.Goals as goal

pub returns-clause-stands : goal.returns-clause-stands
returns-clause-stands c =
    let v = c.args.value in
    form_returned int32 i32 (code_of v.kind) v.left v.bytes.now c.read_i32.result (λ z. refl) c.read_i32.ensures.stands

pub returns-clause-which : goal.returns-clause-which
returns-clause-which c =
    let v = c.args.value in
    form_refusal int32 i32 (code_of v.kind) v.left v.bytes.now c.read_i32.result int32_is c.read_i32.ensures.which
