use Rattle.std.proofs.Common.{◌≡◌, ◌⊎◌, ap, subst}
use Rattle.bits.specs.declared.refusal.Refusal.TheVariants.{Truncated, Thrift}
use Rattle.bits.specs.Refusals.{IsFault, HasCause}
use Rattle.bits.specs.Codec.{NothingStands}
use Rattle.bits.proofs.Passing.{passes}
use Rattle.thrift_compact.specs.View.{code_of}
use Rattle.thrift_compact.specs.Values.{ReadAs}
use Rattle.metadata.specs.FieldValues.{record_by}
use Rattle.metadata.specs.FromTree.{chunk_meta}
use Rattle.metadata.specs.Views.{chunk_meta_view}
use Rattle.metadata.specs.Answers.{StandsFor}
use Rattle.metadata.proofs.Readings.{stands_for, only_for, which_for}
use Rattle.metadata.proofs.chunk_meta.ChunkMeta.read.Goals as goal

pub returns-clause-stands : goal.returns-clause-stands
returns-clause-stands c =
    let v = c.of_struct.result in
    let m = chunk_meta_view c.in_ok-record.record in
    let used = c.in_ok-record.used in
    subst (λ b. StandsFor chunk_meta b m used) c.of_struct.ensures.bytes (stands_for chunk_meta (code_of v.kind) v.left v.bytes.now m used c.of_struct.ensures.left c.in_ok-record.ensures.stands)

pub returns-in_err-record-clause-only : goal.returns-in_err-record-clause-only
returns-in_err-record-clause-only c =
    let v = c.of_struct.result in
    let e = c.in_err-record.field-0.0 in
    let none = only_for chunk_meta (code_of v.kind) v.left v.bytes.now e (ap code_of c.of_struct.ensures.kind) c.of_struct.ensures.left c.in_err-record.ensures.which in
    let here = subst (λ b. IsFault e → NothingStands (StandsFor chunk_meta b)) c.of_struct.ensures.bytes none in
    passes (λ f. IsFault f → NothingStands (StandsFor chunk_meta c.args.bytes.now)) c.from_residual.result e c.from_residual.ensures.1 here

pub returns-in_err-record-clause-which : goal.returns-in_err-record-clause-which
returns-in_err-record-clause-which c =
    let v = c.of_struct.result in
    let e = c.in_err-record.field-0.0 in
    passes (HasCause (λ f. (f ≡ Truncated) ⊎ (f ≡ Thrift))) c.from_residual.result e c.from_residual.ensures.1 (which_for (ReadAs (record_by chunk_meta) (code_of v.kind) v.left) v.bytes.now e c.in_err-record.ensures.which)
