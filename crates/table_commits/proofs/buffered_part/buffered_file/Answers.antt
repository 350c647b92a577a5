use Rattle.std.proofs.Common.{◌≡◌, ◌≤◌, ◌⊎◌, List, length, Err, ap, subst, arith, inl, inr, ⊎_elim}
use Rattle.bits.specs.declared.refusal.Refusal.{Refusal}
use Rattle.bits.specs.declared.refusal.Refusal.TheVariants.{Limit, Memory}
use Rattle.bits.specs.Refusals.{HasCause, IsFault, OnFault, RefusedOnly}
use Rattle.schema.specs.Shape.{Fields}
use Rattle.shred.specs.Buffer.{schema_of, holds}
use Rattle.row_group.specs.Writing.{IsOfRows}
use Rattle.footer.specs.Own.{IsLaidOut}
use Rattle.footer.specs.Writer.{options_of}
use Rattle.footer.specs.Writing.{IsOutOfRange, IsTooMuch}
use Rattle.footer.specs.declared.options.WriteOptions.{WriteOptions}
use Rattle.vault.proofs.Chained.{refused}
use Rattle.table.specs.Table.{Row}
use Rattle.table_commits.proofs.buffered_part.buffered_file.Goals as goal

pub returns-clause-laid_out : goal.returns-clause-laid_out
returns-clause-laid_out c held known =
    let of = c.in_ok-writer.ensures.of in
    let bytes = c.in_ok-finish_with_record.field-0.0.items in
    subst (λ (o : WriteOptions). IsLaidOut o (schema_of c.args.rows) held bytes) of.1
    (subst (λ (fs : Fields). IsLaidOut (options_of c.in_ok-writer.writer) fs held bytes) of.0 (c.in_ok-finish_with_record.ensures.laid_out held (c.in_ok-writer.ensures.begins held known)))

pub returns-clause-record_is : goal.returns-clause-record_is
returns-clause-record_is c held known = c.in_ok-finish_with_record.ensures.record_is held (c.in_ok-writer.ensures.begins held known)

pub returns-clause-within_limits : goal.returns-clause-within_limits
returns-clause-within_limits c held known = c.in_ok-finish_with_record.ensures.within_limits held (c.in_ok-writer.ensures.begins held known)

-- a limit is no fault
no_fault : (e : Refusal) → HasCause (λ f. f ≡ Limit) e → IsFault e → ⊥
no_fault Memory which fault = fault
no_fault Limit which fault = fault
no_fault e which fault = absurd (let is : e ≡ Limit = which in cc)

of_rows : (e : Refusal) → HasCause (λ f. f ≡ Limit) e → HasCause IsOfRows e
of_rows Memory which = tt
of_rows Limit which = tt
of_rows e which = absurd (let is : e ≡ Limit = which in cc)

pub returns-in_err-writer-clause-which : goal.returns-in_err-writer-clause-which
returns-in_err-writer-clause-which c =
    refused (λ r. RefusedOnly IsOfRows r) c.from_residual.result _ c.from_residual.ensures.1 (of_rows c.in_err-writer.field-0.0 c.in_err-writer.ensures.which)

pub returns-in_err-writer-clause-only : goal.returns-in_err-writer-clause-only
returns-in_err-writer-clause-only c =
    refused (λ r. OnFault r ((held : List Row) → holds c.args.rows held → ⊥)) c.from_residual.result _ c.from_residual.ensures.1
    (λ fault held known. no_fault c.in_err-writer.field-0.0 c.in_err-writer.ensures.which fault)

pub returns-in_err-finish_with_record-clause-only : goal.returns-in_err-finish_with_record-clause-only
returns-in_err-finish_with_record-clause-only c =
    refused (λ r. OnFault r ((held : List Row) → holds c.args.rows held → ⊥)) c.from_residual-in_err-finish_with_record.result _ c.from_residual-in_err-finish_with_record.ensures.1
    (λ fault held known. c.in_err-finish_with_record.ensures.only fault held (c.in_ok-writer.ensures.begins held known))

pub returns-in_err-writer-clause-limit : goal.returns-in_err-writer-clause-limit
returns-in_err-writer-clause-limit c =
    refused (λ r. r ≡ Err Limit → (held : List Row) → holds c.args.rows held → length held ≤ c.args.options.now.group_rows → IsOutOfRange c.args.options.now ⊎ IsTooMuch (schema_of c.args.rows) c.args.options.now held) c.from_residual.result _ c.from_residual.ensures.1
    (λ is held known few. let same : c.in_err-writer.field-0.0 ≡ Limit = cc in
    ⊎_elim inl (λ more. absurd (let m = more held known in omega (arith, m, few))) (c.in_err-writer.ensures.limit (ap (λ (e : Refusal). Err e) same)))

pub returns-in_err-finish_with_record-clause-limit : goal.returns-in_err-finish_with_record-clause-limit
returns-in_err-finish_with_record-clause-limit c =
    let of = c.in_ok-writer.ensures.of in
    refused (λ r. r ≡ Err Limit → (held : List Row) → holds c.args.rows held → length held ≤ c.args.options.now.group_rows → IsOutOfRange c.args.options.now ⊎ IsTooMuch (schema_of c.args.rows) c.args.options.now held) c.from_residual-in_err-finish_with_record.result _ c.from_residual-in_err-finish_with_record.ensures.1
    (λ is held known few. let same : c.in_err-finish_with_record.field-0.0 ≡ Limit = cc in
    inr (subst (λ (o : WriteOptions). IsTooMuch (schema_of c.args.rows) o held) of.1
    (subst (λ (fs : Fields). IsTooMuch fs (options_of c.in_ok-writer.writer) held) of.0
    (c.in_err-finish_with_record.ensures.limit (ap (λ (e : Refusal). Err e) same) held (c.in_ok-writer.ensures.begins held known)))))
