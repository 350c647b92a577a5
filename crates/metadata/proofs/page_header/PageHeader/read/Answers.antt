use Rattle.std.proofs.Common.{◌≡◌, ◌⊎◌, ◌++◌, ap, subst}
use Rattle.std.specs.Prelude.{true, false}
use Rattle.bits.specs.declared.refusal.Refusal.TheVariants.{Truncated, Thrift}
use Rattle.bits.specs.Refusals.{IsFault, HasCause}
use Rattle.bits.specs.Codec.{NothingStands, NothingStandsEver}
use Rattle.bits.proofs.Passing.{passes}
use Rattle.thrift_compact.specs.View.{code_of}
use Rattle.thrift_compact.specs.Values.{ReadAs}
use Rattle.metadata.specs.FieldValues.{record_by}
use Rattle.metadata.specs.FromTree.{any_page_header, has_own_header, page_header}
use Rattle.metadata.specs.Views.{page_header_view}
use Rattle.metadata.specs.Answers.{StandsFor}
use Rattle.metadata.proofs.Readings.{stands_for, only_for, which_for, ever_for, same_refusal}
use Rattle.metadata.proofs.OwnHeader.{own_stands, none_of_any, none_without, at_once}
use Rattle.metadata.proofs.page_header.PageHeader.read.Goals as goal

pub returns-then-has_own_header-clause-stands : goal.returns-then-has_own_header-clause-stands
returns-then-has_own_header-clause-stands c =
    let v = c.of_struct-value.result in
    let h = page_header_view c.in_ok-record.record in
    let used = c.in_ok-record.used in
    let any = subst (λ b. StandsFor any_page_header b h used) c.of_struct-value.ensures.bytes (stands_for any_page_header (code_of v.kind) v.left v.bytes.now h used c.of_struct-value.ensures.left c.in_ok-record.ensures.stands) in
    let own : has_own_header h ≡ true = (let is = c.has_own_header.ensures in let test = c.if-has_own_header.true in cc) in
    own_stands c.args.bytes.now h used own any

pub returns-in_err-record-clause-only : goal.returns-in_err-record-clause-only
returns-in_err-record-clause-only c =
    let v = c.of_struct-value.result in
    let e = c.in_err-record.field-0.0 in
    let none = only_for any_page_header (code_of v.kind) v.left v.bytes.now e (ap code_of c.of_struct-value.ensures.kind) c.of_struct-value.ensures.left c.in_err-record.ensures.which in
    let here = subst (λ b. IsFault e → NothingStands (StandsFor any_page_header b)) c.of_struct-value.ensures.bytes none in
    passes (λ f. IsFault f → NothingStands (StandsFor page_header c.args.bytes.now)) c.from_residual.result e c.from_residual.ensures.1 (λ fault. none_of_any c.args.bytes.now (here fault))

pub returns-in_err-record-clause-which : goal.returns-in_err-record-clause-which
returns-in_err-record-clause-which c =
    let v = c.of_struct-value.result in
    let e = c.in_err-record.field-0.0 in
    passes (HasCause (λ f. (f ≡ Truncated) ⊎ (f ≡ Thrift))) c.from_residual.result e c.from_residual.ensures.1 (which_for (ReadAs (record_by any_page_header) (code_of v.kind) v.left) v.bytes.now e c.in_err-record.ensures.which)

pub returns-in_err-record-clause-whatever_follows : goal.returns-in_err-record-clause-whatever_follows
returns-in_err-record-clause-whatever_follows c thrift =
    let v = c.of_struct-value.result in
    let e = c.in_err-record.field-0.0 in
    let none = ever_for any_page_header (code_of v.kind) v.left v.bytes.now e (ap code_of c.of_struct-value.ensures.kind) c.of_struct-value.ensures.left c.in_err-record.ensures.which (same_refusal c.from_residual.result e c.from_residual.ensures.1 thrift) in
    let here = subst (λ b. NothingStandsEver (StandsFor any_page_header) b) c.of_struct-value.ensures.bytes none in
    λ more. none_of_any (c.args.bytes.now ++ more) (here more)

-- without the header that its type names it is none, whatever follows
pub returns-else-has_own_header-clause-only : goal.returns-else-has_own_header-clause-only
returns-else-has_own_header-clause-only c fault =
    let v = c.of_struct-value.result in
    let h = page_header_view c.in_ok-record.record in
    let own : has_own_header h ≡ false = (let is = c.has_own_header.ensures in let test = c.if-has_own_header.false in cc) in
    let none = none_without (code_of v.kind) v.left v.bytes.now h c.in_ok-record.used (ap code_of c.of_struct-value.ensures.kind) c.of_struct-value.ensures.left c.one_value.ensures.one c.one_value.ensures.stays own c.in_ok-record.ensures.stands in
    at_once (StandsFor page_header) c.args.bytes.now (subst (λ b. NothingStandsEver (StandsFor page_header) b) c.of_struct-value.ensures.bytes none)

pub returns-else-has_own_header-clause-whatever_follows : goal.returns-else-has_own_header-clause-whatever_follows
returns-else-has_own_header-clause-whatever_follows c thrift =
    let v = c.of_struct-value.result in
    let h = page_header_view c.in_ok-record.record in
    let own : has_own_header h ≡ false = (let is = c.has_own_header.ensures in let test = c.if-has_own_header.false in cc) in
    let none = none_without (code_of v.kind) v.left v.bytes.now h c.in_ok-record.used (ap code_of c.of_struct-value.ensures.kind) c.of_struct-value.ensures.left c.one_value.ensures.one c.one_value.ensures.stays own c.in_ok-record.ensures.stands in
    subst (λ b. NothingStandsEver (StandsFor page_header) b) c.of_struct-value.ensures.bytes none
