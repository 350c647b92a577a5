use Rattle.std.proofs.Common.{List, ℕ}
use Rattle.bits.specs.Refusals.{IsFault}
use Rattle.bits.proofs.Passing.{passes}
use Rattle.metadata.specs.Records.{FileMeta as FileMetaShown}
use Rattle.metadata.specs.Views.{file_meta_view}
use Rattle.footer.specs.File.{IsFile}
use Rattle.footer.proofs.OneFile.{one_file, no_file}
use Rattle.footer.proofs.footer_reading.parts_and_record.Goals as goal

pub returns-in_err-front-clause-only : goal.returns-in_err-front-clause-only
returns-in_err-front-clause-only c =
    passes (λ e. IsFault e → (front : List ℕ) (meta : FileMetaShown) → IsFile c.args.bytes.now front meta → ⊥) c.from_residual.result c.in_err-front.field-0.0 c.from_residual.ensures.1
    (λ fault front meta p. c.in_err-front.ensures.only fault front p.footer p.framed)

pub returns-in_err-record-clause-only : goal.returns-in_err-record-clause-only
returns-in_err-record-clause-only c =
    passes (λ e. IsFault e → (front : List ℕ) (meta : FileMetaShown) → IsFile c.args.bytes.now front meta → ⊥) c.from_residual-in_err-record.result c.in_err-record.field-0.0 c.from_residual-in_err-record.ensures.1
    (λ fault. no_file c.args.bytes.now c.in_ok-front.front.now c.in_ok-front.footer.now c.in_ok-front.ensures.framed (c.in_err-record.ensures.only fault))

pub returns-clause-alone : goal.returns-clause-alone
returns-clause-alone c = λ front other p.
    one_file c.one_footer.ensures c.args.bytes.now front c.in_ok-front.front.now other (file_meta_view c.in_ok-record.record) p
    (record { footer = c.in_ok-front.footer.now; used = c.in_ok-record.field-0-1; framed = c.in_ok-front.ensures.framed; stands = c.in_ok-record.ensures.stands })
