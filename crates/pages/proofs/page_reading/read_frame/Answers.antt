use Rattle.std.proofs.Common.{◌≡◌, ℕ, List, ◌∙◌, inr, to_z, of_z, w32, rules}
use Rattle.std.specs.Prelude.{◌⊎◌}
use Rattle.bits.specs.declared.refusal.Refusal.TheVariants.{Thrift, Page}
use Rattle.bits.specs.Refusals.{IsFault}
use Rattle.bits.proofs.Passing.{passes}
use Rattle.metadata.specs.Records.{PageHeader}
use Rattle.metadata.specs.Views.{page_header_view}
use Rattle.pages.specs.Page.{IsFramed}
use Rattle.pages.proofs.Framed.{no_frame}
use Rattle.pages.proofs.Passed.{passes_which}
use Rattle.pages.proofs.page_reading.read_frame.Goals as goal

pub returns-in_err-header-clause-only : goal.returns-in_err-header-clause-only
returns-in_err-header-clause-only c =
    passes (λ e. IsFault e → (h : PageHeader) (body : List ℕ) (used : ℕ) → IsFramed c.args.bytes.now h body used → ⊥) c.from_residual.result c.in_err-header.field-0.0 c.from_residual.ensures.1
    (λ fault h body used p. c.in_err-header.ensures.only fault h p.header_end p.begins)

pub returns-in_err-body-clause-only : goal.returns-in_err-body-clause-only
returns-in_err-body-clause-only c =
    let size_is : to_z w32 (of_z w32 c.in_ok-header.header.compressed_page_size) ≡ c.in_ok-header.header.compressed_page_size = search rules in
    passes (λ e. IsFault e → (h : PageHeader) (body : List ℕ) (used : ℕ) → IsFramed c.args.bytes.now h body used → ⊥) c.from_residual-in_err-body.result c.in_err-body.field-0.0 c.from_residual-in_err-body.ensures.1
    (λ fault. no_frame c.args.bytes.now (page_header_view c.in_ok-header.header) c.in_ok-header.header_end c.one_page_header.ensures c.in_ok-header.ensures.stands
    (λ front rest size is. c.in_err-body.ensures.only fault front rest (size_is ∙ size) (c.split_at.ensures.back ∙ is)))

pub returns-in_err-body-clause-which : goal.returns-in_err-body-clause-which
returns-in_err-body-clause-which c =
    passes_which (λ e. e ≡ Page) (λ e. (e ≡ Thrift) ⊎ (e ≡ Page)) c.from_residual-in_err-body.result c.in_err-body.field-0.0 (λ e is. inr is) c.from_residual-in_err-body.ensures.1 c.in_err-body.ensures.which
