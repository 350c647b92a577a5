use Rattle.std.proofs.Common.{ap}
use Rattle.std.specs.Prelude.{Err}
use Rattle.bits.specs.Refusals.{IsFault}
use Rattle.bits.proofs.Passing.{passes}
use Rattle.schema.specs.Views.{leaf_view}
use Rattle.metadata.specs.Views.{page_header_view}
use Rattle.pages.specs.Limits.{IsPageOver}
use Rattle.pages.specs.Views.{page_view, dictionary_view}
use Rattle.pages.proofs.Framed.{NoPage, framed_fails, framed_short, framed_limit}
use Rattle.pages.proofs.Passed.{passes_over}
use Rattle.pages.proofs.StoodBefore.{rules_out}
use Rattle.pages.proofs.page_reading.read_page_by_standing.Goals as goal

pub returns-in_err-header-clause-only : goal.returns-in_err-header-clause-only
returns-in_err-header-clause-only c =
    let d = dictionary_view c.args.dictionary in
    passes (λ e. IsFault e → NoPage (leaf_view c.args.leaf.now) d c.args.bytes.now c.args.left) c.from_residual.result c.in_err-header.field-0.0 c.from_residual.ensures.1
    (λ fault page used p. c.in_err-header.ensures.only fault p.0.header p.0.body used p.0.framed)

pub returns-in_err-page-clause-only : goal.returns-in_err-page-clause-only
returns-in_err-page-clause-only c =
    let leaf = leaf_view c.args.leaf.now in
    let d = dictionary_view c.args.dictionary in
    passes (λ e. IsFault e → NoPage leaf d c.args.bytes.now c.args.left) c.from_residual-in_err-page.result c.in_err-page.field-0.0 c.from_residual-in_err-page.ensures.1
    (λ fault. framed_fails leaf d c.args.bytes.now (page_header_view c.in_ok-header.header) c.in_ok-header.body.now c.in_ok-header.used c.args.left c.one_page_header.ensures c.in_ok-header.ensures.stands (c.in_err-page.ensures.only fault))

pub returns-in_err-page-clause-limit : goal.returns-in_err-page-clause-limit
returns-in_err-page-clause-limit c =
    let leaf = leaf_view c.args.leaf.now in
    passes_over (IsPageOver leaf c.args.bytes.now) c.from_residual-in_err-page.result c.in_err-page.field-0.0 c.from_residual-in_err-page.ensures.1
    (λ is. framed_limit leaf c.args.bytes.now (page_header_view c.in_ok-header.header) c.in_ok-header.body.now c.in_ok-header.used c.in_ok-header.ensures.stands (c.in_err-page.ensures.limit (ap Err is)))

pub returns-clause-alone : goal.returns-clause-alone
returns-clause-alone c = λ other taken p.
    let leaf = leaf_view c.args.leaf.now in
    let d = dictionary_view c.args.dictionary in
    let h = page_header_view c.in_ok-header.header in
    c.one_page.ensures.page leaf d c.args.bytes.now other (page_view c.in_ok-page.page) taken c.in_ok-header.used p
    (record { header = h; body = c.in_ok-header.body.now; framed = c.in_ok-header.ensures.stands; stands_for = c.in_ok-page.ensures.stands })

pub returns-clause-within_limits : goal.returns-clause-within_limits
returns-clause-within_limits c =
    framed_short (leaf_view c.args.leaf.now) c.args.bytes.now (page_header_view c.in_ok-header.header) c.in_ok-header.body.now c.in_ok-header.used c.one_page_header.ensures c.in_ok-header.ensures.stands c.in_ok-page.ensures.within_limits

pub read_body-requires-clause-stood : goal.read_body-requires-clause-stood
read_body-requires-clause-stood c =
    let leaf = leaf_view c.args.leaf.now in
    let d = dictionary_view c.args.dictionary in
    rules_out c.args.standing
    (framed_fails leaf d c.args.bytes.now (page_header_view c.in_ok-header.header) c.in_ok-header.body.now c.in_ok-header.used c.args.left c.one_page_header.ensures c.in_ok-header.ensures.stands) c.requires.stood

pub read_body-requires-clause-known_within_limits : goal.read_body-requires-clause-known_within_limits
read_body-requires-clause-known_within_limits c =
    rules_out c.args.standing
    (framed_limit (leaf_view c.args.leaf.now) c.args.bytes.now (page_header_view c.in_ok-header.header) c.in_ok-header.body.now c.in_ok-header.used c.in_ok-header.ensures.stands) c.requires.known_within_limits
