use Rattle.metadata.specs.Views.{page_header_view}
use Rattle.metadata.proofs.Own.{has_own}
use Rattle.metadata.proofs.page_header.PageHeader.to_tree.Goals as goal

-- fields that are this record would have the header that its type names
pub returns-then-not-has_own_header-clause-only : goal.returns-then-not-has_own_header-clause-only
returns-then-not-has_own_header-clause-only c = λ _ fields e.
    let own = (has_own fields (page_header_view c.args.self.now) e).0 in
    let is = c.has_own_header.ensures in
    let test = c.if-not-has_own_header.true in
    cc
