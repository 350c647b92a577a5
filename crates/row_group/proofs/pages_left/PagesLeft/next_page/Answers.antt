use Rattle.std.proofs.Common.{[], Option, Ok, subst}
use Rattle.pages.specs.declared.data_page.DataPage.{DataPage}
use Rattle.pages.specs.Left.{entries_left}
use Rattle.row_group.specs.Left.{pages_view}
use Rattle.row_group.specs.inner.Pages.{ReadsPage}
use Rattle.row_group.proofs.NextPages.{passes_none, passes_then}
use Rattle.row_group.proofs.PageSteps.{passes_accepted, refused_later, next_refused}
use Rattle.row_group.proofs.pages_left.PagesLeft.next_page.Goals as goal

pub pages-init : goal.pages-init
pages-init c = passes_none (pages_view c.args.self.now)

pub read_page-requires-clause-accepted : goal.read_page-requires-clause-accepted
read_page-requires-clause-accepted c = λ flag. passes_accepted (pages_view c.args.self.now) (pages_view c.pages.self) [] c.pages.invariant (c.requires.accepted flag)

pub returns-then-self-eq0 : goal.returns-then-self-eq0
returns-then-self-eq0 c = (c.pages.invariant, c.if-self-eq0.true)

pub returns-in_err-page : goal.returns-in_err-page
returns-in_err-page c =
    let s = pages_view c.args.self.now in
    let u = pages_view c.read_page.new.self in
    next_refused s u c.from_residual.result c.in_err-page.field-0.0 c.from_residual.ensures.1
    (refused_later s (pages_view c.pages.self) u _ c.pages.invariant c.in_err-page.ensures)

pub returns-in-Some : goal.returns-in-Some
returns-in-Some c =
    let s = pages_view c.args.self.now in
    let t = pages_view c.pages.self in
    let u = pages_view c.read_page.new.self in
    let read = subst (λ (o : Option DataPage). ReadsPage t u (Ok o)) c.in-Some.is c.in_ok-page.ensures in
    (passes_then s t u [] (entries_left c.in-Some.page) c.pages.invariant read.0, read.1, read.2)

pub pages-preserved : goal.pages-preserved
pages-preserved c =
    let s = pages_view c.args.self.now in
    let t = pages_view c.pages.self in
    let u = pages_view c.read_page.new.self in
    let read = subst (λ (o : Option DataPage). ReadsPage t u (Ok o)) c.in_default.is c.in_ok-page.ensures in
    passes_then s t u [] [] c.pages.invariant read.0
