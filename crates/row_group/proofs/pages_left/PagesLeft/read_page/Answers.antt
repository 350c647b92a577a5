use Rattle.std.proofs.Common.{ℕ, List, Option, Err, sym, ap, subst, ◌∙◌}
use Rattle.bits.specs.Codec.{NothingStands}
use Rattle.schema.specs.Values.{ValueTree}
use Rattle.pages.specs.Page.{IsPage}
use Rattle.pages.specs.Apart.{IsOnlyPage, IsPageOfAtMost}
use Rattle.pages.specs.Views.{page_view}
use Rattle.row_group.specs.Rest.{ChunkLeft}
use Rattle.row_group.specs.Left.{pages_view}
use Rattle.row_group.specs.inner.Pages.{IsRefusedAt}
use Rattle.row_group.proofs.PageSteps.{accepted_stands, accepted_short, read_refused, page_taken}
use Rattle.row_group.proofs.pages_left.PagesLeft.read_page.Goals as goal

pub page_at-requires-clause-stood : goal.page_at-requires-clause-stood
page_at-requires-clause-stood c = λ flag none.
    let s = pages_view c.args.self.now in
    let d = c.values-dictionary.ensures in
    accepted_stands c.pages_of_a_dictionary.ensures.unread s c.requires.lacking (c.requires.accepted flag)
    (subst (λ (o : Option (List ValueTree)). NothingStands (IsPageOfAtMost s.lacking s.leaf o s.bytes)) d none)

pub page_at-requires-clause-known_within_limits : goal.page_at-requires-clause-known_within_limits
page_at-requires-clause-known_within_limits c = λ flag over. accepted_short (pages_view c.args.self.now) c.requires.lacking (c.requires.accepted flag) over

pub returns-in-Err : goal.returns-in-Err
returns-in-Err c =
    let s = pages_view c.args.self.now in
    let only = c.in-Err.ensures.only in
    let d = c.values-dictionary.ensures in
    subst (IsRefusedAt s s) (sym c.fault_of.ensures)
    (read_refused c.pages_of_a_dictionary.ensures.unread s c.in-Err.refusal c.requires.lacking c.in-Err.ensures.which
    (λ fault. subst (λ (o : Option (List ValueTree)). NothingStands (IsPageOfAtMost s.lacking s.leaf o s.bytes)) d (only fault))
    (λ limit. c.page_at.ensures.limit (c.in-Err.is ∙ ap Err limit)))

pub returns-in-Ok : goal.returns-in-Ok
returns-in-Ok c =
    let s = pages_view c.args.self.now in
    let d = c.values-dictionary.ensures in
    let p = page_view c.in-Ok.page in
    page_taken c.pages_of_a_dictionary.ensures.unread s _ (pages_view c.take.new.self) p c.in-Ok.used c.take.result c.requires.lacking
    (record {
      stands = subst (λ (o : Option (List ValueTree)). IsPage s.leaf o s.bytes p c.in-Ok.used) d c.in-Ok.ensures.stands;
      only = subst (λ (o : Option (List ValueTree)). IsOnlyPage s.leaf o s.bytes p c.in-Ok.used) d c.in-Ok.ensures.alone;
      within = c.in-Ok.ensures.within;
      few = c.in-Ok.ensures.at_most_left;
      short = c.in-Ok.ensures.within_limits;
    })
    (ap (λ (b : List ℕ). let t : ChunkLeft = record { leaf = s.leaf; known = s.known; bytes = b; lacking = s.lacking } in t) c.split_at.ensures.back) c.take.ensures
