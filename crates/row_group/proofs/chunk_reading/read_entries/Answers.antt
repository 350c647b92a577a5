use Rattle.std.proofs.Common.{map, [], Option, Ok, sym, ap, subst}
use Rattle.std.proofs.lemmas.List.{append-nil}
use Rattle.bits.proofs.Passing.{passes}
use Rattle.bits.specs.Faults.{refusal_of}
use Rattle.schema.specs.Views.{entry_view}
use Rattle.pages.specs.declared.data_page.DataPage.{DataPage}
use Rattle.pages.specs.Left.{entries_left}
use Rattle.row_group.specs.Left.{pages_view}
use Rattle.row_group.specs.inner.Pages.{Passes, NextPage, IsRefusedWithin}
use Rattle.row_group.proofs.NextPages.{passes_none, passes_then}
use Rattle.row_group.proofs.WholeChunk.{within}
use Rattle.row_group.proofs.chunk_reading.read_entries.Goals as goal

pub loop-entries-init : goal.loop-entries-init
loop-entries-init c = let s = pages_view c.args.pages.now in subst (Passes s s) (sym (ap (map entry_view) c.new-entries.ensures.items)) (passes_none s)

pub returns-in_err-page-clause-refused : goal.returns-in_err-page-clause-refused
returns-in_err-page-clause-refused c =
    let s = pages_view c.args.pages.now in
    passes (IsRefusedWithin s) c.from_residual.result (refusal_of c.in_err-page.field-0.0) c.from_residual.ensures.1
    (within s (pages_view c.loop-entries.pages) (pages_view c.next_page.new.self) _ _ c.loop-entries.invariant c.in_err-page.ensures)

pub loop-entries-preserved : goal.loop-entries-preserved
loop-entries-preserved c =
    let s = pages_view c.args.pages.now in
    let t = pages_view c.loop-entries.pages in
    let u = pages_view c.next_page.new.self in
    let read = subst (λ (o : Option DataPage). NextPage t u (Ok o)) c.in-Some.is c.in_ok-page.ensures in
    let done = map entry_view c.loop-entries.entries.items in
    subst (Passes s u) (sym c.in_ok-push_entries.ensures.stands) (passes_then s t u done (entries_left c.in-Some.page) c.loop-entries.invariant read.0)

pub returns-clause-stands : goal.returns-clause-stands
returns-clause-stands c =
    let s = pages_view c.args.pages.now in
    let t = pages_view c.loop-entries.pages in
    let u = pages_view c.next_page.new.self in
    let read = subst (λ (o : Option DataPage). NextPage t u (Ok o)) c.in_default.is c.in_ok-page.ensures in
    let done = map entry_view c.loop-entries.entries.items in
    (subst (Passes s u) (append-nil done) (passes_then s t u done [] c.loop-entries.invariant read.0), read.1)
