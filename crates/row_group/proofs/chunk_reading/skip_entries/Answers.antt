use Rattle.std.proofs.Common.{[], ◌++◌, Option, Ok, subst}
use Rattle.bits.proofs.Passing.{passes}
use Rattle.bits.specs.Faults.{refusal_of}
use Rattle.pages.specs.declared.data_page.DataPage.{DataPage}
use Rattle.pages.specs.Left.{entries_left}
use Rattle.row_group.specs.Left.{pages_view}
use Rattle.row_group.specs.inner.Pages.{NextPage, IsRefusedWithin}
use Rattle.row_group.proofs.NextPages.{passes_none, passes_then}
use Rattle.row_group.proofs.WholeChunk.{within}
use Rattle.row_group.proofs.chunk_reading.skip_entries.Goals as goal

pub loop-init : goal.loop-init
loop-init c = ([], passes_none (pages_view c.args.pages.now))

pub returns-in_err-next_page-clause-refused : goal.returns-in_err-next_page-clause-refused
returns-in_err-next_page-clause-refused c =
    let s = pages_view c.args.pages.now in
    passes (IsRefusedWithin s) c.from_residual.result (refusal_of c.in_err-next_page.field-0.0) c.from_residual.ensures.1
    (within s (pages_view c.loop.pages) (pages_view c.next_page.new.self) c.loop.invariant.0 _ c.loop.invariant.1 c.in_err-next_page.ensures)

pub loop-preserved-in-Some : goal.loop-preserved-in-Some
loop-preserved-in-Some c =
    let s = pages_view c.args.pages.now in
    let t = pages_view c.loop.pages in
    let u = pages_view c.next_page.new.self in
    let read = subst (λ (o : Option DataPage). NextPage t u (Ok o)) c.in-Some.is c.in_ok-next_page.ensures in
    let es = entries_left c.in-Some.field-0 in
    (c.loop.invariant.0 ++ es, passes_then s t u c.loop.invariant.0 es c.loop.invariant.1 read.0)

pub loop-preserved-in-Some-2 : goal.loop-preserved-in-Some-2
loop-preserved-in-Some-2 c =
    let s = pages_view c.args.pages.now in
    let t = pages_view c.loop.pages in
    let u = pages_view c.next_page.new.self in
    let read = subst (λ (o : Option DataPage). NextPage t u (Ok o)) c.in-Some.is c.in_ok-next_page.ensures in
    let es = entries_left c.in-Some.field-0 in
    (c.loop.invariant.0 ++ es, passes_then s t u c.loop.invariant.0 es c.loop.invariant.1 read.0)

pub loop-preserved-in-Some-3 : goal.loop-preserved-in-Some-3
loop-preserved-in-Some-3 c =
    let s = pages_view c.args.pages.now in
    let t = pages_view c.loop.pages in
    let u = pages_view c.next_page.new.self in
    let read = subst (λ (o : Option DataPage). NextPage t u (Ok o)) c.in-Some.is c.in_ok-next_page.ensures in
    let es = entries_left c.in-Some.field-0 in
    (c.loop.invariant.0 ++ es, passes_then s t u c.loop.invariant.0 es c.loop.invariant.1 read.0)

pub loop-preserved-in-Some-4 : goal.loop-preserved-in-Some-4
loop-preserved-in-Some-4 c =
    let s = pages_view c.args.pages.now in
    let t = pages_view c.loop.pages in
    let u = pages_view c.next_page.new.self in
    let read = subst (λ (o : Option DataPage). NextPage t u (Ok o)) c.in-Some.is c.in_ok-next_page.ensures in
    let es = entries_left c.in-Some.field-0 in
    (c.loop.invariant.0 ++ es, passes_then s t u c.loop.invariant.0 es c.loop.invariant.1 read.0)

pub returns-clause-stands : goal.returns-clause-stands
returns-clause-stands c =
    let s = pages_view c.args.pages.now in
    let t = pages_view c.loop.pages in
    let u = pages_view c.next_page.new.self in
    let read = subst (λ (o : Option DataPage). NextPage t u (Ok o)) c.in_default.is c.in_ok-next_page.ensures in
    (c.loop.invariant.0 ++ [], (passes_then s t u c.loop.invariant.0 [] c.loop.invariant.1 read.0, read.1))

pub loop-preserved-in-Some-5 : goal.loop-preserved-in-Some-5
loop-preserved-in-Some-5 c =
    let s = pages_view c.args.pages.now in
    let t = pages_view c.loop.pages in
    let u = pages_view c.next_page.new.self in
    let read = subst (λ (o : Option DataPage). NextPage t u (Ok o)) c.in-Some.is c.in_ok-next_page.ensures in
    let es = entries_left c.in-Some.field-0 in
    (c.loop.invariant.0 ++ es, passes_then s t u c.loop.invariant.0 es c.loop.invariant.1 read.0)
