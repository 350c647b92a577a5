use Rattle.std.proofs.Common.{◌+◌, ℕ, List, [], ◌++◌, drop, Result, Err, sym, ◌∙◌, ap, subst}
use Rattle.bits.specs.declared.refusal.Refusal.{Refusal}
use Rattle.bits.specs.Refusals.{RefusedOnly}
use Rattle.vault.proofs.Chained.{refused}
use Rattle.filter.specs.Test.{tests_in}
use Rattle.std.specs.declared.rc.Rc.{Rc}
use Rattle.std.specs.declared.alloc.Global.{Global}
use Rattle.lists.proofs.Slices.{drop_past as drop_all}
use Rattle.manifest.specs.declared.block.Block.{Block}
use Rattle.manifest.specs.declared.group.Group.{Group as CodeGroup}
use Rattle.manifest.specs.Groups.{Group as FileGroup, handles_view, groups_of_blocks, root_of}
use Rattle.table_reads.specs.Counting.{AreHeld, AreSpared}
use Rattle.table_reads.proofs.CountingGroups.{split_so, tally_on, tally_done, spared_done, blocks_from}
use Rattle.scan.specs.Faults.{IsDevice}
use Rattle.table_reads.specs.Reading.{OnlyReads}
use Rattle.table_reads.proofs.ReadsOfPassedGroups.{reading_ends, reading_on, reading_poor}
use Rattle.table_commits.proofs.GroupRemovals.{memory_so}
use Rattle.table_reads.proofs.counting.count_rows.Goals as goal

pub returns-in_err-here-clause-only : goal.returns-in_err-here-clause-only
returns-in_err-here-clause-only g c honest held h =
    let old = g.D.Disk.state c.args.vault.now.disk in
    let mid = g.D.Disk.state c.loop-block.vault.disk in
    let tests = tests_in c.args.filter.now in
    let root = root_of c.args.table.now in
    let so_far = c.loop-block.invariant in
    let i = c.loop-block.block-index in
    let h_blocks = subst (λ (fs : List FileGroup). AreHeld old tests root fs held) (sym (c.blocks-block-items.ensures ∙ c.groups.ensures.are)) h in
    let are = blocks_from c.blocks-block-items.result.now i c.block-item.result c.loop-block-test.true c.block-item.is
    ∙ ap (λ (xs : List (Rc CodeGroup Global)). handles_view xs ++ groups_of_blocks (drop (i + 1) c.blocks-block-items.result.now)) (sym (c.as_slice.ensures.value ∙ ap (λ (b : Block). b.groups.items) c.deref.ensures)) in
    let split = split_so tests root old (groups_of_blocks c.blocks-block-items.result.now) mid _ c.loop-block.found so_far (handles_view c.as_slice.result.now) _ are honest held h_blocks in
    refused (λ (r : Result ℕ Refusal). RefusedOnly IsDevice r) c.from_residual.result c.in_err-here.field-0.0 c.from_residual.ensures.1
    (c.in_err-here.ensures.only (so_far.read.honest.0 honest) split.0 split.2)

pub returns-in_err-here-clause-effect : goal.returns-in_err-here-clause-effect
returns-in_err-here-clause-effect g c =
    let old = g.D.Disk.state c.args.vault.now.disk in
    let mid = g.D.Disk.state c.loop-block.vault.disk in
    let new = g.D.Disk.state c.count_in.new.vault.disk in
    refused (λ (r : Result ℕ Refusal). OnlyReads old new r) c.from_residual.result c.in_err-here.field-0.0 c.from_residual.ensures.1
    (reading_ends old mid new c.in_err-here.field-0.0 c.loop-block.invariant.read c.in_err-here.ensures.effect)

pub returns-in_err-found-clause-effect : goal.returns-in_err-found-clause-effect
returns-in_err-found-clause-effect g c =
    let old = g.D.Disk.state c.args.vault.now.disk in
    let mid = g.D.Disk.state c.loop-block.vault.disk in
    let new = g.D.Disk.state c.count_in.new.vault.disk in
    refused (λ (r : Result ℕ Refusal). OnlyReads old new r) c.from_residual-in_err-found.result c.in_err-found.field-0.0 c.from_residual-in_err-found.ensures.1
    (memory_so c.in_err-found.field-0.0 c.in_err-found.ensures.which (λ (e : Refusal). OnlyReads {T = ℕ} old new (Err e)) (reading_poor ℕ old new (reading_on old mid new c.in_ok-here.here c.loop-block.invariant.read c.in_ok-here.ensures.effect)))

pub loop-block-preserved : goal.loop-block-preserved
loop-block-preserved g c =
    let old = g.D.Disk.state c.args.vault.now.disk in
    let mid = g.D.Disk.state c.loop-block.vault.disk in
    let new = g.D.Disk.state c.count_in.new.vault.disk in
    let tests = tests_in c.args.filter.now in
    let root = root_of c.args.table.now in
    let so_far = c.loop-block.invariant in
    let i = c.loop-block.block-index in
    let are = blocks_from c.blocks-block-items.result.now i c.block-item.result c.loop-block-test.true c.block-item.is
    ∙ ap (λ (xs : List (Rc CodeGroup Global)). handles_view xs ++ groups_of_blocks (drop (i + 1) c.blocks-block-items.result.now)) (sym (c.as_slice.ensures.value ∙ ap (λ (b : Block). b.groups.items) c.deref.ensures)) in
    tally_on tests root old (groups_of_blocks c.blocks-block-items.result.now) mid _ c.loop-block.found so_far (handles_view c.as_slice.result.now) _ are new c.in_ok-here.here c.in_ok-found.found c.in_ok-here.here c.in_ok-here.ensures.effect
    (λ fine gs k. c.in_ok-here.ensures.stands fine gs k)
    (λ fine can. c.in_ok-here.ensures.absent fine can)
    c.in_ok-found.ensures.summed

pub returns-clause-stands : goal.returns-clause-stands
returns-clause-stands g c honest held h =
    let old = g.D.Disk.state c.args.vault.now.disk in
    let mid = g.D.Disk.state c.loop-block.vault.disk in
    let tests = tests_in c.args.filter.now in
    let root = root_of c.args.table.now in
    let so_far = c.loop-block.invariant in
    let i = c.loop-block.block-index in
    tally_done tests root old (groups_of_blocks c.blocks-block-items.result.now) mid _ c.loop-block.found so_far (ap groups_of_blocks (drop_all c.blocks-block-items.result.now i c.loop-block-test.false)) honest held (subst (λ (fs : List FileGroup). AreHeld old tests root fs held) (sym (c.blocks-block-items.ensures ∙ c.groups.ensures.are)) h)

pub returns-clause-absent : goal.returns-clause-absent
returns-clause-absent g c honest can =
    let old = g.D.Disk.state c.args.vault.now.disk in
    let mid = g.D.Disk.state c.loop-block.vault.disk in
    let tests = tests_in c.args.filter.now in
    let root = root_of c.args.table.now in
    let none = ap groups_of_blocks (drop_all c.blocks-block-items.result.now c.loop-block.block-index c.loop-block-test.false) in
    subst (AreSpared old tests root []) (c.blocks-block-items.ensures ∙ c.groups.ensures.are)
    (spared_done tests root old (groups_of_blocks c.blocks-block-items.result.now) mid _ c.loop-block.found c.loop-block.invariant none honest can)
