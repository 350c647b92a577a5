use Rattle.std.proofs.Common.{◌≡◌, ◌++◌, List, map, ap, ◌∙◌, Vec, Global}
use Rattle.std.specs.Prelude.{filter}
use Rattle.std.specs.Rc.{rc_value}
use Rattle.manifest.specs.Groups.{handles_view}
use Rattle.snapshots.specs.State.{files_of}
use Rattle.snapshots.specs.declared.other.Other.{Other as CodeOther}
use Rattle.snapshots.specs.inner.Found.{came, has}
use Rattle.snapshots.specs.inner.Spells.{Other, others_view, others_in, is_free}
use Rattle.snapshots.proofs.Blocked.{lists_more}
use Rattle.snapshots.proofs.others.Others.unneeded.Goals as goal

pub loop-block-preserved : goal.loop-block-preserved
loop-block-preserved c =
    let test = λ (o : Other). is_free (came c.args.current.now) (has c.args.pinned.now) o.file in
    let block : c.as_slice.result.now ≡ (rc_value c.block-item.result).items = c.as_slice.ensures.value ∙ ap (λ (v : Vec CodeOther Global). v.items) c.deref-in-loop-block.ensures in
    lists_more c.as_slice-block-items.result.now c.loop-block.block-index c.block-item.result c.loop-block-test.true c.block-item.is test (λ (o : Other). o.file)
    (files_of (handles_view c.loop-block.out.items)) (files_of (handles_view c.push_unneeded.new.out.items)) (map (λ (o : Other). o.file) (filter test (others_in c.args.self.now)))
    (c.in_ok-push_unneeded.ensures.pushed ∙ ap (λ (os : List CodeOther). files_of (handles_view c.loop-block.out.items) ++ map (λ (o : Other). o.file) (filter test (others_view os))) block)
    c.loop-block.invariant
