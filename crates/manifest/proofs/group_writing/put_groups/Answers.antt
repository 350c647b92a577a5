use Rattle.std.proofs.Common.{◌≡◌, ◌+◌, ◌++◌, [], List, drop, map, refl, ap, sym, subst, ◌∙◌, arith, Err}
use Rattle.std.proofs.lemmas.List.{append-nil}
use Rattle.std.specs.List.{AllByRecursion}
use Rattle.std.specs.Rc.{rc_value}
use Rattle.std.specs.declared.rc.Rc.{Rc}
use Rattle.std.specs.declared.alloc.Global.{Global}
use Rattle.bits.specs.declared.refusal.Refusal.TheVariants.{Limit}
use Rattle.schema.specs.Keys.{key_columns_view}
use Rattle.partition.specs.Folders.{CanPartition}
use Rattle.manifest.specs.declared.group.Group.{Group as CodeGroup}
use Rattle.manifest.specs.declared.block.Block.{Block}
use Rattle.manifest.specs.Groups.{Group, groups_in, handles_view, groups_of_blocks}
use Rattle.manifest.specs.Laid.{group_record}
use Rattle.manifest.specs.inner.Writing.{IsSized}
use Rattle.manifest.proofs.Blocks.{from_block, all_in_block}
use Rattle.manifest.proofs.Copying.{drop_all}
use Rattle.manifest.proofs.GroupLists.{records_joined, same_refusal}
use Rattle.manifest.proofs.PutGroups.{puts_none, puts_then, puts_as}
use Rattle.manifest.proofs.group_writing.put_groups.Goals as goal

pub returns-in_err-put_block-clause-limit : goal.returns-in_err-put_block-clause-limit
returns-in_err-put_block-clause-limit c = λ is all.
    let keys = key_columns_view c.args.keys.now in
    let blocks = c.blocks-block-items.result.now in
    let groups : c.as_slice.result.now ≡ (rc_value c.block-item.result).groups.items = c.as_slice.ensures.value ∙ ap (λ (b : Block). b.groups.items) c.deref.ensures in
    let here = all_in_block (λ (g : Group). CanPartition keys g.key) blocks c.loop-block.block-index c.block-item.result c.loop-block-test.true c.block-item.is
    (subst (λ (gs : List Group). AllByRecursion (λ (g : Group). CanPartition keys g.key) gs) (sym c.blocks-block-items.ensures) all) in
    let same = same_refusal c.from_residual.result c.in_err-put_block.field-0.0 Limit c.from_residual.ensures.1 is in
    c.in_err-put_block.ensures.limit (ap Err same)
    (subst (λ (gs : List (Rc CodeGroup Global)). AllByRecursion (λ (g : Group). CanPartition keys g.key) (handles_view gs)) (sym groups) here)

pub loop-block-init : goal.loop-block-init
loop-block-init c = λ sized. ([], puts_none c.args.out.now.items, ap (λ (gs : List Group). map (group_record (key_columns_view c.args.keys.now)) gs) c.blocks-block-items.ensures)

pub loop-block-preserved : goal.loop-block-preserved
loop-block-preserved c = λ sized.
    let keys = key_columns_view c.args.keys.now in
    let blocks = c.blocks-block-items.result.now in
    let i = c.loop-block.block-index in
    let groups : c.as_slice.result.now ≡ (rc_value c.block-item.result).groups.items = c.as_slice.ensures.value ∙ ap (λ (b : Block). b.groups.items) c.deref.ensures in
    let here = all_in_block IsSized blocks i c.block-item.result c.loop-block-test.true c.block-item.is (subst (λ (gs : List Group). AllByRecursion IsSized gs) (sym c.blocks-block-items.ensures) sized) in
    let added = c.in_ok-put_block.ensures.written (subst (λ (gs : List (Rc CodeGroup Global)). AllByRecursion IsSized (handles_view gs)) (sym groups) here) in
    let split = from_block blocks i c.block-item.result c.loop-block-test.true c.block-item.is in
    let was = c.loop-block.invariant sized in
    let more = map (group_record keys) (handles_view c.as_slice.result.now) in (
      was.0 ++ more,
      puts_then was.0 more c.args.out.now.items c.loop-block.out.items c.put_block.new.out.items was.1 added,
      records_joined keys was.0 (was.0 ++ more) (handles_view c.as_slice.result.now) (groups_of_blocks (drop (i + 1) blocks)) (groups_of_blocks (drop i blocks)) refl
          (split ∙ ap (λ (gs : List (Rc CodeGroup Global)). handles_view gs ++ groups_of_blocks (drop (i + 1) blocks)) (sym groups))
          ∙ was.2,
    )

pub returns-clause-written : goal.returns-clause-written
returns-clause-written c = λ sized.
    let keys = key_columns_view c.args.keys.now in
    let blocks = c.blocks-block-items.result.now in
    let was = c.loop-block.invariant sized in
    let none = ap groups_of_blocks (drop_all c.loop-block.block-index blocks (omega arith)) in
    puts_as was.0 (map (group_record keys) (groups_in c.args.groups.now)) c.args.out.now.items c.loop-block.out.items
    (sym (append-nil was.0) ∙ ap (λ (gs : List Group). was.0 ++ map (group_record keys) gs) (sym none) ∙ was.2) was.1
