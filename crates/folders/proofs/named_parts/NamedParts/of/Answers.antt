use Rattle.std.proofs.Common.{◌≡◌, ◌<◌, ◌^◌, ◌∙◌, List, sym, ap, subst, arith}
use Rattle.std.specs.List.{AllByRecursion}
use Rattle.std.specs.Option.{option_or}
use Rattle.std.specs.Rc.{rc_value}
use Rattle.std.specs.declared.rc.Rc.{Rc}
use Rattle.std.specs.declared.alloc.Global.{Global}
use Rattle.schema.specs.Keys.{KeyColumn, AreDistinct, key_columns_view}
use Rattle.manifest.specs.declared.group.Group.{Group as CodeGroup}
use Rattle.manifest.specs.declared.block.Block.{Block}
use Rattle.manifest.specs.Groups.{Group, root_of, handles_view, numbers_of}
use Rattle.folders.specs.Named.{folder_in}
use Rattle.folders.specs.inner.Names.{folder_for, IsFolderOf}
use Rattle.folders.proofs.Named.{block_more, blocks_end, all_named}
use Rattle.folders.proofs.named_parts.NamedParts.of.Goals as goal

pub loop-block-preserved : goal.loop-block-preserved
loop-block-preserved c =
    let keys = (root_of c.args.manifest.now).keys in
    let columns = key_columns_view c.keys.result.now in
    let are : columns ≡ keys = c.keys.ensures.are in
    let old = c.loop-block.named in
    let new = c.add_groups.new.self in
    let block = c.block-item.result in
    let groups = c.as_slice.result.now in
    let items : groups ≡ (rc_value block).groups.items = c.as_slice.ensures.value ∙ ap (λ (b : Block). b.groups.items) c.deref.ensures in
    record {
      last = subst (λ (ks : List KeyColumn). IsFolderOf ks c.add_groups.new.last) are c.in_ok-add_groups.ensures.last;
      adds = λ n.
          block_more keys n c.blocks-block-items.result.now c.loop-block.block-index block c.loop-block-test.true c.block-item.is old new
          (c.in_ok-add_groups.ensures.adds n
          ∙ ap (λ (ks : List KeyColumn). option_or (folder_for ks (handles_view groups) n) (folder_in old n)) are
          ∙ ap (λ (gs : List (Rc CodeGroup Global)). option_or (folder_for keys (handles_view gs) n) (folder_in old n)) items)
          ∙ c.loop-block.invariant.adds n;
    }

pub returns-clause-named : goal.returns-clause-named
returns-clause-named c =
    let root = root_of c.args.manifest.now in
    let are = c.groups.ensures.are in
    let fits : c.next-next.result < 2 ^ 64 = c.next-next.type_inv in
    let small : root.next < 2 ^ 64 = omega (arith, c.next-next.ensures, fits) in
    all_named root c.loop-block.named
    (λ n. sym (blocks_end root.keys n c.blocks-block-items.result.now c.loop-block.block-index c.loop-block-test.false c.loop-block.named) ∙ c.loop-block.invariant.adds n)
    (subst (λ (gs : List Group). AreDistinct (numbers_of gs)) are c.groups.ensures.distinct)
    (subst (AllByRecursion (λ (g : Group). g.number < root.next)) are c.groups.ensures.below) small
