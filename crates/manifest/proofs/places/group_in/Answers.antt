use Rattle.std.proofs.Common.{◌≡◌, ◌<◌, ◌-◌, List, length, get_or, Some, sym, ap, ◌∙◌, subst, arith}
use Rattle.std.specs.Rc.{rc_value}
use Rattle.std.specs.declared.rc.Rc.{Rc}
use Rattle.std.specs.declared.alloc.Global.{Global}
use Rattle.manifest.specs.declared.group.Group.{Group as CodeGroup}
use Rattle.manifest.specs.declared.block.Block.{Block}
use Rattle.manifest.specs.Handles.{group_view}
use Rattle.manifest.proofs.Blocks.{starts_length, found, first_start, group_there}
use Rattle.manifest.proofs.places.group_in.Goals as goal

pub block_at-at-requires-clause-some : goal.block_at-at-requires-clause-some
block_at-at-requires-clause-some c = (first_start c.args.blocks.now c.args.starts.now c.args.place c.requires.started c.requires.there).0

pub block_at-at-requires-clause-first : goal.block_at-at-requires-clause-first
block_at-at-requires-clause-first c = (first_start c.args.blocks.now c.args.starts.now c.args.place c.requires.started c.requires.there).1

pub bounds-blocks-at : goal.bounds-blocks-at
bounds-blocks-at c =
    let all = ap length c.requires.started ∙ starts_length 0 c.args.blocks.now in
    let there = c.block_at-at.ensures.there in
    omega (arith, all, there)

pub overflow_sub-place : goal.overflow_sub-place
overflow_sub-place c = (found c.args.blocks.now c.args.starts.now c.args.place c.block_at-at.result c.index-blocks-at.result c.requires.started c.requires.there c.block_at-at.ensures c.index-blocks-at.is).low

pub bounds-groups-place : goal.bounds-groups-place
bounds-groups-place c =
    let here = found c.args.blocks.now c.args.starts.now c.args.place c.block_at-at.result c.index-blocks-at.result c.requires.started c.requires.there c.block_at-at.ensures c.index-blocks-at.is in
    let groups : c.as_slice-groups.result.now ≡ (rc_value c.index-blocks-at.result).groups.items = c.as_slice-groups.ensures.value ∙ ap (λ (b : Block). b.groups.items) c.deref.ensures in
    subst (λ (gs : List (Rc CodeGroup Global)). c.args.place - get_or c.args.starts.now c.block_at-at.result 0 < length gs) (sym groups) here.within

pub offset_bounds-groups-place : goal.offset_bounds-groups-place
offset_bounds-groups-place c =
    let here = found c.args.blocks.now c.args.starts.now c.args.place c.block_at-at.result c.index-blocks-at.result c.requires.started c.requires.there c.block_at-at.ensures c.index-blocks-at.is in
    let groups : c.as_slice-groups.result.now ≡ (rc_value c.index-blocks-at.result).groups.items = c.as_slice-groups.ensures.value ∙ ap (λ (b : Block). b.groups.items) c.deref.ensures in
    let within = subst (λ (gs : List (Rc CodeGroup Global)). c.args.place - get_or c.args.starts.now c.block_at-at.result 0 < length gs) (sym groups) here.within in
    let fits = c.as_slice-groups.type_inv.1 in
    omega (arith, within, fits)

pub returns : goal.returns
returns c =
    let start = get_or c.args.starts.now c.block_at-at.result 0 in
    let here = found c.args.blocks.now c.args.starts.now c.args.place c.block_at-at.result c.index-blocks-at.result c.requires.started c.requires.there c.block_at-at.ensures c.index-blocks-at.is in
    let groups : c.as_slice-groups.result.now ≡ (rc_value c.index-blocks-at.result).groups.items = c.as_slice-groups.ensures.value ∙ ap (λ (b : Block). b.groups.items) c.deref.ensures in
    let is = subst (λ (gs : List (Rc CodeGroup Global)). c.index-groups-place.result ≡ get_or gs (c.args.place - start) c.index-groups-place.result) groups c.index-groups-place.is in
    here.same ∙ group_there (rc_value c.index-blocks-at.result).groups.items (c.args.place - start) c.index-groups-place.result here.within is ∙ ap (λ (g : CodeGroup). Some (group_view g)) (sym c.deref-2.ensures)
