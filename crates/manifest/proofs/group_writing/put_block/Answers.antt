use Rattle.std.proofs.Common.{◌≡◌, ◌∙◌, ◌++◌, ◌+◌, ◌∷◌, [], List, map, take, ap, sym, subst, arith, Err}
use Rattle.std.proofs.lemmas.List.{take_all, map_push}
use Rattle.std.specs.Rc.{rc_value}
use Rattle.std.specs.declared.rc.Rc.{Rc}
use Rattle.std.specs.declared.alloc.Global.{Global}
use Rattle.lists.proofs.Slices.{take_next}
use Rattle.bits.specs.declared.refusal.Refusal.TheVariants.{Limit}
use Rattle.schema.specs.Keys.{key_columns_view}
use Rattle.partition.specs.Folders.{CanPartition}
use Rattle.manifest.specs.declared.group.Group.{Group as CodeGroup}
use Rattle.manifest.specs.Groups.{Group, group_view, handles_view}
use Rattle.manifest.specs.Laid.{group_record}
use Rattle.manifest.specs.inner.Writing.{IsSized, PutsGroups}
use Rattle.manifest.proofs.GroupLists.{each_here, same_refusal}
use Rattle.manifest.proofs.PutGroups.{puts_none, puts_then, puts_as}
use Rattle.manifest.proofs.group_writing.put_block.Goals as goal

pub returns-in_err-put_group-clause-limit : goal.returns-in_err-put_group-clause-limit
returns-in_err-put_group-clause-limit c = λ is all.
    let keys = key_columns_view c.args.keys.now in
    let here = each_here (λ (g : Group). CanPartition keys g.key) c.args.groups.now c.loop-group.group-index c.group-item.result (omega arith) c.group-item.is all in
    let same = same_refusal c.from_residual.result c.in_err-put_group.field-0.0 Limit c.from_residual.ensures.1 is in
    c.in_err-put_group.ensures.limit (ap Err same) (subst (λ (g : CodeGroup). CanPartition keys (group_view g).key) (sym c.deref.ensures) here)

pub loop-group-init : goal.loop-group-init
loop-group-init c = λ sized. puts_none c.args.out.now.items

pub loop-group-preserved : goal.loop-group-preserved
loop-group-preserved c = λ sized.
    let keys = key_columns_view c.args.keys.now in
    let xs = c.args.groups.now in
    let i = c.loop-group.group-index in
    let x = c.group-item.result in
    let g = group_view (rc_value x) in
    let old = c.args.out.now.items in
    let mid = c.loop-group.out.items in
    let new = c.put_group.new.out.items in
    let seen = handles_view (take i xs) in
    let here = each_here IsSized xs i x (omega arith) c.group-item.is sized in
    let next : map (group_record keys) (handles_view (take (i + 1) xs)) ≡ map (group_record keys) seen ++ group_record keys g ∷ []
    = ap (λ (ys : List (Rc CodeGroup Global)). map (group_record keys) (handles_view ys)) (take_next xs i x (omega arith) c.group-item.is)
    ∙ ap (λ (gs : List Group). map (group_record keys) gs) (map_push (λ (y : Rc CodeGroup Global). group_view (rc_value y)) (take i xs) x) ∙ map_push (group_record keys) seen g in
    let one : PutsGroups (group_record keys g ∷ []) mid new
    = subst (λ (h : CodeGroup). IsSized (group_view h) → PutsGroups (group_record keys (group_view h) ∷ []) mid new) c.deref.ensures c.in_ok-put_group.ensures.written here in
    puts_as (map (group_record keys) seen ++ group_record keys g ∷ []) (map (group_record keys) (handles_view (take (i + 1) xs))) old new (sym next)
    (puts_then (map (group_record keys) seen) (group_record keys g ∷ []) old mid new (c.loop-group.invariant sized) one)

pub returns-clause-written : goal.returns-clause-written
returns-clause-written c = λ sized.
    let keys = key_columns_view c.args.keys.now in
    let xs = c.args.groups.now in
    let i = c.loop-group.group-index in
    puts_as (map (group_record keys) (handles_view (take i xs))) (map (group_record keys) (handles_view xs)) c.args.out.now.items c.loop-group.out.items
    (ap (λ (ys : List (Rc CodeGroup Global)). map (group_record keys) (handles_view ys)) (take_all i xs (omega arith))) (c.loop-group.invariant sized)
