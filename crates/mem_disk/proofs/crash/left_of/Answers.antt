use Rattle.std.proofs.Common.{◌++◌, ◌∷◌, [], ℕ, List, ap, sym, subst, ◌∙◌}
use Rattle.mem_disk.specs.declared.call.Call.{Call}
use Rattle.mem_disk.specs.declared.call.Call.TheVariants.{Begin}
use Rattle.mem_disk.specs.Picks.{PickInTurn, PicksBinding, PicksNode, after_name, after_node, words_left}
use Rattle.mem_disk.specs.Left.{EachOf, IsPicked, IsLeft, left_in}
use Rattle.mem_disk.specs.declared.name.Name.{Name}
use Rattle.mem_disk.specs.Laws.{now_leaves}
use Rattle.mem_disk.proofs.Leaving.{Begins, begins_kept, begins_leaves, begins_rests, begins_apart, begins_named, begins_holds}
use Rattle.mem_disk.proofs.crash.left_of.Goals as goal

pub invariant_of-result : goal.invariant_of-result
invariant_of-result c =
    let held = c.args.held.now in
    let picked = c.in_ok-picked-2.picked.list.items in
    let files = c.in_ok-nodes.nodes.items in
    let first = c.in_ok-left_names.field-0 in
    let second = c.in_ok-of.field-0.list in
    let copies = c.in_ok-copies_of.field-0 in
    let begins : Begins held.names.list.items held.nodes.items picked files first second copies c.push.new.self.items = record {
      pick = subst (λ (xs : List Name). EachOf IsPicked held.names.list.items xs) (sym c.in_ok-picked-2.ensures) (rw c.deref.ensures.value at c.in_ok-picked.ensures.may);
      torn = rw c.deref-2.ensures.value at c.in_ok-nodes.ensures.may;
      one = c.in_ok-left_names.ensures;
      two = subst (λ (xs : List Name). EachOf (IsLeft (left_in picked)) picked xs) (sym c.in_ok-of.ensures) c.in_ok-left_names-2.ensures;
      same = rw c.deref-3.ensures.value at c.in_ok-copies_of.ensures;
      begins = c.in_ok-push.ensures.items ∙ ap (λ (calls : List Call). calls ++ Begin first copies ∷ []) c.new-calls.ensures.items;
    } in
    record {
      kept = begins_kept held.names.list.items held.nodes.items picked files first second copies c.push.new.self.items begins held.calls.items held.kept;
      apart = begins_apart held.names.list.items held.nodes.items picked files first second copies c.push.new.self.items begins held.apart;
    }

pub returns : goal.returns
returns c =
    let held = c.args.held.now in
    let picked = c.in_ok-picked-2.picked.list.items in
    let files = c.in_ok-nodes.nodes.items in
    let first = c.in_ok-left_names.field-0 in
    let second = c.in_ok-of.field-0.list in
    let copies = c.in_ok-copies_of.field-0 in
    let begins : Begins held.names.list.items held.nodes.items picked files first second copies c.push.new.self.items = record {
      pick = subst (λ (xs : List Name). EachOf IsPicked held.names.list.items xs) (sym c.in_ok-picked-2.ensures) (rw c.deref.ensures.value at c.in_ok-picked.ensures.may);
      torn = rw c.deref-2.ensures.value at c.in_ok-nodes.ensures.may;
      one = c.in_ok-left_names.ensures;
      two = subst (λ (xs : List Name). EachOf (IsLeft (left_in picked)) picked xs) (sym c.in_ok-of.ensures) c.in_ok-left_names-2.ensures;
      same = rw c.deref-3.ensures.value at c.in_ok-copies_of.ensures;
      begins = c.in_ok-push.ensures.items ∙ ap (λ (calls : List Call). calls ++ Begin first copies ∷ []) c.new-calls.ensures.items;
    } in
    record {
      image = λ f r g s. now_leaves held.calls.items f r _ (begins_leaves held.names.list.items held.nodes.items picked files first second copies c.push.new.self.items begins held.calls.items held.kept);
      rest = begins_rests held.names.list.items held.nodes.items picked files first second copies c.push.new.self.items begins held.calls.items held.kept;
      words = record {
        picked = picked;
        files = files;
        bindings = subst (λ (xs : List Name). PickInTurn PicksBinding after_name held.names.list.items (words_left c.args.picks.now) xs) (sym c.in_ok-picked-2.ensures) (rw c.deref.ensures.value at c.in_ok-picked.ensures.words);
        contents = subst (λ (words : List ℕ). PickInTurn PicksNode after_node held.nodes.items words files) (rw c.deref.ensures.value at c.in_ok-picked.ensures.left) (rw c.deref-2.ensures.value at c.in_ok-nodes.ensures.words);
        named = begins_named held.names.list.items held.nodes.items picked files first second copies c.push.new.self.items begins;
        holds = begins_holds held.names.list.items held.nodes.items picked files first second copies c.push.new.self.items begins;
      };
    }
