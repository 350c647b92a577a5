use Rattle.std.proofs.Common.{◌+◌, ◌∷◌, [], drop, ap, sym, ◌∙◌, arith}
use Rattle.std.proofs.lemmas.Result.{on_ok_weaker}
use Rattle.schema.specs.Values.{ValueTree, ValueTrees, view, views}
use Rattle.schema.proofs.OneLevel.{view_group, view_list}
use Rattle.assemble.specs.Sinks.{group_begins, group_ends, list_begins, list_ends, tokens, tokens_each}
use Rattle.shred.specs.inner.Filling.{State, state_of, step, run}
use Rattle.shred.proofs.Turns.{value_place}
use Rattle.shred.proofs.ShownSteps.{run_append}
use Rattle.shred.proofs.filling.Filling.+show.Goals as goal

pub show-returns-in_ok-show_each-in-Group-clause-shown : goal.show-returns-in_ok-show_each-in-Group-clause-shown
show-returns-in_ok-show_each-in-Group-clause-shown t c =
    let s = state_of c.args.self.now in
    let vs = views c.in-Group.values.items in
    c.end_group.ensures.shown
    ∙ ap (λ (x : State). step x group_ends) (c.in_ok-show_each-in-Group.ensures.shown
    ∙ ap (λ xs. run (state_of c.begin_group.new.self) (tokens_each (views xs))) c.as_slice.ensures.value
    ∙ ap (λ (x : State). run x (tokens_each vs)) c.in_ok-begin_group-in-Group.ensures.shown)
    ∙ sym (run_append (step s group_begins) (tokens_each vs) (group_ends ∷ []))
    ∙ ap (λ (v : ValueTree). run s (tokens v)) (sym (ap view c.in-Group.is ∙ view_group c.in-Group.values))

pub show-returns-in_ok-show_each-in-List-clause-shown : goal.show-returns-in_ok-show_each-in-List-clause-shown
show-returns-in_ok-show_each-in-List-clause-shown t c =
    let s = state_of c.args.self.now in
    let vs = views c.in-List.values.items in
    on_ok_weaker c.end_list.result
    (λ is. is
    ∙ ap (λ (x : State). step x list_ends) (c.in_ok-show_each-in-List.ensures.shown
    ∙ ap (λ xs. run (state_of c.begin_list.new.self) (tokens_each (views xs))) c.as_slice-in-List.ensures.value
    ∙ ap (λ (x : State). run x (tokens_each vs)) c.in_ok-begin_list-in-List.ensures.shown)
    ∙ sym (run_append (step s list_begins) (tokens_each vs) (list_ends ∷ []))
    ∙ ap (λ (v : ValueTree). run s (tokens v)) (sym (ap view c.in-List.is ∙ view_list c.in-List.values)))
    c.end_list.ensures.shown

pub show_each-loop-value-preserved : goal.show_each-loop-value-preserved
show_each-loop-value-preserved t c =
    let vs = c.args.values.now in
    let i = c.loop-value.value-index in
    let v = c.value-item.result in
    let s = state_of c.loop-value.self in
    let rest = tokens_each (views (drop (i + 1) vs)) in
    record {
      shown = ap (λ (x : State). run x rest) c.in_ok-show.ensures.shown ∙ sym (run_append s (tokens (view v)) rest)
          ∙ ap (λ (ws : ValueTrees). run s (tokens_each ws)) (sym (value_place vs i v (omega arith) c.value-item.is)) ∙ c.loop-value.invariant.shown;
      marked = c.in_ok-show.ensures.marked ∙ c.loop-value.invariant.marked;
    }
