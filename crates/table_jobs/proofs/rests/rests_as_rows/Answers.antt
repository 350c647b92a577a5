use Rattle.std.proofs.Common.{◌≡◌, ◌++◌, ◌∷◌, [], List, map, length, ap, sym, ◌∙◌, subst, arith, append_assoc}
use Rattle.std.proofs.lemmas.List.{nil_from_length, append-nil, map_push}
use Rattle.std.specs.Vec.Iter.{into_iter_items}
use Rattle.bits.specs.Refusals.{HasCause}
use Rattle.bits.proofs.Passing.{passes}
use Rattle.schema.specs.Views.{key_view, rows_view}
use Rattle.partition.specs.Splitting.{KeyRows, key_rows_view}
use Rattle.gather.specs.declared.key_buffer.KeyBuffer.{KeyBuffer}
use Rattle.gather.specs.KeyBuffers.{Hold}
use Rattle.partition.specs.declared.splitting.KeyRows.{KeyRows as CodeKeyRows}
use Rattle.table_commits.proofs.GatheredGroupsWritten.{held_next, none_held}
use Rattle.table_jobs.proofs.rests.rests_as_rows.Goals as goal

pub loop-rest-init : goal.loop-rest-init
loop-rest-init c =
    let given = c.into_iter-rest-iterator.ensures.into_iter_gives in
    record {
      many = given.1 ∙ (c.args.rests.ok.0 ∙ ap length (sym given.0));
      made = λ fs left held. (
        left,
        ap (λ (xs : List CodeKeyRows). map key_rows_view xs ++ left) (sym c.in_ok-waiting.ensures.items),
        subst (λ (bs : List KeyBuffer). Hold fs bs left) (sym given.0) held,
      );
    }

pub loop-rest-preserved : goal.loop-rest-preserved
loop-rest-preserved c =
    let so_far = c.loop-rest.invariant in
    let x = c.in-Some.rest in
    record {
      many = let gone = c.in-Some.ensures.steps.1 in let short = ap length c.in-Some.ensures.steps.0 in let was = so_far.many in omega (arith, gone, short, was);
      made = λ fs left held.
          let now = so_far.made fs left held in
          let next = held_next fs x (into_iter_items c.next.new.self) now.0 (subst (λ (bs : List KeyBuffer). Hold fs bs now.0) c.in-Some.ensures.steps.0 now.2) in
          let rows : rows_view c.in_ok-rows.rows.items ≡ next.group.rows = c.in_ok-rows.ensures.are next.group.rows next.here.rows.held in
          let key : key_view x.key ≡ next.group.key = next.here.key in
          let one : KeyRows = record { key = key_view x.key; rows = rows_view c.in_ok-rows.rows.items } in
          let same : next.group ≡ one = λ i. record { key = sym key i; rows = sym rows i } in
          let all = ap (map key_rows_view) c.in_ok-push.ensures.items ∙ map_push key_rows_view c.loop-rest.waiting.items _ in (
            next.later,
            now.1 ∙ ap (λ (gs : List KeyRows). map key_rows_view c.loop-rest.waiting.items ++ gs) (next.is ∙ ap (λ (g : KeyRows). g ∷ next.later) same)
                ∙ sym (append_assoc (map key_rows_view c.loop-rest.waiting.items) (one ∷ []) next.later) ∙ ap (λ (gs : List KeyRows). gs ++ next.later) (sym all),
            next.others,
          );
    }

pub returns-clause-are : goal.returns-clause-are
returns-clause-are c = λ fs left held.
    let so_far = c.loop-rest.invariant in
    let now = so_far.made fs left held in
    let empty : into_iter_items c.loop-rest.rest-iterator ≡ [] = nil_from_length (into_iter_items c.loop-rest.rest-iterator) (sym so_far.many ∙ c.in-None.ensures.steps.0) in
    let none = none_held fs now.0 (subst (λ (bs : List KeyBuffer). Hold fs bs now.0) empty now.2) in
    sym (now.1 ∙ ap (λ (gs : List KeyRows). map key_rows_view c.loop-rest.waiting.items ++ gs) none ∙ append-nil (map key_rows_view c.loop-rest.waiting.items))

pub returns-in_err-rows-clause-only : goal.returns-in_err-rows-clause-only
returns-in_err-rows-clause-only c = λ fs left held.
    let x = c.in-Some.rest in
    let now = c.loop-rest.invariant.made fs left held in
    let next = held_next fs x (into_iter_items c.next.new.self) now.0 (subst (λ (bs : List KeyBuffer). Hold fs bs now.0) c.in-Some.ensures.steps.0 now.2) in
    passes (HasCause (λ _. ⊥)) c.from_residual-in_err-rows.result c.in_err-rows.field-0.0 c.from_residual-in_err-rows.ensures.1
    (c.in_err-rows.ensures.only next.group.rows next.here.rows.held)
