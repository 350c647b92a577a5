use Rattle.std.proofs.Common.{◌≡◌, ap, ◌∙◌, sym, subst, ◌++◌, ◌∷◌, [], List, map, arith}
use Rattle.std.proofs.lemmas.List.{map_push}
use Rattle.schema.specs.Values.{ValueTree, view}
use Rattle.schema.specs.Keys.{KeyColumn, key_column_view}
use Rattle.partition.specs.inner.Reading.{ReadsOn}
use Rattle.partition.proofs.ReadingBack.{next_folder, all_read, columns_from, columns_end}
use Rattle.partition.proofs.paths.read_folders.Goals as goal

pub returns-in-None-clause-stands : goal.returns-in-None-clause-stands
returns-in-None-clause-stands c = λ key keyed e.
    let on = subst (λ (cs : List KeyColumn). ReadsOn cs key (map view c.loop-column.values.items) c.loop-column.rest.now) (columns_from c.args.columns.now c.loop-column.column-index c.column-item.result (omega arith) c.column-item.is) (c.loop-column.invariant key keyed e) in
    let next = next_folder (key_column_view c.column-item.result) _ key _ _ _ _ c.cut_before.ensures on in
    (rw c.in-None.is at c.in_ok-value.ensures.stands) _ next.value next.is_value next.is_folder

pub loop-column-preserved : goal.loop-column-preserved
loop-column-preserved c = λ key keyed e.
    let on = subst (λ (cs : List KeyColumn). ReadsOn cs key (map view c.loop-column.values.items) c.loop-column.rest.now) (columns_from c.args.columns.now c.loop-column.column-index c.column-item.result (omega arith) c.column-item.is) (c.loop-column.invariant key keyed e) in
    let next = next_folder (key_column_view c.column-item.result) _ key _ _ _ _ c.cut_before.ensures on in
    let seen : view c.in-Some.value ≡ next.value = (rw c.in-Some.is at c.in_ok-value.ensures.stands) _ next.value next.is_value next.is_folder in
    let items : map view c.push.new.self.items ≡ map view c.loop-column.values.items ++ next.value ∷ []
    = ap (map view) c.in_ok-push-in-Some.ensures.items ∙ map_push view c.loop-column.values.items c.in-Some.value ∙ ap (λ (w : ValueTree). map view c.loop-column.values.items ++ w ∷ []) seen in
    rw (items, c.after_first-rest.ensures) next.goes_on

pub returns-clause-stands : goal.returns-clause-stands
returns-clause-stands c = λ key keyed e.
    sym (all_read key (map view c.loop-column.values.items) c.loop-column.rest.now (subst (λ (cs : List KeyColumn). ReadsOn cs key (map view c.loop-column.values.items) c.loop-column.rest.now) (columns_end c.args.columns.now c.loop-column.column-index c.loop-column-test.false) (c.loop-column.invariant key keyed e)))
