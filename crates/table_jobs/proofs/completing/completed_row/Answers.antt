use Rattle.std.proofs.Common.{◌≡◌, ◌+◌, ℕ, List, [], ◌∷◌, ◌++◌, map, length, sym, ◌∙◌, ap, arith}
use Rattle.std.proofs.lemmas.List.{length-map, length-append, map-append}
use Rattle.schema.specs.declared.value.Value.{Value, Null as code_null}
use Rattle.schema.specs.Values.{ValueTree, null, view, trees_of}
use Rattle.schema.specs.Shape.{count}
use Rattle.schema.specs.Fronts.{padded}
use Rattle.schema.proofs.Few.{count-views}
use Rattle.schema.proofs.OneLevel.{view_null}
use Rattle.table_jobs.proofs.CompletedRows.{padded_whole, padded_more}
use Rattle.table_jobs.proofs.completing.completed_row.Goals as goal

pub loop-preserved : goal.loop-preserved
loop-preserved c =
    let items = c.loop.values.items in
    let pushed : c.push.new.self.items ≡ items ++ code_null ∷ [] = c.in_ok-push.ensures.items in
    let seen : map view c.push.new.self.items ≡ map view items ++ null ∷ []
    = ap (map view) pushed ∙ map-append view items (code_null ∷ []) ∙ ap (λ (v : ValueTree). map view items ++ v ∷ []) view_null in
    let fields : count c.args.stored.now ≡ length c.fields-end.result.now = ap count (sym c.fields-end.ensures) ∙ count-views c.fields-end.result.now in
    let long = c.loop.invariant.long in
    let mapped = length-map items view in
    record {
      same = ap (λ (vs : List ValueTree). padded c.args.stored.now (trees_of vs)) seen ∙ padded_more c.args.stored.now (map view items) (omega (arith, fields, long, mapped, c.loop-test.true)) ∙ c.loop.invariant.same;
      long = ap (λ (xs : List Value). length xs) pushed ∙ length-append items (code_null ∷ []) ∙ ap (λ (n : ℕ). n + 1) long;
    }

pub returns-clause-completes : goal.returns-clause-completes
returns-clause-completes c =
    let items = c.loop.values.items in
    let fields : count c.args.stored.now ≡ length c.fields-end.result.now = ap count (sym c.fields-end.ensures) ∙ count-views c.fields-end.result.now in
    let long = c.loop.invariant.long in
    let mapped = length-map items view in
    sym (padded_whole c.args.stored.now (map view items) (omega (arith, fields, long, mapped, c.loop-test.false))) ∙ c.loop.invariant.same
