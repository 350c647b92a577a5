use Rattle.std.proofs.Common.{◌≡◌, ◌∷◌, ◌+◌, ◌-◌, Err, get_or, drop, sym, ap, ◌∙◌, arith}
use Rattle.std.proofs.lemmas.List.{drop_more}
use Rattle.bits.specs.Refusals.{HasCause}
use Rattle.bits.proofs.Passing.{passes}
use Rattle.serde_json.specs.View.{members_view}
use Rattle.schema.specs.Values.{views}
use Rattle.schema.specs.Views.{field_views}
use Rattle.jsonrows.specs.Answers.{columns_json_as}
use Rattle.jsonrows.proofs.Columns.{columns-lengths, column_fault}
use Rattle.jsonrows.proofs.batch_json.columns_json.Goals as goal

pub returns-then-places-values-clause-which : goal.returns-then-places-values-clause-which
returns-then-places-values-clause-which c = columns-lengths c.args.texts (field_views c.args.fields.now) c.args.places.now c.args.values.now c.if-places-values.true

pub returns-in_err-put_column-clause-which : goal.returns-in_err-put_column-clause-which
returns-in_err-put_column-clause-which c =
    let l = c.loop-i in
    let fs = field_views c.args.fields.now in
    let ps = c.args.places.now in
    let vs = c.args.values.now in
    let v = c.index-values-i.result in
    let i = l.i - 1 in
    let e = c.in_err-put_column.field-0.0 in
    let at : drop i ps ≡ get_or ps i 0 ∷ drop (i + 1) ps = drop_more ps i 0 (omega arith) in
    let there : drop i vs ≡ v ∷ drop (i + 1) vs = drop_more vs i v (omega arith) ∙ ap (λ y. y ∷ drop (i + 1) vs) (sym c.index-values-i.is) in
    let next : i + 1 ≡ l.i = omega arith in
    let later = ap (λ n. columns_json_as c.args.texts fs (drop n ps) (views (drop n vs))) next ∙ l.invariant in
    passes (HasCause (λ x. columns_json_as c.args.texts fs ps (views vs) ≡ Err x)) c.from_residual.result e c.from_residual.ensures.1
    (column_fault c.args.texts fs ps (drop (i + 1) ps) vs (drop (i + 1) vs) i (get_or ps i 0) v (members_view l.members.entries) e at there later c.in_err-put_column.ensures.which)
