use Rattle.std.proofs.Common.{◌≡◌, ◌+◌, drop, Ok, Err, ap}
use Rattle.bits.specs.Refusals.{HasCause}
use Rattle.bits.proofs.Passing.{passes}
use Rattle.serde_json.specs.View.{view, members_view}
use Rattle.schema.specs.Keys.{field_at}
use Rattle.schema.specs.Values.{view as value_view}
use Rattle.schema.specs.Views.{field_views}
use Rattle.jsonrows.specs.Answers.{put_column_as}
use Rattle.jsonrows.proofs.Columns.{no_field_there, put_refused, put_done}
use Rattle.jsonrows.proofs.batch_json.put_column.Goals as goal

pub returns-in_default-clause-which : goal.returns-in_default-clause-which
returns-in_default-clause-which c = ap (λ o. put_column_as c.args.texts o (value_view c.args.value.now) (Ok (members_view c.args.members.now.entries))) (no_field_there c.args.fields.now c.args.place c.in_default.ensures.none)

pub returns-in_err-shown-clause-which : goal.returns-in_err-shown-clause-which
returns-in_err-shown-clause-which c =
    let e = c.in_err-shown.field-0.0 in
    passes (HasCause (λ x. put_column_as c.args.texts (field_at c.args.place (field_views c.args.fields.now)) (value_view c.args.value.now) (Ok (members_view c.args.members.now.entries)) ≡ Err x)) c.from_residual.result e c.from_residual.ensures.1
    (put_refused c.args.texts c.args.fields.now (drop (c.args.place + 1) c.args.fields.now) c.args.place c.in-Some.field.now c.args.value.now (members_view c.args.members.now.entries) e c.in-Some.ensures.some c.in_err-shown.ensures.which)

pub returns-clause-put : goal.returns-clause-put
returns-clause-put c =
    put_done c.args.texts c.put_member.result c.args.fields.now (drop (c.args.place + 1) c.args.fields.now) c.args.place c.in-Some.field.now c.args.value.now (members_view c.args.members.now.entries) (members_view c.put_member.new.members.entries) c.name.result.now
    (view c.in_ok-shown.shown) c.in-Some.ensures.some c.in_ok-shown.ensures.shown c.name.ensures c.put_member.ensures.put
