use Rattle.std.proofs.Common.{◌≡◌, ℕ, true, List, Option, Some, None, Vec, Global, IsTrue, IfOk, map, string_bytes, sym, ap, subst, ◌∙◌}
use Rattle.std.specs.List.{list_all}
use Rattle.schema.specs.Shape.{Fields}
use Rattle.columns.specs.Columns.{Columns, names_view, wanted_fields, wanted_places, is_field}
use Rattle.program.specs.inner.Copied.{IsFirstOfRows, IsAskedFile}
use Rattle.program.proofs.Copied.{all_asked, some_asked}
use Rattle.program.proofs.copy.asked.Goals as goal

pub returns-in-None-clause-stands : goal.returns-in-None-clause-stands
returns-in-None-clause-stands g c = λ all are.
    let options = c.args.options.now in
    let limit = c.args.limit in
    let fs = c.args.file.now.schema in
    let first = subst (λ (f : Fields). IfOk c.written.result (λ (copy : Vec ℕ Global). IsFirstOfRows options f None limit all copy.items)) c.schema.ensures (c.written.ensures.stands all are) in
    subst (λ (columns : Columns). IfOk c.written.result (λ (copy : Vec ℕ Global). IsAskedFile options columns limit fs all copy.items)) (sym (ap names_view c.in-None.is)) (all_asked options limit fs all c.written.result first)

pub returns-in_ok-schema-in-Some-clause-stands : goal.returns-in_ok-schema-in-Some-clause-stands
returns-in_ok-schema-in-Some-clause-stands g c = λ all are.
    let options = c.args.options.now in
    let limit = c.args.limit in
    let fs = c.args.file.now.schema in
    let names = map string_bytes c.in-Some.names.now in
    let view : names_view c.args.columns ≡ Some names = ap names_view c.in-Some.is in
    let there : IsTrue (list_all (is_field fs) names) = subst (λ (f : Fields). list_all (is_field f) names ≡ true) c.schema-in-Some.ensures (sym c.has_columns.ensures ∙ c.if-not-has_columns.false) in
    let of_fields : c.in_ok-schema-in-Some.schema ≡ wanted_fields (Some names) fs =
    c.in_ok-schema-in-Some.ensures.wanted ∙ (ap (λ (columns : Columns). wanted_fields columns c.schema-in-Some-3.result.now) view ∙ ap (wanted_fields (Some names)) c.schema-in-Some-3.ensures) in
    let of_places : c.as_slice.result.now ≡ wanted_places (Some names) 0 fs =
    c.as_slice.ensures.value ∙ (c.in_ok-places-in-Some.ensures.made ∙ (ap (λ (columns : Columns). wanted_places columns 0 c.schema-in-Some-2.result.now) view ∙ ap (wanted_places (Some names) 0) c.schema-in-Some-2.ensures)) in
    let asked = some_asked options names limit fs c.in_ok-schema-in-Some.schema c.as_slice.result.now all c.written-in-Some.result there of_fields of_places (c.written-in-Some.ensures.stands all are) in
    subst (λ (columns : Columns). IfOk c.written-in-Some.result (λ (copy : Vec ℕ Global). IsAskedFile options columns limit fs all copy.items)) (sym view) asked
