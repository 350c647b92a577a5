use Rattle.std.proofs.Common.{◌≡◌, ◌∙◌, ◌⊎◌, inl, inr, List, ℕ, sym, subst}
use Rattle.std.proofs.lemmas.Result.{on_ok_weaker}
use Rattle.bits.specs.declared.refusal.Refusal.{Refusal}
use Rattle.bits.proofs.Passing.{passes}
use Rattle.program.specs.Paths.{HasBytes, IsPlaceRefusal}
use Rattle.program.specs.Program.{AreRefusedFiles, IsFileOf}
use Rattle.program.proofs.Endings.{err_weaker, by_file, by_schema_bytes, by_rows_bytes, by_texts}
use Rattle.program.proofs.encode.encode.Goals as goal

pub returns-in_err-schema_bytes-clause-which : goal.returns-in_err-schema_bytes-clause-which
returns-in_err-schema_bytes-clause-which g c =
    let s = c.args.sources.now in
    let files = g.P.Paths.files c.args.paths.now in
    let e = c.in_err-schema_bytes.field-0.0 in
    passes (AreRefusedFiles s.texts s.options (files s.schema.now) (files s.rows.now) (files c.args.path.now)) c.from_residual.result e c.from_residual.ensures.1
    (inr (by_file s.texts s.options (files s.schema.now) (files s.rows.now) e c.in_err-schema_bytes.ensures.which))

pub returns-in_err-rows_bytes-clause-which : goal.returns-in_err-rows_bytes-clause-which
returns-in_err-rows_bytes-clause-which g c =
    let s = c.args.sources.now in
    let files = g.P.Paths.files c.args.paths.now in
    let e = c.in_err-rows_bytes.field-0.0 in
    passes (AreRefusedFiles s.texts s.options (files s.schema.now) (files s.rows.now) (files c.args.path.now)) c.from_residual-in_err-rows_bytes.result e
    c.from_residual-in_err-rows_bytes.ensures.1
    (inr (by_file s.texts s.options (files s.schema.now) (files s.rows.now) e c.in_err-rows_bytes.ensures.which))

pub returns-in_err-schema_text-clause-which : goal.returns-in_err-schema_text-clause-which
returns-in_err-schema_text-clause-which g c =
    let s = c.args.sources.now in
    let files = g.P.Paths.files c.args.paths.now in
    let e = c.in_err-schema_text.field-0.0 in
    passes (AreRefusedFiles s.texts s.options (files s.schema.now) (files s.rows.now) (files c.args.path.now)) c.from_residual-in_err-schema_text.result e
    c.from_residual-in_err-schema_text.ensures.1
    (inr (by_schema_bytes s.texts s.options (files s.schema.now)
    (files s.rows.now) c.in_ok-schema_bytes.schema_bytes.items c.as_slice.result.now e c.in_ok-schema_bytes.ensures.has c.as_slice.ensures.value
    c.in_err-schema_text.ensures.which))

pub returns-in_err-rows_text-clause-which : goal.returns-in_err-rows_text-clause-which
returns-in_err-rows_text-clause-which g c =
    let s = c.args.sources.now in
    let files = g.P.Paths.files c.args.paths.now in
    let e = c.in_err-rows_text.field-0.0 in
    passes (AreRefusedFiles s.texts s.options (files s.schema.now) (files s.rows.now) (files c.args.path.now)) c.from_residual-in_err-rows_text.result e
    c.from_residual-in_err-rows_text.ensures.1
    (inr (by_rows_bytes s.texts s.options (files s.schema.now)
    (files s.rows.now) c.in_ok-rows_bytes.rows_bytes.items c.as_slice-2.result.now e c.in_ok-rows_bytes.ensures.has c.as_slice-2.ensures.value
    c.in_err-rows_text.ensures.which))

pub returns-in_err-file-clause-which : goal.returns-in_err-file-clause-which
returns-in_err-file-clause-which g c =
    let s = c.args.sources.now in
    let files = g.P.Paths.files c.args.paths.now in
    let e = c.in_err-file.field-0.0 in
    let schema : HasBytes (files s.schema.now) c.in_ok-schema_text.schema_text.now =
    subst (HasBytes (files s.schema.now)) (sym (c.in_ok-schema_text.ensures.stands ∙ c.as_slice.ensures.value)) c.in_ok-schema_bytes.ensures.has in
    let rows : HasBytes (files s.rows.now) c.in_ok-rows_text.rows_text.now =
    subst (HasBytes (files s.rows.now)) (sym (c.in_ok-rows_text.ensures.stands ∙ c.as_slice-2.ensures.value)) c.in_ok-rows_bytes.ensures.has in
    passes (AreRefusedFiles s.texts s.options (files s.schema.now) (files s.rows.now) (files c.args.path.now)) c.from_residual-in_err-file.result e
    c.from_residual-in_err-file.ensures.1
    (inr (by_texts s.texts s.options (files s.schema.now) (files s.rows.now) c.in_ok-schema_text.schema_text.now c.in_ok-rows_text.rows_text.now e schema rows
    c.in_err-file.ensures.which))

pub returns-clause-makes : goal.returns-clause-makes
returns-clause-makes g c =
    let s = c.args.sources.now in
    let files = g.P.Paths.files c.args.paths.now in
    let schema : HasBytes (files s.schema.now) c.in_ok-schema_text.schema_text.now =
    subst (HasBytes (files s.schema.now)) (sym (c.in_ok-schema_text.ensures.stands ∙ c.as_slice.ensures.value)) c.in_ok-schema_bytes.ensures.has in
    let rows : HasBytes (files s.rows.now) c.in_ok-rows_text.rows_text.now =
    subst (HasBytes (files s.rows.now)) (sym (c.in_ok-rows_text.ensures.stands ∙ c.as_slice-2.ensures.value)) c.in_ok-rows_bytes.ensures.has in
    on_ok_weaker c.put_new.result
    (λ made. record {
      schema_text = c.in_ok-schema_text.schema_text.now;
      rows_text = c.in_ok-rows_text.rows_text.now;
      bytes = c.as_slice-3.result.now;
      schema = schema;
      rows = rows;
      is = subst (λ (bytes : List ℕ). IsFileOf s.texts s.options c.in_ok-schema_text.schema_text.now c.in_ok-rows_text.rows_text.now bytes)
          (sym c.as_slice-3.ensures.value) c.in_ok-file.ensures.stands;
      made = made;
    }) c.put_new.ensures.makes

pub returns-clause-which : goal.returns-clause-which
returns-clause-which g c =
    let s = c.args.sources.now in
    let files = g.P.Paths.files c.args.paths.now in
    err_weaker (IsPlaceRefusal (files c.args.path.now)) (AreRefusedFiles s.texts s.options (files s.schema.now) (files s.rows.now) (files c.args.path.now))
    (λ e h. inl h) c.put_new.result c.put_new.ensures.which
