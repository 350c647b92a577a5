use Rattle.std.proofs.Common.{◌≡◌, ◌∙◌, List, ℕ, sym, subst}
use Rattle.std.specs.Io.KnownBytes.{Appends}
use Rattle.std.proofs.lemmas.Result.{on_ok_weaker}
use Rattle.lists.proofs.Options.{on_ok_always as on_ok_anyway}
use Rattle.bits.proofs.Passing.{passes}
use Rattle.bits.specs.Refusals.{HasCause}
use Rattle.bits.specs.declared.refusal.Refusal.TheVariants.{Device}
use Rattle.program.specs.Paths.{HasBytes}
use Rattle.program.specs.Program.{AreRefusedSources}
use Rattle.program.proofs.Endings.{err_weaker, unwritten, by_file, by_schema_bytes, by_rows_bytes, by_texts}
use Rattle.program.proofs.check.check.Goals as goal

pub returns-in_err-schema_bytes-clause-which : goal.returns-in_err-schema_bytes-clause-which
returns-in_err-schema_bytes-clause-which g c =
    let s = c.args.sources.now in
    let files = g.P.Paths.files c.args.paths.now in
    let e = c.in_err-schema_bytes.field-0.0 in
    passes (AreRefusedSources s.texts s.options (files s.schema.now) (files s.rows.now)) c.from_residual.result e c.from_residual.ensures.1
    (by_file s.texts s.options (files s.schema.now) (files s.rows.now) e c.in_err-schema_bytes.ensures.which)

pub returns-in_err-rows_bytes-clause-which : goal.returns-in_err-rows_bytes-clause-which
returns-in_err-rows_bytes-clause-which g c =
    let s = c.args.sources.now in
    let files = g.P.Paths.files c.args.paths.now in
    let e = c.in_err-rows_bytes.field-0.0 in
    passes (AreRefusedSources s.texts s.options (files s.schema.now) (files s.rows.now)) c.from_residual-in_err-rows_bytes.result e
    c.from_residual-in_err-rows_bytes.ensures.1
    (by_file s.texts s.options (files s.schema.now) (files s.rows.now) e c.in_err-rows_bytes.ensures.which)

pub returns-in_err-schema_text-clause-which : goal.returns-in_err-schema_text-clause-which
returns-in_err-schema_text-clause-which g c =
    let s = c.args.sources.now in
    let files = g.P.Paths.files c.args.paths.now in
    let e = c.in_err-schema_text.field-0.0 in
    passes (AreRefusedSources s.texts s.options (files s.schema.now) (files s.rows.now)) c.from_residual-in_err-schema_text.result e
    c.from_residual-in_err-schema_text.ensures.1
    (by_schema_bytes s.texts s.options (files s.schema.now) (files s.rows.now) c.in_ok-schema_bytes.schema_bytes.items c.as_slice.result.now e
    c.in_ok-schema_bytes.ensures.has c.as_slice.ensures.value c.in_err-schema_text.ensures.which)

pub returns-in_err-rows_text-clause-which : goal.returns-in_err-rows_text-clause-which
returns-in_err-rows_text-clause-which g c =
    let s = c.args.sources.now in
    let files = g.P.Paths.files c.args.paths.now in
    let e = c.in_err-rows_text.field-0.0 in
    passes (AreRefusedSources s.texts s.options (files s.schema.now) (files s.rows.now)) c.from_residual-in_err-rows_text.result e
    c.from_residual-in_err-rows_text.ensures.1
    (by_rows_bytes s.texts s.options (files s.schema.now) (files s.rows.now) c.in_ok-rows_bytes.rows_bytes.items c.as_slice-2.result.now e
    c.in_ok-rows_bytes.ensures.has c.as_slice-2.ensures.value c.in_err-rows_text.ensures.which)

pub returns-in-Ok-clause-stands : goal.returns-in-Ok-clause-stands
returns-in-Ok-clause-stands g c =
    let s = c.args.sources.now in
    let files = g.P.Paths.files c.args.paths.now in
    let schema : HasBytes (files s.schema.now) c.in_ok-schema_text.schema_text.now =
    subst (HasBytes (files s.schema.now)) (sym (c.in_ok-schema_text.ensures.stands ∙ c.as_slice.ensures.value)) c.in_ok-schema_bytes.ensures.has in
    let rows : HasBytes (files s.rows.now) c.in_ok-rows_text.rows_text.now =
    subst (HasBytes (files s.rows.now)) (sym (c.in_ok-rows_text.ensures.stands ∙ c.as_slice-2.ensures.value)) c.in_ok-rows_bytes.ensures.has in
    on_ok_weaker c.write_whole.result
    (λ w. record {
      schema_text = c.in_ok-schema_text.schema_text.now;
      rows_text = c.in_ok-rows_text.rows_text.now;
      schema = schema;
      rows = rows;
      count = c.in-Ok.count;
      have = c.in-Ok.ensures.stands;
      note = _;
      written = subst (Appends (g.W.Write.contents c.args.out.now) (g.W.Write.contents c.write_whole.new.out))
          (c.as_slice-in-Ok-2.ensures.value ∙ c.in_ok-answer-in-Ok.ensures) w;
    }) c.write_whole.ensures.stands

pub returns-in-Ok-clause-which : goal.returns-in-Ok-clause-which
returns-in-Ok-clause-which g c =
    let s = c.args.sources.now in
    let files = g.P.Paths.files c.args.paths.now in
    err_weaker (HasCause (λ x. x ≡ Device)) (AreRefusedSources s.texts s.options (files s.schema.now) (files s.rows.now))
    (by_file s.texts s.options (files s.schema.now) (files s.rows.now)) c.write_whole.result c.write_whole.ensures.which

pub returns-in-Ok-clause-unwritten : goal.returns-in-Ok-clause-unwritten
returns-in-Ok-clause-unwritten g c = unwritten _ _ c.write_whole.result c.write_whole.ensures.which

pub returns-clause-which : goal.returns-clause-which
returns-clause-which g c =
    let s = c.args.sources.now in
    let files = g.P.Paths.files c.args.paths.now in
    let schema : HasBytes (files s.schema.now) c.in_ok-schema_text.schema_text.now =
    subst (HasBytes (files s.schema.now)) (sym (c.in_ok-schema_text.ensures.stands ∙ c.as_slice.ensures.value)) c.in_ok-schema_bytes.ensures.has in
    let rows : HasBytes (files s.rows.now) c.in_ok-rows_text.rows_text.now =
    subst (HasBytes (files s.rows.now)) (sym (c.in_ok-rows_text.ensures.stands ∙ c.as_slice-2.ensures.value)) c.in_ok-rows_bytes.ensures.has in
    by_texts s.texts s.options (files s.schema.now) (files s.rows.now) c.in_ok-schema_text.schema_text.now c.in_ok-rows_text.rows_text.now c.in-Err.refusal
    schema rows c.in-Err.ensures.which

pub returns-in-Ok-clause-quiet : goal.returns-in-Ok-clause-quiet
returns-in-Ok-clause-quiet g c = on_ok_anyway (g.E.Write.contents c.counted.new.err ≡ g.E.Write.contents c.args.err.now) c.write_whole.result c.counted.ensures.quiet
