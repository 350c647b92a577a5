use Rattle.std.proofs.Common.{◌∷◌, [], ◌++◌, subst}
use Rattle.std.proofs.lemmas.Result.{on_ok_weaker}
use Rattle.std.specs.Io.KnownBytes.{Appends}
use Rattle.serde_json.specs.Data.{Items, array}
use Rattle.serde_json.specs.Written.{compact_text}
use Rattle.schema.specs.Elements.{elements_view}
use Rattle.schema.specs.Listing.{IsSchemaOf}
use Rattle.metadata.specs.Views.{file_meta_view}
use Rattle.jsonrows.specs.SchemaPrinted.{PrintsFields}
use Rattle.answers.proofs.querying.print_schema_of.Goals as goal

pub returns : goal.returns
returns g c = record {
  printed =
      let before = g.W.Write.contents c.args.out.now in
      let after = g.W.Write.contents c.print_columns.new.out in
      let fs = c.in_ok-schema.schema in
      on_ok_weaker c.print_columns.result (λ (p : (ds : Items) × PrintsFields fs ds × Appends before after (compact_text (array ds) ++ 10 ∷ [])). (
        fs,
        record { front = c.in_ok-record.ensures.stands.0; meta = file_meta_view c.in_ok-record.record; file = c.in_ok-record.ensures.stands.1; schema = subst (λ es. IsSchemaOf (elements_view es) fs) c.as_slice.ensures.value c.in_ok-schema.ensures.stands },
        p,
      )) c.print_columns.ensures.written;
}
