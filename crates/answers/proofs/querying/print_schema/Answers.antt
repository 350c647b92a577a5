use Rattle.std.proofs.Common.{◌∷◌, [], ◌++◌, OnOk, subst}
use Rattle.std.specs.Io.KnownBytes.{Appends}
use Rattle.serde_json.specs.Data.{Items, array}
use Rattle.serde_json.specs.Written.{compact_text}
use Rattle.schema.specs.Shape.{Fields}
use Rattle.jsonrows.specs.SchemaPrinted.{PrintsFields}
use Rattle.answers.proofs.querying.print_schema.Goals as goal

pub returns : goal.returns
returns g c = record {
  printed = λ s stands.
      let before = g.W.Write.contents c.args.out.now in
      let after = g.W.Write.contents c.print_columns.new.out in
      subst (λ (t : Fields). OnOk c.print_columns.result ((ds : Items) × PrintsFields t ds × Appends before after (compact_text (array ds) ++ 10 ∷ []))) (c.schema.ensures s stands) c.print_columns.ensures.written;
}
