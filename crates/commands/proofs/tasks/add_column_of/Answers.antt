use Rattle.std.proofs.Common.{ℕ, List, subst}
use Rattle.jsonrows.specs.SchemaJson.{IsRefusedSchema}
use Rattle.answers.specs.Making.{Makes, AsksColumn}
use Rattle.commands.proofs.tasks.add_column_of.Goals as goal

pub returns : goal.returns
returns g c =
    let told = c.in_ok-text.ensures.text in
    record {
      adds = record {
        text = λ is. subst (λ (t : List ℕ). Makes g.D.Disk.state c.args.store.now c.add_column.new.store (AsksColumn t) (λ fs. IsRefusedSchema t) c.add_column.result) told.0 c.add_column.ensures.makes;
        no_text = λ none. absurd (none told.1);
      };
    }
