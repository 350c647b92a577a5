use Rattle.std.proofs.Common.{sym, subst, ◌∙◌}
use Rattle.std.proofs.lemmas.List.{length-map}
use Rattle.schema.specs.Shape.{Fields}
use Rattle.schema.specs.Keys.{key_column_view, key_columns_view, IsTableOver}
use Rattle.gather.proofs.gathered.Gathered.new.Goals as goal

pub returns-clause-begins : goal.returns-clause-begins
returns-clause-begins c =
    let columns = c.args.columns.now in
    record {
      gathered = record {
        table = subst (λ (fs : Fields). IsTableOver (key_columns_view columns) fs c.args.schema.now) (sym c.new-buffers.ensures.schema) c.requires.table;
        fit = tt;
        buffers = c.new-buffers.ensures.begins (key_columns_view columns);
        parts = c.in_ok-row.ensures.parts ∙ sym (length-map columns key_column_view);
      };
      row = c.in_ok-row.ensures.begins;
    }
