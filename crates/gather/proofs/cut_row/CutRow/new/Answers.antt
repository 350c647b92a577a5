use Rattle.std.proofs.Common.{refl, sym, ◌∙◌}
use Rattle.std.proofs.lemmas.List.{length-map}
use Rattle.schema.specs.Keys.{key_column_view, key_columns_view}
use Rattle.gather.proofs.CutShowing.{cut_begins}
use Rattle.gather.proofs.cut_row.CutRow.new.Goals as goal

pub returns-clause-begins : goal.returns-clause-begins
returns-clause-begins c = cut_begins (key_columns_view c.args.columns.now) _ (c.in_ok-key.ensures.many ∙ sym (length-map c.args.columns.now key_column_view)) refl refl c.in_ok-rest.ensures.begins
