use Rattle.std.proofs.Common.{sym, ◌∙◌}
use Rattle.std.proofs.lemmas.Result.{on_ok_weaker}
use Rattle.metadata.specs.Views.{group_meta_view}
use Rattle.row_group.proofs.FlatGroups.{flat_rows}
use Rattle.row_group.proofs.rows.check_rows.Goals as goal

pub returns-then-have_counts-clause-stands : goal.returns-then-have_counts-clause-stands
returns-then-have_counts-clause-stands c =
    on_ok_weaker c.check_chunks.result
    (λ sound. flat_rows c.flat_columns_have_rows.ensures c.args.front.now c.args.schema.now (group_meta_view c.args.meta.now) c.args.count (sym c.is_flat.ensures ∙ c.if-is_flat.true) (c.have_counts.ensures.0 c.if-have_counts.true) sound)
    c.check_chunks.ensures.stands
