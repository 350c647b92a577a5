use Rattle.std.proofs.Common.{List, length, map, subst}
use Rattle.schema.specs.declared.borrowed.EntryRef.{EntryRef}
use Rattle.schema.specs.Borrowed.{entry_ref_view}
use Rattle.schema.specs.Views.{leaf_view}
use Rattle.row_group.specs.Writing.{IsChunkTooMuch}
use Rattle.row_group.proofs.Passed.{passed}
use Rattle.row_group.proofs.group_writing.write_column.Goals as goal

pub returns-in_err-meta_data-clause-limit : goal.returns-in_err-meta_data-clause-limit
returns-in_err-meta_data-clause-limit c = λ limit.
    subst (λ (xs : List EntryRef). IsChunkTooMuch (leaf_view c.args.leaf.now) c.args.options (length c.args.out.now.items) (map entry_ref_view xs)) c.as_slice.ensures.value
    (c.in_err-meta_data.ensures.limit (passed c.from_residual.result c.in_err-meta_data.field-0.0 _ c.from_residual.ensures.1 limit))
