use Rattle.std.proofs.Common.{ap, ◌∙◌}
use Rattle.thrift_compact.specs.View.{field_views, tree_view}
use Rattle.thrift_compact.specs.inner.Writable.{can_write_fields}
use Rattle.thrift_compact.proofs.Tested.{tells}
use Rattle.thrift_compact.proofs.writable.has_bytes.Goals as goal

pub returns : goal.returns
returns c =
    let tested = c.can_write_fields.ensures ∙ ap (λ fs. can_write_fields c.min.result (field_views fs)) c.as_slice.ensures.value in
    tells c.can_write_fields.result c.args.deep c.min.result (tree_view c.args.tree.now) tested c.min.ensures
