use Rattle.std.proofs.Common.{◌≡◌, ap, sym, ◌∙◌, subst, arith, string_bytes, length}
use Rattle.std.proofs.lemmas.Bool.{false≢true}
use Rattle.schema.specs.Keys.{key_columns_view}
use Rattle.schema.specs.Shape.{Fields, count}
use Rattle.partition.specs.inner.Checks.{are_key_columns}
use Rattle.partition.proofs.Partitioning.{columns_are, are_columns}
use Rattle.partition.proofs.KeyColumns.{AreThere, named_at, one_list, keys_can, count_is, lengths, all_named, can_be_keys}
use Rattle.partition.proofs.columns.key_columns.Goals as goal

pub returns-then-names-fields-clause-only : goal.returns-then-names-fields-clause-only
returns-then-names-fields-clause-only c = λ u keys are same.
    let many = lengths (λ k. k.name) string_bytes keys c.args.names.now same in
    let all : count c.args.schema.now ≡ length c.fields-fields.result.now = ap count (sym c.fields-fields.ensures) ∙ count_is c.fields-fields.result.now in
    omega (arith, are.rest, many, all)

pub returns-in-None-clause-only : goal.returns-in-None-clause-only
returns-in-None-clause-only c = λ u keys are same.
    let there = subst (λ (fs : Fields). AreThere fs keys) (sym c.fields-fields.ensures) are.there in
    named_at string_bytes _ keys c.args.names.now c.loop-name.name-index c.name-item.result same (omega arith) c.name-item.is there
    (rw c.as_str.ensures.value at (rw c.in-None.is at c.in_ok-column.ensures.stands))

pub returns-then-are_key_columns-clause-stands : goal.returns-then-are_key_columns-clause-stands
returns-then-are_key_columns-clause-stands c =
    let are = columns_are (key_columns_view c.loop-name.columns.items) (sym (c.if-are_key_columns.ensures ∙ ap (λ cs. are_key_columns (key_columns_view cs)) c.as_slice.ensures.value)) in
    let same = all_named string_bytes _ c.args.names.now c.loop-name.name-index (omega arith) c.loop-name.invariant.named in
    let many = lengths (λ k. k.name) string_bytes (key_columns_view c.loop-name.columns.items) c.args.names.now same in
    let all : count c.args.schema.now ≡ length c.fields-fields.result.now = ap count (sym c.fields-fields.ensures) ∙ count_is c.fields-fields.result.now in
    let there = subst (λ (fs : Fields). AreThere fs (key_columns_view c.loop-name.columns.items)) c.fields-fields.ensures c.loop-name.invariant.there in
    can_be_keys _ _ are (omega (arith, many, all)) there

-- the columns are these keys, which can partition
pub returns-else-are_key_columns-clause-only : goal.returns-else-are_key_columns-clause-only
returns-else-are_key_columns-clause-only c = λ u keys are same.
    let found = all_named string_bytes _ c.args.names.now c.loop-name.name-index (omega arith) c.loop-name.invariant.named in
    let there = subst (λ (fs : Fields). AreThere fs (key_columns_view c.loop-name.columns.items)) c.fields-fields.ensures c.loop-name.invariant.there in
    let one = one_list c.args.schema.now (key_columns_view c.loop-name.columns.items) keys c.leaves.ensures.valid.0.differ there are.there (found ∙ sym same) in
    let can = are_columns keys (keys_can keys c.args.schema.now c.leaves.ensures.valid.0.differ are) in
    false≢true (c.if-are_key_columns.ensures ∙ ap (λ cs. are_key_columns (key_columns_view cs)) c.as_slice.ensures.value ∙ ap are_key_columns one ∙ can)
