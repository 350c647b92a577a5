use Rattle.std.proofs.Common.{◌≡◌, ℕ, ◌<◌, Some}
use Rattle.schema.specs.Keys.{key_type, field_at}
use Rattle.schema.specs.Shape.{leaf}
use Rattle.schema.specs.Views.{field_views}
use Rattle.schema.specs.declared.key.KeyKind.{KeyKind}
use Rattle.schema.specs.declared.value.Repetition.TheVariants.{Required}
use Rattle.partition.proofs.columns.key_column.Given as goal

abbrev pub invariant-loop-at : goal.invariant-loop-at
invariant-loop-at l = (at : ℕ) (k : KeyKind) → at < l.at → field_at at (field_views l.fields) ≡ Some (leaf l.name Required (key_type k)) → ⊥
