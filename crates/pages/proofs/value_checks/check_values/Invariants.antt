use Rattle.std.proofs.Common.{map, drop}
use Rattle.std.specs.Prelude.{◌↔◌}
use Rattle.schema.specs.Borrowed.{value_ref_view}
use Rattle.schema.specs.Views.{leaf_type_view}
use Rattle.pages.specs.inner.Reading.{AllFit}
use Rattle.pages.proofs.value_checks.check_values.Given as goal

-- all fit just where those that are left do
abbrev pub invariant-loop-value : goal.invariant-loop-value
invariant-loop-value l = AllFit (leaf_type_view l.leaf_type) (map value_ref_view (drop l.value-index l.values)) ↔ AllFit (leaf_type_view l.leaf_type) (map value_ref_view l.values)
