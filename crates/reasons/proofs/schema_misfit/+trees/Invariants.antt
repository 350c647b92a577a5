use Rattle.std.proofs.Common.{◌+◌, ◌*◌}
use Rattle.reasons.proofs.schema_misfit.+trees.Given as goal

-- the fields of a field are one less deep than it
abbrev pub decreases-of_inner_tree : goal.decreases-of_inner_tree
decreases-of_inner_tree l = 2 * l.deep

abbrev pub decreases-of_field_tree : goal.decreases-of_field_tree
decreases-of_field_tree l = 2 * l.deep + 1
