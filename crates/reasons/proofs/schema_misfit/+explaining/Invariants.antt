use Rattle.std.proofs.Common.{◌+◌, ◌*◌}
use Rattle.reasons.proofs.schema_misfit.+explaining.Given as goal

-- the fields of a group are one less deep than it
abbrev pub decreases-of_field : goal.decreases-of_field
decreases-of_field l = 2 * l.deep

abbrev pub decreases-of_fields : goal.decreases-of_fields
decreases-of_fields l = 2 * l.deep + 1
