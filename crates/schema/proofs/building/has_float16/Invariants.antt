use Rattle.std.proofs.Common.{◌≡◌, drop}
use Rattle.thrift_compact.specs.View.{field_views}
use Rattle.schema.specs.Annotations.{is_half}
use Rattle.schema.proofs.building.has_float16.Given as goal

-- what is left has it just where all has it
abbrev pub invariant-loop-member : goal.invariant-loop-member
invariant-loop-member l = is_half (field_views (drop l.member-index l.members)) ≡ is_half (field_views l.members)
