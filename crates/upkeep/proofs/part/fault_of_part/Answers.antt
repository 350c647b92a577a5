use Rattle.schema.specs.Values.{ValueTrees}
use Rattle.manifest.specs.Groups.{group_view}
use Rattle.upkeep.specs.Intact.{HoldsRows}
use Rattle.upkeep.proofs.Filling.{found_map}
use Rattle.upkeep.proofs.part.fault_of_part.Goals as goal

pub fault_of_file-requires : goal.fault_of_file-requires
fault_of_file-requires c = record { short = c.in-Ok.ensures.within_limits; alone = c.in-Ok.ensures.alone }

pub returns-in-Err-clause-holds : goal.returns-in-Err-clause-holds
returns-in-Err-clause-holds c = found_map c.refused.result ⊥ (HoldsRows c.args.stored.now (group_view c.args.group.now) c.args.bytes.now) (λ no. absurd no) c.refused.ensures.some
