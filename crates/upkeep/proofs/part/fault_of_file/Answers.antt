use Rattle.std.proofs.Common.{sym, subst}
use Rattle.schema.specs.Shape.{Fields}
use Rattle.metadata.specs.Views.{file_meta_view}
use Rattle.manifest.specs.Groups.{group_view}
use Rattle.upkeep.specs.Intact.{HoldsRows}
use Rattle.upkeep.specs.inner.Files.{IsReadAs}
use Rattle.upkeep.proofs.Filling.{found_map}
use Rattle.upkeep.proofs.Holding.{read_as}
use Rattle.upkeep.proofs.part.fault_of_file.Goals as goal

pub fault_of_groups-requires : goal.fault_of_groups-requires
fault_of_groups-requires c =
    let bytes = c.args.bytes.now in
    let meta = file_meta_view c.args.meta.now in
    let stands = c.in-Ok.ensures.stands in
    subst (λ (fs : Fields). IsReadAs bytes meta fs) (sym c.schema.ensures) (read_as bytes meta c.in-Ok.file.schema stands.0 c.requires stands.1 c.in-Ok.ensures.within_limits)

pub returns-in-Err-clause-holds : goal.returns-in-Err-clause-holds
returns-in-Err-clause-holds c = found_map c.refused.result ⊥ (HoldsRows c.args.stored.now (group_view c.args.group.now) c.args.bytes.now) (λ no. absurd no) c.refused.ensures.some
