use Rattle.std.proofs.Common.{◌≡◌, ◌∙◌, [], ◌∷◌, map, sym, ap, subst}
use Rattle.schema.specs.Shape.{Fields}
use Rattle.metadata.specs.Views.{file_meta_view, group_meta_view}
use Rattle.manifest.specs.Groups.{group_view}
use Rattle.upkeep.specs.Intact.{HoldsRows}
use Rattle.upkeep.specs.inner.Files.{HoldsAs}
use Rattle.upkeep.proofs.Filling.{found_map}
use Rattle.upkeep.proofs.part.fault_of_groups.Goals as goal

pub fault_of_group-requires : goal.fault_of_group-requires
fault_of_group-requires c = record { meta = file_meta_view c.args.meta.now; read = c.requires; one = ap (map group_meta_view) (sym c.as_slice.ensures.value) ∙ c.in-Some.ensures }

pub returns-in-Some-clause-holds : goal.returns-in-Some-clause-holds
returns-in-Some-clause-holds c =
    let g = group_view c.args.group.now in
    let bytes = c.args.bytes.now in
    found_map c.fault_of_group.result (HoldsAs c.args.schema.now g bytes) (HoldsRows c.args.stored.now g bytes)
    (λ holds. subst (λ (fs : Fields). HoldsAs fs g bytes) (c.has_first_fields.ensures c.if-not-has_first_fields.false) holds) c.fault_of_group.ensures.holds
