use Rattle.std.proofs.Common.{◌≡◌, ◌∙◌, pos, map, sym, ap}
use Rattle.metadata.specs.Views.{chunk_meta_view, group_meta_view}
use Rattle.manifest.specs.Groups.{group_view}
use Rattle.upkeep.specs.inner.Files.{HoldsAs, FillsColumns}
use Rattle.upkeep.proofs.Filling.{found_map}
use Rattle.upkeep.proofs.Holding.{holds_as}
use Rattle.upkeep.proofs.part.fault_of_group.Goals as goal

pub returns-clause-holds : goal.returns-clause-holds
returns-clause-holds c =
    let g = group_view c.args.group.now in
    let own = group_meta_view c.args.own.now in
    let bytes = c.args.bytes.now in
    let fs = c.args.schema.now in
    let counted = c.has_rows.ensures c.if-not-has_rows.false ∙ ap pos c.rows.ensures in
    let records : own.columns ≡ g.chunks = ap (map chunk_meta_view) (sym c.as_slice.ensures.value) ∙ c.in-None.ensures ∙ ap (map chunk_meta_view) c.as_slice-2.ensures.value ∙ c.in_ok-told.ensures.are in
    found_map c.fault_in_columns.result (FillsColumns fs g bytes) (HoldsAs fs g bytes) (holds_as bytes fs own g c.requires c.one_meaning.ensures.column counted records) c.fault_in_columns.ensures.fills
