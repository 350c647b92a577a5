use Rattle.std.proofs.Common.{◌∙◌, ap, Some, arith}
use Rattle.schema.specs.Shape.{fields}
use Rattle.schema.specs.Views.{field_views}
use Rattle.schema.proofs.Seen.{view-Group}
use Rattle.schema.proofs.CutSteps.{group_some}
use Rattle.schema.proofs.cutting.group_of.Goals as goal

pub returns-clause-group_is : goal.returns-clause-group_is
returns-clause-group_is c =
    ap Some (view-Group c.in_ok-name.name c.args.repetition c.args.annotation c.args.fields)
    ∙ ap (λ n. Some (fields n c.args.repetition c.args.annotation (field_views c.args.fields.items))) c.in_ok-name.ensures.ok
    ∙ group_some c.args.name.now c.args.repetition c.args.annotation c.args.fields.items (λ e. grind (arith, e))
